use Rattle.cam_rows.specs.Machinery.Narrowing.{IsUp}
use Rattle.cam_rows.proofs.NarrowedRuns.{AreNarrowedAbove}
use Rattle.cam_rows.proofs.half_plane.HalfPlane.narrow.Given as goal

abbrev pub invariant-loop-k : goal.invariant-loop-k
invariant-loop-k l = record {
  narrowed : AreNarrowedAbove l.columns l.fn.firsts l.fn.ends (IsUp l.self) l.k l.firsts l.ends;
}
