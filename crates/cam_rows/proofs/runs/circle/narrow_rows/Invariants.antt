use Rattle.std.proofs.Common.{◌≡◌, ◌<◌, length}
use Rattle.cam_shapes.specs.Plane.{seen_from}
use Rattle.cam_rows.specs.Machinery.Chords.{AreOffsetsFrom, IsChord}
use Rattle.cam_rows.specs.Machinery.Narrowing.{IsNearer}
use Rattle.cam_rows.specs.Rows.{centre_at, first_centre, row_below}
use Rattle.cam_rows.proofs.NarrowedRuns.{AreNarrowedAbove}
use Rattle.cam_rows.proofs.runs.circle.narrow_rows.Given as goal

abbrev pub invariant-loop-k : goal.invariant-loop-k
invariant-loop-k g l = record {
  chord : IsChord g.row.REACH l.chord;
  offsets : AreOffsetsFrom l.top l.point l.chord.offsets;
  left : l.chord.left.columns ≡ l.fn.chord.left.columns;
  right : l.chord.right.columns ≡ l.fn.chord.right.columns;
  height : l.k < length l.initial.firsts → l.height ≡ (seen_from l.point (first_centre (row_below l.top l.k))).y;
  narrowed :
      AreNarrowedAbove l.top.n l.initial.firsts l.initial.ends
      (λ k i. IsNearer l.point l.bound (centre_at (row_below l.top k) i)) l.k l.firsts l.ends;
}
