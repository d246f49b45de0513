use Rattle.std.proofs.Common.{IsTrue}
use Rattle.cam_shapes.specs.Cap.{is_in_circle}
use Rattle.cam_shapes.specs.Plane.{seen_from, way}
use Rattle.cam_rows.specs.Machinery.Chords.{AreOffsetsFrom, IsChord}
use Rattle.cam_rows.proofs.WideRows.{AreRunsAbove}
use Rattle.cam_rows.proofs.runs.cap.rows_of.Given as goal

abbrev pub invariant-loop-k : goal.invariant-loop-k
invariant-loop-k g l = record {
  chord : IsChord g.row.REACH l.chord;
  offsets : AreOffsetsFrom l.top l.cap.centre l.chord.offsets;
  found : AreRunsAbove l.firsts l.ends l.top
      (λ s. IsTrue (is_in_circle (way l.cap.centre l.cap.from) (seen_from l.cap.centre s))) l.k;
}
