use Rattle.std.proofs.Common.{◌↔◌, ℕ, ◌<◌, ◌≤◌}
use Rattle.cam_rows.specs.Machinery.Narrowing.{IsUp}
use Rattle.cam_rows.proofs.SetRows.{AreSetAbove}
use Rattle.cam_rows.proofs.half_plane.HalfPlane.count_columns.Given as goal

abbrev pub invariant-loop-k : goal.invariant-loop-k
invariant-loop-k l = record {
  counted : AreSetAbove
      (λ k n. ((i : ℕ) → i < l.columns → (i < n) ↔ IsUp l.self k i) × (n ≤ l.columns)) l.fn.ends l.k l.ends;
}
