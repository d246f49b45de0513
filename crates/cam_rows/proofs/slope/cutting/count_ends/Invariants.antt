use Rattle.std.proofs.Common.{◌≡◌, ◌↔◌, ℕ, ◌+◌, ◌*◌, ◌^◌, ◌<◌}
use Rattle.cam_rows.specs.Machinery.Narrowing.{IsUp}
use Rattle.cam_rows.specs.Machinery.Slopes.{IsCrossing, falling, lowered}
use Rattle.cam_rows.proofs.SetRows.{AreSetAbove}
use Rattle.cam_rows.proofs.slope.cutting.count_ends.Given as goal

abbrev pub invariant-loop-k : goal.invariant-loop-k
invariant-loop-k l = record {
  lowered : falling l.crossing l.steps ≡ lowered l.k (falling l.fn.top l.steps);
  here : IsCrossing l.steps (2 ^ 61 + 1 + l.k * 2 ^ 41) l.crossing;
  counted : AreSetAbove
      (λ k n. (i : ℕ) → (i < n) ↔ ((i < l.columns) × IsUp (falling l.fn.top l.steps) k i)) l.fn.ends l.k l.ends;
}
