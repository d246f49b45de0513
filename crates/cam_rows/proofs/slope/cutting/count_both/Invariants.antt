use Rattle.std.proofs.Common.{◌≡◌, ◌↔◌, ℕ, ◌+◌, ◌*◌, ◌^◌, ◌<◌}
use Rattle.cam_rows.specs.Machinery.Narrowing.{IsUp}
use Rattle.cam_rows.specs.Machinery.Slopes.{IsCrossing, falling, lowered}
use Rattle.cam_rows.proofs.SetRows.{AreSetAbove}
use Rattle.cam_rows.proofs.slope.cutting.count_both.Given as goal

abbrev pub invariant-loop-k : goal.invariant-loop-k
invariant-loop-k l = record {
  low : falling l.first l.steps ≡ lowered l.k (falling l.fn.low l.steps);
  high : falling l.end l.steps ≡ lowered l.k (falling l.fn.high l.steps);
  near_low : IsCrossing l.steps (2 ^ 61 + 1 + l.k * 2 ^ 41) l.first;
  near_high : IsCrossing l.steps (2 ^ 61 + 1 + l.k * 2 ^ 41) l.end;
  firsts : AreSetAbove
      (λ k n. (i : ℕ) → (i < n) ↔ ((i < l.columns) × IsUp (falling l.fn.low l.steps) k i)) l.fn.firsts l.k l.firsts;
  ends : AreSetAbove
      (λ k n. (i : ℕ) → (i < n) ↔ ((i < l.columns) × IsUp (falling l.fn.high l.steps) k i)) l.fn.ends l.k l.ends;
}
