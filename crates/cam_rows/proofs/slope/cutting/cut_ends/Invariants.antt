use Rattle.std.proofs.Common.{◌≡◌, ◌↔◌, min, ℕ, ◌+◌, ◌*◌, ◌^◌, ◌<◌, slice_index}
use Rattle.cam_rows.specs.Machinery.Narrowing.{IsUp}
use Rattle.cam_rows.specs.Machinery.Slopes.{IsCrossing, falling, lowered}
use Rattle.cam_rows.proofs.SetRows.{AreSetAbove}
use Rattle.cam_rows.proofs.slope.cutting.cut_ends.Given as goal

abbrev pub invariant-loop-k : goal.invariant-loop-k
invariant-loop-k l = record {
  lowered : falling l.crossing l.steps ≡ lowered l.k (falling l.fn.top l.steps);
  here : IsCrossing l.steps (2 ^ 61 + 1 + l.k * 2 ^ 41) l.crossing;
  cut : AreSetAbove
      (λ k end. (i : ℕ) → (i < end) ↔ ((i < slice_index l.fn.ends k) × IsUp (falling l.fn.top l.steps) k i))
      l.fn.ends l.k l.ends;
}

abbrev pub invariant-loop-row : goal.invariant-loop-row
invariant-loop-row l = AreSetAbove (λ k end. end ≡ min (slice_index l.fn.ends k) l.columns) l.fn.ends l.row l.ends
