use Rattle.std.proofs.Common.{◌≡◌, ◌<◌, ◌≤◌, ℕ, false}
use Rattle.cam_objects.specs.Machinery.Sides.{MeetsAt}
use Rattle.cam_objects.proofs.cells.sides.Sides.any_meets.Given as goal

abbrev pub invariant-loop-place : goal.invariant-loop-place
invariant-loop-place l = l.any ≡ false → (k : ℕ) → l.first ≤ k → k < l.place → MeetsAt l.self k l.reach → ⊥
