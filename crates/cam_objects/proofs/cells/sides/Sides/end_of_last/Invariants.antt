use Rattle.std.proofs.Common.{◌<◌, ◌≤◌, ℕ}
use Rattle.cam_objects.specs.Machinery.Sides.{MeetsAt}
use Rattle.cam_objects.proofs.cells.sides.Sides.end_of_last.Given as goal

abbrev pub invariant-loop-place : goal.invariant-loop-place
invariant-loop-place l = (k : ℕ) → l.place ≤ k → k < l.end → MeetsAt l.self k l.reach → ⊥
