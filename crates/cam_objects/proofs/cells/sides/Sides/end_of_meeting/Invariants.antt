use Rattle.std.proofs.Common.{◌+◌, ◌*◌, ◌<◌, ◌≤◌, ℕ}
use Rattle.cam_objects.specs.Machinery.Sides.{MeetsAt}
use Rattle.cam_objects.proofs.cells.sides.Sides.end_of_meeting.Given as goal

abbrev pub invariant-loop-chunk : goal.invariant-loop-chunk
invariant-loop-chunk l = (k : ℕ) → l.end ≤ k + l.chunk * 64 → k < l.end → MeetsAt l.self k l.reach → ⊥
