use Rattle.std.proofs.Common.{◌≡◌, take}
use Rattle.std.specs.List.{sum_by}
use Rattle.cam_objects.specs.DrillSoundness.{drill_count_of}
use Rattle.cam_objects.proofs.drill.checks.leaf_count.Given as goal

-- the leaves of the items so far
abbrev pub invariant-loop-item : goal.invariant-loop-item
invariant-loop-item l = l.leaves ≡ sum_by drill_count_of (take l.item-index l.items)
