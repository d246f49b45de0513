use Rattle.std.proofs.Common.{◌≡◌, ◌*◌, ◌≤◌, sum_by, take}
use Rattle.cam_objects.specs.Weights.{object_count, weight_in}
use Rattle.cam_objects.proofs.checks.facts.leaf_count.Given as goal

-- the leaves of the objects so far
abbrev pub invariant-loop-object : goal.invariant-loop-object
invariant-loop-object l =
    (l.leaves ≡ sum_by (object_count (weight_in l.entries)) (take l.object-index l.objects)) × (l.leaves ≤ l.object-index * 4000001)
