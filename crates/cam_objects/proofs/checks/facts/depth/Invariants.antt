use Rattle.std.proofs.Common.{◌≡◌, ◌≤◌, fold, max, take}
use Rattle.cam_objects.specs.Weights.{object_depth, weight_in}
use Rattle.cam_objects.proofs.checks.facts.depth.Given as goal

-- the depth of the deepest object so far
abbrev pub invariant-loop-object : goal.invariant-loop-object
invariant-loop-object l =
    (l.deepest ≡ fold (λ deepest object. max deepest (object_depth (weight_in l.entries) object)) 0 (take l.object-index l.objects))
    × (l.deepest ≤ 8)
