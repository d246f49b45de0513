-- what lists of objects and of items count
use Rattle.std.proofs.Common.{ℕ, ◌*◌, ◌<◌, ◌≤◌, List, [], ◌∷◌, length, arith}
use Rattle.std.proofs.Math.Nat.{mul-le-mul_left, mul_comm}
use Rattle.std.proofs.lemmas.List.Sums.{sum_by-cons}
use Rattle.cam_objects.specs.declared.object.Object.{Object}
use Rattle.cam_objects.specs.Weights.{Weight, block_count, object_count}
use Rattle.cam_objects.proofs.SoundLayers.{count_some}

-- a block counts at least its objects
pub many_counted : (w : ℕ → Weight) (objects : List Object) → length objects ≤ block_count w objects
many_counted w [] = omega arith
many_counted w (o ∷ objects) = omega (arith, many_counted w objects, count_some w o, sum_by-cons (object_count w) o objects)

at_least : (a b : ℕ) → 0 < a → b ≤ a * b
at_least a b h = grind (arith, mul_comm, mul-le-mul_left)

pub past_room : (w : ℕ → Weight) (objects : List Object) (copies room : ℕ) → 0 < copies → room ≤ 4000000 → 4000000 < length objects
    → room < copies * block_count w objects
past_room w objects copies room some low many =
    omega (arith, at_least copies (block_count w objects) some, many_counted w objects)
