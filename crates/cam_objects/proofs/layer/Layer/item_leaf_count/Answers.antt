use Rattle.std.proofs.Common.{ℕ, ◌<◌, ◌≤◌, Option, IsSome, arith}
use Rattle.std.specs.Option.{IfNone}
use Rattle.cam_objects.proofs.SoundItems.{meets}
use Rattle.cam_objects.proofs.layer.Layer.item_leaf_count.Goals as goal

has_room : (room : Option ℕ) (count : ℕ) → IfNone room (4000000 < count) → count ≤ 4000000 → IsSome room
has_room room count past few = grind arith

pub unwrap-requires : goal.unwrap-requires
unwrap-requires c =
    has_room c.room_behind_item.result _ c.room_behind_item.ensures.past
    (meets c.args.self.now.apertures c.args.item.now c.requires).limits.leaves
