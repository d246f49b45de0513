use Rattle.std.proofs.Common.{◌≡◌, ◌+◌, sum_by, take}
use Rattle.cam_objects.specs.Weights.{item_count, weight_in}
use Rattle.cam_objects.proofs.checks.room.room_behind_items.Given as goal

-- the room and the leaves of the items so far
abbrev pub invariant-loop-item : goal.invariant-loop-item
invariant-loop-item l = record {
  all : l.room + sum_by (item_count (weight_in l.entries)) (take l.item-index l.items) ≡ 4000000;
}
