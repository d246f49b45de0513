use Rattle.std.proofs.Common.{◌≡◌, ◌++◌, take}
use Rattle.std.specs.List.{flat_map}
use Rattle.cam_ask.specs.Texts.{drill_item_lines, item_lines}
use Rattle.cam_ask.proofs.contents.push_items.Given as goal

abbrev pub invariant-loop-item : goal.invariant-loop-item
invariant-loop-item l = l.text.items ≡ l.fn.text.items ++ flat_map item_lines (take l.item-index l.items)

abbrev pub invariant-loop-item-2 : goal.invariant-loop-item-2
invariant-loop-item-2 l = l.text.items ≡ l.fn.text.items ++ flat_map drill_item_lines (take l.item-index l.items)
