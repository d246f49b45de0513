use Rattle.std.proofs.Common.{◌≡◌, IfOk, List, ◌<◌, rules, subst, sym, arith}
use Rattle.cam_units.specs.declared.bounds.Bounds.{Bounds}
use Rattle.cam_edits.specs.Moving.{way}
use Rattle.cam_edits.proofs.TouchedDrillBoxes.{delete_box, delete_within, insert_box, move_boxes, move_within, reorder_boxes}
use Rattle.cam_edits.proofs.TouchedDrillBoxes.{reorder_within, short_move, sound_insertion, sound_there, tool_boxes, tool_within}
use Rattle.cam_edits.proofs.touched.drill_touched.Goals as goal

pub bounds_of-requires-clause-item : goal.bounds_of-requires-clause-item
bounds_of-requires-clause-item c = sound_insertion _ _ c.requires.accepted c.in-Insert.k c.in-Insert.item c.in-Insert.is

pub item_bounds-requires-clause-within : goal.item_bounds-requires-clause-within
item_bounds-requires-clause-within c = delete_within _ _ c.requires.accepted c.in-Delete.k c.in-Delete.is

pub index-requires : goal.index-requires
index-requires c =
    subst (λ n. c.in-Move.k < n) (sym c.args.layer.now.items.ok.0)
    (move_within _ _ c.requires.accepted c.in-Move.k (way c.in-Move.dx c.in-Move.dy) c.in-Move.is)

pub moved_bounds-after-requires-clause-item : goal.moved_bounds-after-requires-clause-item
moved_bounds-after-requires-clause-item c =
    sound_there _ _ c.requires.accepted c.requires.sound c.in-Move.k _ c.index.ensures
    (move_within _ _ c.requires.accepted c.in-Move.k (way c.in-Move.dx c.in-Move.dy) c.in-Move.is)

pub moved_bounds-after-requires-clause-by : goal.moved_bounds-after-requires-clause-by
moved_bounds-after-requires-clause-by c =
    let by : c.way.result ≡ way c.in-Move.dx c.in-Move.dy = search rules in
    rw by
    (short_move _ _ c.requires.accepted c.requires.sound c.in-Move.k _ c.index.ensures
    (way c.in-Move.dx c.in-Move.dy) c.in-Move.is)

pub item_bounds-requires-in-Move-clause-within : goal.item_bounds-requires-in-Move-clause-within
item_bounds-requires-in-Move-clause-within c =
    move_within _ _ c.requires.accepted c.in-Move.k (way c.in-Move.dx c.in-Move.dy) c.in-Move.is

pub item_bounds-requires-in-Reorder-clause-within : goal.item_bounds-requires-in-Reorder-clause-within
item_bounds-requires-in-Reorder-clause-within c =
    reorder_within _ _ c.requires.accepted c.in-Reorder.k c.in-Reorder.m c.in-Reorder.is

pub index-requires-in-Tool : goal.index-requires-in-Tool
index-requires-in-Tool c =
    subst (λ n. c.in-Tool.k < n) (sym c.args.layer.now.items.ok.0)
    (tool_within _ _ c.requires.accepted c.in-Tool.k c.in-Tool.t c.in-Tool.is)

pub bounds_with_tool-after-requires-clause-item : goal.bounds_with_tool-after-requires-clause-item
bounds_with_tool-after-requires-clause-item c =
    sound_there _ _ c.requires.accepted c.requires.sound c.in-Tool.k _ c.index-in-Tool.ensures
    (tool_within _ _ c.requires.accepted c.in-Tool.k c.in-Tool.t c.in-Tool.is)

pub item_bounds-requires-in-Tool-clause-within : goal.item_bounds-requires-in-Tool-clause-within
item_bounds-requires-in-Tool-clause-within c =
    tool_within _ _ c.requires.accepted c.in-Tool.k c.in-Tool.t c.in-Tool.is

pub returns-in-Insert : goal.returns-in-Insert
returns-in-Insert c =
    subst (λ (bs : List Bounds). IfOk c.one_box.result (λ boxes. boxes.items ≡ bs))
    (insert_box _ _ c.requires.accepted c.in-Insert.k c.in-Insert.item c.in-Insert.is _ c.bounds_of.ensures)
    c.one_box.ensures

pub returns-in-Delete : goal.returns-in-Delete
returns-in-Delete c =
    subst (λ (bs : List Bounds). IfOk c.one_box-in-Delete.result (λ boxes. boxes.items ≡ bs))
    (delete_box _ _ c.requires.accepted c.in-Delete.k c.in-Delete.is _ c.item_bounds.ensures) c.one_box-in-Delete.ensures

pub returns-in-Move : goal.returns-in-Move
returns-in-Move c =
    let by : c.way.result ≡ way c.in-Move.dx c.in-Move.dy = search rules in
    let after = rw by at c.moved_bounds-after.ensures in
    subst (λ (bs : List Bounds). IfOk c.two_boxes.result (λ boxes. boxes.items ≡ bs))
    (move_boxes _ _ c.requires.accepted c.in-Move.k (way c.in-Move.dx c.in-Move.dy) c.in-Move.is _ c.index.ensures _ _
    c.item_bounds-in-Move.ensures after)
    c.two_boxes.ensures

pub returns-in-Reorder : goal.returns-in-Reorder
returns-in-Reorder c =
    subst (λ (bs : List Bounds). IfOk c.kept_box.result (λ boxes. boxes.items ≡ bs))
    (reorder_boxes _ _ c.requires.accepted c.in-Reorder.k c.in-Reorder.m c.in-Reorder.is _ c.item_bounds-in-Reorder.ensures)
    c.kept_box.ensures

pub returns-in-Tool : goal.returns-in-Tool
returns-in-Tool c =
    subst (λ (bs : List Bounds). IfOk c.two_boxes-in-Tool.result (λ boxes. boxes.items ≡ bs))
    (tool_boxes _ _ c.requires.accepted c.in-Tool.k c.in-Tool.t c.in-Tool.is _ c.index-in-Tool.ensures _ _
    c.item_bounds-in-Tool.ensures c.bounds_with_tool-after.ensures)
    c.two_boxes-in-Tool.ensures

pub returns-in-Diameter : goal.returns-in-Diameter
returns-in-Diameter c = grind (arith)
