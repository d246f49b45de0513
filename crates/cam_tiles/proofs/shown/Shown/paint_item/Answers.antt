use Rattle.std.proofs.Common.{◌<◌, [], List, length, get_or, sym, subst, arith}
use Rattle.std.proofs.lemmas.Grind.{common_steps}
use Rattle.cam_objects.specs.Canvases.{Paints}
use Rattle.cam_objects.specs.Drilling.{drill_item_leaves}
use Rattle.cam_objects.specs.Leaves.{Leaf, item_leaves, meaning_in}
use Rattle.cam_tiles.specs.declared.shown.Shown.{Shown}
use Rattle.cam_tiles.specs.Machinery.Shown.{leaves_by_item}
use Rattle.cam_tiles.proofs.ShownItems.{at_place}
use Rattle.cam_tiles.proofs.shown.Shown.paint_item.Goals as goal

pub returns-after-copies : goal.returns-after-copies
returns-after-copies g c =
    let layer = c.in-Gerber.layer.now in
    let k = c.args.place in
    let canvas = g.C.Canvas in
    let IsPainted = λ (leaves : List Leaf).
    Paints canvas.has canvas.place canvas.ink c.args.canvas.now leaves c.paint_item.new.canvas in
    let within = subst (λ (s : Shown). k < length (leaves_by_item s)) c.in-Gerber.is c.requires.within in
    subst (λ (s : Shown). IsPainted (get_or (leaves_by_item s) k [])) (sym c.in-Gerber.is)
    (at_place (item_leaves (meaning_in layer.apertures)) layer.items.items k IsPainted within c.paint_item.ensures)

pub returns-in-Some-at : goal.returns-in-Some-at
returns-in-Some-at g c =
    let layer = c.in-Gerber.layer.now in
    let k = c.args.place in
    let canvas = g.C.Canvas in
    let IsPainted = λ (leaves : List Leaf).
    Paints canvas.has canvas.place canvas.ink c.args.canvas.now leaves c.paint_repeat.new.canvas in
    let within = subst (λ (s : Shown). k < length (leaves_by_item s)) c.in-Gerber.is c.requires.within in
    subst (λ (s : Shown). IsPainted (get_or (leaves_by_item s) k [])) (sym c.in-Gerber.is)
    (at_place (item_leaves (meaning_in layer.apertures)) layer.items.items k IsPainted within c.paint_repeat.ensures)

pub returns-in-Drill : goal.returns-in-Drill
returns-in-Drill g c =
    let layer = c.in-Drill.layer.now in
    let k = c.args.place in
    let canvas = g.C.Canvas in
    let item = c.paint_item-in-Drill in
    let IsPainted = λ (leaves : List Leaf).
    Paints canvas.has canvas.place canvas.ink c.args.canvas.now leaves item.new.canvas in
    let within = subst (λ (s : Shown). k < length (leaves_by_item s)) c.in-Drill.is c.requires.within in
    subst (λ (s : Shown). IsPainted (get_or (leaves_by_item s) k [])) (sym c.in-Drill.is)
    (at_place (drill_item_leaves layer.tools) layer.items.items k IsPainted within item.ensures)

pub paint_item-requires-in-Drill-clause-sound : goal.paint_item-requires-in-Drill-clause-sound
paint_item-requires-in-Drill-clause-sound c = grind (arith)

pub paint_repeat-requires-clause-sound : goal.paint_repeat-requires-clause-sound
paint_repeat-requires-clause-sound c = grind (arith)

pub paint_item-requires-clause-sound : goal.paint_item-requires-clause-sound
paint_item-requires-clause-sound c = grind (arith)

pub paint_repeat-requires-clause-within : goal.paint_repeat-requires-clause-within
paint_repeat-requires-clause-within c = grind (arith, common_steps)

pub paint_item-requires-clause-within : goal.paint_item-requires-clause-within
paint_item-requires-clause-within c = grind (arith, common_steps)

pub paint_item-requires-in-Drill-clause-within : goal.paint_item-requires-in-Drill-clause-within
paint_item-requires-in-Drill-clause-within c = grind (arith, common_steps)
