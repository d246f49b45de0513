use Rattle.std.proofs.Common.{◌≡◌, ◌<◌, [], List, length, get_or, sym, subst, arith}
use Rattle.std.proofs.lemmas.Grind.{common_steps}
use Rattle.cam_objects.specs.Bounds.{bounds_of}
use Rattle.cam_objects.specs.Drilling.{drill_item_leaves}
use Rattle.cam_objects.specs.Leaves.{Leaf, item_leaves, meaning_in}
use Rattle.cam_tiles.specs.declared.shown.Boxes.{Boxes}
use Rattle.cam_tiles.specs.Machinery.Shown.{lists_of}
use Rattle.cam_tiles.proofs.ShownItems.{at_place}
use Rattle.cam_tiles.proofs.shown.Boxes.read.Goals as goal

pub returns-in-Gerber-clause-value : goal.returns-in-Gerber-clause-value
returns-in-Gerber-clause-value c =
    let layer = c.in-Gerber.boxes in
    let k = c.args.place in
    let IsBox = λ (leaves : List Leaf). c.read.result ≡ bounds_of leaves in
    let within = subst (λ (b : Boxes). k < length (lists_of b)) c.in-Gerber.is c.requires in
    subst (λ (b : Boxes). IsBox (get_or (lists_of b) k [])) (sym c.in-Gerber.is)
    (at_place (item_leaves (meaning_in layer.apertures)) layer.items.items k IsBox within c.read.ensures.value)

pub returns-in-Drill-clause-value : goal.returns-in-Drill-clause-value
returns-in-Drill-clause-value c =
    let layer = c.in-Drill.boxes in
    let k = c.args.place in
    let box = c.read-in-Drill in
    let IsBox = λ (leaves : List Leaf). box.result ≡ bounds_of leaves in
    let within = subst (λ (b : Boxes). k < length (lists_of b)) c.in-Drill.is c.requires in
    subst (λ (b : Boxes). IsBox (get_or (lists_of b) k [])) (sym c.in-Drill.is)
    (at_place (drill_item_leaves layer.tools) layer.items.items k IsBox within box.ensures.value)

pub read-requires : goal.read-requires
read-requires c = grind (arith, common_steps)

pub read-requires-in-Drill : goal.read-requires-in-Drill
read-requires-in-Drill c = grind (arith, common_steps)

pub returns-in-Drill-clause-lists : goal.returns-in-Drill-clause-lists
returns-in-Drill-clause-lists c = grind (arith)

pub returns-in-Gerber-clause-lists : goal.returns-in-Gerber-clause-lists
returns-in-Gerber-clause-lists c = grind (arith)
