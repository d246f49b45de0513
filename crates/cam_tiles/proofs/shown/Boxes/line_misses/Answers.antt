use Rattle.std.proofs.Common.{◌<◌, [], List, length, get_or, sym, subst, arith}
use Rattle.std.proofs.lemmas.Grind.{common_steps}
use Rattle.cam_units.specs.Boxes.{Holds}
use Rattle.cam_units.specs.declared.point.Spot.{Spot}
use Rattle.cam_objects.specs.Image.{IsUncovered}
use Rattle.cam_objects.specs.Leaves.{Leaf, item_leaves, meaning_in}
use Rattle.cam_tiles.specs.declared.shown.Boxes.{Boxes}
use Rattle.cam_tiles.specs.Machinery.Shown.{lists_of}
use Rattle.cam_tiles.proofs.ShownItems.{at_place}
use Rattle.cam_tiles.proofs.shown.Boxes.line_misses.Goals as goal

pub returns-in-Gerber-clause-off : goal.returns-in-Gerber-clause-off
returns-in-Gerber-clause-off c = λ off.
    let layer = c.in-Gerber.boxes in
    let k = c.args.place in
    let IsOff = λ (leaves : List Leaf). (s : Spot) → Holds c.args.within s → IsUncovered leaves s in
    let within = subst (λ (b : Boxes). k < length (lists_of b)) c.in-Gerber.is c.requires in
    subst (λ (b : Boxes). IsOff (get_or (lists_of b) k [])) (sym c.in-Gerber.is)
    (at_place (item_leaves (meaning_in layer.apertures)) layer.items.items k IsOff within (c.line_misses.ensures.off off))

pub returns-in-Gerber-clause-lists : goal.returns-in-Gerber-clause-lists
returns-in-Gerber-clause-lists c = grind (arith)

pub line_misses-requires : goal.line_misses-requires
line_misses-requires c = grind (arith, common_steps)
