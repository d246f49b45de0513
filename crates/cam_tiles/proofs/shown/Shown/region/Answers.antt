use Rattle.std.proofs.Common.{◌≡◌, ◌<◌, [], ◌∷◌, length, get_or, sym, ap, subst, ◌∙◌, arith}
use Rattle.std.proofs.lemmas.Grind.{common_steps}
use Rattle.std.proofs.lemmas.List.{length-map}
use Rattle.cam_objects.specs.Leaves.{Filled, item_leaves, leaf, meaning_in}
use Rattle.cam_objects.specs.declared.item.Item.TheVariants.{One}
use Rattle.cam_objects.specs.declared.object.Object.TheVariants.{Region}
use Rattle.cam_tiles.specs.declared.shown.Shown.{Shown}
use Rattle.cam_tiles.specs.Machinery.Shown.{IsReady, leaves_by_item}
use Rattle.cam_tiles.proofs.ShownRegions.{region_leaves, region_sound}
use Rattle.cam_tiles.proofs.shown.Shown.region.Goals.{In-Gerber}
use Rattle.cam_tiles.proofs.shown.Shown.region.Goals as goal

within : (c : In-Gerber) → c.args.place < length c.in-Gerber.layer.now.items.items
within c =
    let layer = c.in-Gerber.layer.now in
    let there = subst (λ (s : Shown). c.args.place < length (leaves_by_item s)) c.in-Gerber.is c.requires.within in
    omega (arith, there, length-map layer.items.items (item_leaves (meaning_in layer.apertures)))

pub returns-in-One-Region-clause-sound : goal.returns-in-One-Region-clause-sound
returns-in-One-Region-clause-sound c =
    let layer = c.in-Gerber.layer.now in
    let region = c.in-One-Region in
    let is : c.index.result.now ≡ One (Region region.contour region.dark) = region.is ∙ ap One (simp region.is at region.field-0-is) in
    let ready = subst IsReady c.in-Gerber.is c.requires.ready in
    region_sound layer.items.items c.args.place c.index.result.now region.contour region.dark
    (within (goal.at.returns-in-One-Region-clause-sound c).In-Gerber) (sym c.index.ensures ∙ is) layer.apertures ready.0.items

pub returns-in-One-Region-clause-leaves : goal.returns-in-One-Region-clause-leaves
returns-in-One-Region-clause-leaves c =
    let layer = c.in-Gerber.layer.now in
    let region = c.in-One-Region in
    let is : c.index.result.now ≡ One (Region region.contour region.dark) = region.is ∙ ap One (simp region.is at region.field-0-is) in
    subst (λ (s : Shown). get_or (leaves_by_item s) c.args.place [] ≡ leaf (Filled region.contour) region.dark ∷ [])
    (sym c.in-Gerber.is)
    (region_leaves layer.items.items c.args.place c.index.result.now region.contour region.dark
    (within (goal.at.returns-in-One-Region-clause-leaves c).In-Gerber) (sym c.index.ensures ∙ is) layer.apertures)

pub index-requires : goal.index-requires
index-requires c = grind (arith, common_steps)
