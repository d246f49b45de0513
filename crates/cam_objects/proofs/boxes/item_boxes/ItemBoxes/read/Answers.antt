use Rattle.std.proofs.Common.{arith, rules, ◌<◌, Some, length, ap, sym, subst, ◌∙◌}
use Rattle.std.specs.Option.{IfSome}
use Rattle.std.proofs.lemmas.Option.{slice_get-get_or}
use Rattle.cam_objects.specs.declared.layer.Layer.{Layer}
use Rattle.cam_objects.specs.Cells.{AreFirstCopiesOf}
use Rattle.cam_objects.proofs.KeptBoxes.{listed_stands, read_box}
use Rattle.cam_objects.proofs.boxes.item_boxes.ItemBoxes.read.Goals.{in-Some}
use Rattle.cam_objects.proofs.boxes.item_boxes.ItemBoxes.read.Goals as goal

pub object_bounds-requires-clause-stands : goal.object_bounds-requires-clause-stands
object_bounds-requires-clause-stands c = search (rules, listed_stands)

pub returns-in-One-clause-value : goal.returns-in-One-clause-value
returns-in-One-clause-value c = λ item at. grind (arith, read_box)

pub bounds_with-requires-clause-known : goal.bounds_with-requires-clause-known
bounds_with-requires-clause-known c =
    let layer = c.self.inside.layer.now in
    let within : c.args.place < length layer.items.items =
    subst (λ (l : Layer). c.args.place < length l.items.items) (sym c.self.view_is) c.requires in
    c.at.ensures layer.apertures layer.items.items c.index-item.result.now
    (subst (λ o. IfSome o (λ known. AreFirstCopiesOf layer.apertures layer.items.items known.now)) c.in-Some.is c.self.invariant.copies)
    (slice_get-get_or layer.items.items c.args.place c.index-item.result.now within ∙ ap Some (sym c.index-item.ensures))

pub returns-after-self-clause-value : goal.returns-after-self-clause-value
returns-after-self-clause-value c = λ item at. grind (arith, read_box)
