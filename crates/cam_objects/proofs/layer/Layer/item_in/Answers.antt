use Rattle.std.proofs.Common.{◌∙◌, List, map, ap, subst}
use Rattle.std.proofs.lemmas.Simd.{map-map}
use Rattle.cam_units.specs.declared.bounds.Bounds.{Bounds}
use Rattle.cam_objects.specs.declared.layer.Layer.{Layer}
use Rattle.cam_objects.specs.Bounds.{bounds_of}
use Rattle.cam_objects.specs.Enclosed.{FindsEnclosed}
use Rattle.cam_objects.specs.Leaves.{item_leaves, meaning_in}
use Rattle.cam_objects.specs.Topmost.{item_lists}
use Rattle.cam_objects.proofs.layer.Layer.item_in.Goals as goal

pub returns : goal.returns
returns c =
    let layer = c.args.self.now in
    subst (λ (boxes : List Bounds). FindsEnclosed boxes c.args.outer c.args.from c.next_enclosed.result)
    (ap (λ (l : Layer). map bounds_of (item_lists l.apertures l.items.items)) c.boxes.ensures
    ∙ map-map bounds_of (item_leaves (meaning_in layer.apertures)) layer.items.items) c.next_enclosed.ensures
