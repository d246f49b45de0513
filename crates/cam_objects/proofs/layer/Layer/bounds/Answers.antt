use Rattle.std.proofs.Common.{◌∙◌, List, ap}
use Rattle.std.specs.List.{flat_map}
use Rattle.std.proofs.lemmas.List.Folds.{flat_map-map}
use Rattle.cam_objects.specs.declared.layer.Layer.{Layer}
use Rattle.cam_objects.specs.Bounds.{bounds_of}
use Rattle.cam_objects.specs.Leaves.{Leaf, item_leaves, meaning_in}
use Rattle.cam_objects.specs.Topmost.{item_lists}
use Rattle.cam_objects.proofs.layer.Layer.bounds.Goals as goal

pub returns : goal.returns
returns c =
    let layer = c.args.self.now in
    c.whole_box.ensures
    ∙ ap (λ (l : Layer). bounds_of (flat_map (λ (leaves : List Leaf). leaves) (item_lists l.apertures l.items.items))) c.boxes.ensures
    ∙ ap bounds_of (flat_map-map (λ (leaves : List Leaf). leaves) (item_leaves (meaning_in layer.apertures)) layer.items.items)
