-- Layers of either kind: their leaves, all of them and item by item.
use Rattle.std.specs.Prelude.{IfSome, List, map}
use Rattle.cam_objects.specs.Cells.{AreCellsOf, AreFirstCopiesOf, drill_item_boxes, item_boxes}
use Rattle.cam_objects.specs.Contents.{content_leaves, content_of, drill_content_leaves, drill_content_of}
use Rattle.cam_objects.specs.DrillSoundness.{IsSoundDrillLayer}
use Rattle.cam_objects.specs.Drilling.{drill_item_leaves}
use Rattle.cam_objects.specs.Leaves.{Leaf, item_leaves, meaning_in}
use Rattle.cam_objects.specs.Soundness.{HasSoundItems}
use Rattle.cam_tiles.specs.declared.shown.Boxes.{Boxes}
use Rattle.cam_tiles.specs.declared.shown.Boxes.TheVariants.{Gerber as OfGerber, Drill as OfDrill}
use Rattle.cam_tiles.specs.declared.shown.Shown.{Shown}
use Rattle.cam_tiles.specs.declared.shown.Shown.TheVariants.{Gerber, Drill}

abbrev pub leaves_of : Shown → List Leaf
leaves_of (Gerber layer cells copies) = content_leaves (content_of layer.now)
leaves_of (Drill layer cells) = drill_content_leaves (drill_content_of layer.now)

-- a sound layer, and cells of its items and first copies of its repeats where there are any
abbrev pub IsReady : Shown → Type 0
IsReady (Gerber layer cells copies) =
    HasSoundItems layer.now
    × IfSome cells (λ kept. AreCellsOf (item_boxes layer.now.apertures layer.now.items.items) kept.now)
    × IfSome copies (λ known. AreFirstCopiesOf layer.now.apertures layer.now.items.items known.now)
IsReady (Drill layer cells) =
    IsSoundDrillLayer layer.now
    × IfSome cells (λ kept. AreCellsOf (drill_item_boxes layer.now.tools layer.now.items.items) kept.now)

-- the leaves of each item
abbrev pub leaves_by_item : Shown → List (List Leaf)
leaves_by_item (Gerber layer cells copies) = map (item_leaves (meaning_in layer.now.apertures)) layer.now.items.items
leaves_by_item (Drill layer cells) = map (drill_item_leaves layer.now.tools) layer.now.items.items

-- the same of what reads the boxes of a layer
abbrev pub lists_of : Boxes → List (List Leaf)
lists_of (OfGerber layer) = map (item_leaves (meaning_in layer.apertures)) layer.items.items
lists_of (OfDrill layer) = map (drill_item_leaves layer.tools) layer.items.items
