-- Laws of boxes: what lies outside the box of what is edited stays as it is.
use Rattle.std.specs.Prelude.{◌↔◌, ℕ, List, ◌++◌, All}
use Rattle.std.specs.List.{flat_map}
use Rattle.cam_units.specs.Boxes.{Holds}
use Rattle.cam_units.specs.declared.length.Nm.{Nm}
use Rattle.cam_units.specs.declared.point.Spot.{Spot}
use Rattle.cam_objects.specs.declared.entry.Entry.{Entry}
use Rattle.cam_objects.specs.Bounds.{bounds_of, box_of_shape}
use Rattle.cam_objects.specs.Drilling.{drill_item_leaves}
use Rattle.cam_objects.specs.Image.{Covers, IsBlack, IsUncovered}
use Rattle.cam_objects.specs.Leaves.{Leaf, Shape, item_leaves, meaning_in}

-- each place that a shape covers lies in its box, and a place outside the box of leaves is covered by none of them
pub record CoverBoxLaw : Type 0 where
  pub shape : (shape : Shape) (s : Spot) → Covers shape s → Holds (box_of_shape shape) s
  pub leaves : (leaves : List Leaf) (s : Spot) → ¬ Holds (bounds_of leaves) s → IsUncovered leaves s

-- the place lies outside the box of each item
abbrev pub IsOutside : {X : Type 0} → (X → List Leaf) → List X → Spot → Type 0
IsOutside paints items s = All (λ item. ¬ Holds (bounds_of (paints item)) s) items

-- outside the boxes of the items that are taken out and of those that are put in their place, a list of items paints
-- what it did; and so it does outside the boxes of items that go from one place of the list to another
pub record KeepsOutside {X : Type 0} (paints : X → List Leaf) : Type 0 where
  pub exchanged : (before old new after : List X) (s : Spot) → IsOutside paints old s → IsOutside paints new s
      → IsBlack (flat_map paints (before ++ old ++ after)) s ↔ IsBlack (flat_map paints (before ++ new ++ after)) s
  pub reordered : (before going between after : List X) (s : Spot) → IsOutside paints going s
      → IsBlack (flat_map paints (before ++ going ++ between ++ after)) s
      ↔ IsBlack (flat_map paints (before ++ between ++ going ++ after)) s

-- of the items of a layer, and of a drill layer
pub record BoxRedrawLaw : Type 0 where
  pub items : (entries : List (ℕ × Entry)) → KeepsOutside (item_leaves (meaning_in entries))
  pub drill_items : (tools : List (ℕ × Nm)) → KeepsOutside (drill_item_leaves tools)
