-- Pointing at a layer: which of its items lies over the others at a place (Gerber Layer Format Specification, "Graphics
-- objects": objects are painted in order, each over those before it).
use Rattle.std.specs.Prelude.{◌≡◌, ◌↔◌, ℕ, ◌<◌, true, List, [], length, map, Option, None, Some}
use Rattle.std.specs.List.{Any, flat_map, slice_index_or}
use Rattle.cam_units.specs.declared.length.Nm.{Nm}
use Rattle.cam_units.specs.declared.point.Spot.{Spot}
use Rattle.cam_objects.specs.declared.drill_item.DrillItem.{DrillItem}
use Rattle.cam_objects.specs.declared.entry.Entry.{Entry}
use Rattle.cam_objects.specs.declared.item.Item.{Item}
use Rattle.cam_objects.specs.Drilling.{drill_item_leaves}
use Rattle.cam_objects.specs.Image.{Covers, IsBlack, IsPainted}
use Rattle.cam_objects.specs.Leaves.{Leaf, item_leaves, meaning_in}

-- some leaf covers the place, dark or clear
abbrev pub IsCoveredBy : List Leaf → Spot → Type 0
IsCoveredBy leaves s = Any (λ (l : Leaf). Covers l.shape s) leaves

-- the leaves of each item of a layer
abbrev pub item_lists : List (ℕ × Entry) → List Item → List (List Leaf)
item_lists entries items = map (item_leaves (meaning_in entries)) items

-- of each item of a drill layer
abbrev pub drill_item_lists : List (ℕ × Nm) → List DrillItem → List (List Leaf)
drill_item_lists tools items = map (drill_item_leaves tools) items

-- the leaves of the item at a place of the list, counted from 0
abbrev pub leaves_at : List (List Leaf) → ℕ → List Leaf
leaves_at lists k = slice_index_or lists k []

-- of the items before one, the item at place k is the last one that covers the place
pub record IsTopmost (lists : List (List Leaf)) (s : Spot) (before k : ℕ) : Type 0 where
  pub under : k < before
  pub listed : k < length lists
  pub covered : IsCoveredBy (leaves_at lists k) s
  pub others : (j : ℕ) → k < j → j < before → j < length lists → ¬ IsCoveredBy (leaves_at lists j) s

-- none of the items before one covers the place
abbrev pub IsBare : List (List Leaf) → Spot → ℕ → Type 0
IsBare lists s before = (j : ℕ) → j < before → j < length lists → ¬ IsCoveredBy (leaves_at lists j) s

-- what a pointer at the place finds under an item: the topmost of the items before it, or none
abbrev pub PointsAt : List (List Leaf) → Spot → ℕ → Option ℕ → Type 0
PointsAt lists s before None = IsBare lists s before
PointsAt lists s before (Some k) = IsTopmost lists s before k

-- a place is black exactly where there is a topmost item, and the last of its leaves that covers the place is dark
abbrev pub IsBlackByTopmost : {X : Type 0} → (X → List Leaf) → Type 0
IsBlackByTopmost {X} paints =
    (items : List X) (s : Spot) → let lists = map paints items in
    IsBlack (flat_map paints items) s
    ↔ ((k : ℕ) × (IsTopmost lists s (length lists) k × IsPainted (leaves_at lists k) s true))

-- so of layers and of drill layers; and no two items are topmost
pub record TopmostLaw : Type 0 where
  pub items : (entries : List (ℕ × Entry)) → IsBlackByTopmost (item_leaves (meaning_in entries))
  pub drill_items : (tools : List (ℕ × Nm)) → IsBlackByTopmost (drill_item_leaves tools)
  pub one : (lists : List (List Leaf)) (s : Spot) (before j k : ℕ) → IsTopmost lists s before j
      → IsTopmost lists s before k → j ≡ k
