-- the box of an item that is moved is its own box, moved
use Rattle.std.proofs.Common.{rules}
use Rattle.std.proofs.Common.{◌≡◌, ℕ, ◌+◌, pos, ◌*ℤ◌, List, [], ◌∷◌, ◌++◌, map, reverse, Option, None, Some, refl, ap, sym, subst, ◌∙◌, arith}
use Rattle.std.specs.Prelude.{fold}
use Rattle.std.specs.List.{All, flat_map, range_with_len}
use Rattle.std.specs.Option.{IfSome}
use Rattle.std.proofs.lemmas.Int.{ints}
use Rattle.std.proofs.lemmas.List.{map-append}
use Rattle.std.proofs.lemmas.List.Folds.{fold-map}
use Rattle.std.proofs.lemmas.Simd.{map-map}
use Rattle.cam_units.specs.Board.{IsOnBoard, IsSize}
use Rattle.cam_units.specs.Boxes.{join_of}
use Rattle.cam_units.specs.declared.bounds.Bounds.{Bounds}
use Rattle.cam_units.specs.declared.bounds.Bounds.TheVariants.{Empty}
use Rattle.cam_units.specs.declared.length.Nm.{Nm}
use Rattle.cam_units.specs.declared.point.Point.{Point}
use Rattle.cam_shapes.specs.Shifting.{shifted_point}
use Rattle.cam_apertures.specs.Primitives.{box_of_point}
use Rattle.cam_objects.specs.declared.drill_item.DrillItem.{DrillItem}
use Rattle.cam_objects.specs.declared.drill_item.DrillItem.TheVariants.{Hit, Rout}
use Rattle.cam_objects.specs.declared.entry.Entry.{Entry}
use Rattle.cam_objects.specs.declared.item.Item.{Item}
use Rattle.cam_objects.specs.declared.item.Item.TheVariants.{One, Repeat}
use Rattle.cam_objects.specs.declared.object.Object.{Object}
use Rattle.cam_objects.specs.Bounds.{bounds_of, box_of_all, box_of_shape, moved, widened}
use Rattle.cam_objects.specs.Drilling.{diameter_of, drill_item_leaves, leaves_with, rout_leaves, slots_from}
use Rattle.cam_objects.specs.DrillSoundness.{IsSoundDrillItem, IsSoundTool, drill_points_of, tool_of}
use Rattle.cam_objects.specs.Leaves.{Leaf, Meaning, block_leaves, column_leaves, item_leaves, meaning_in, object_leaves, origin, shifted}
use Rattle.cam_objects.specs.Machinery.Boxes.{AreSized, IsNearBox, placed_bounds}
use Rattle.cam_objects.specs.Shifting.{shifted_drill_item, shifted_item, shifted_object}
use Rattle.cam_objects.specs.Soundness.{IsInside, IsSoundDictionary, IsSoundItem}
use Rattle.cam_objects.proofs.BoxLimits.{within_near, within_widened}
use Rattle.cam_objects.proofs.CopyBoxes.{all_flat_map}
use Rattle.cam_objects.proofs.DrillBoxes.{points_within, rout_box}
use Rattle.cam_objects.proofs.ItemBounds.{near_leaves}
use Rattle.cam_objects.proofs.MovedBoxes.{block_there, fold_over_map, joins_moved, object_there, unturned}
use Rattle.cam_objects.proofs.PlacedBoxes.{IsPlacedWith, block_placed, boxes_of, meaning_placed, object_placed}
use Rattle.cam_objects.proofs.PlacedJoins.{join_moved, moved_twice}
use Rattle.cam_objects.proofs.PlacedShapes.{about_moved, point_moved, shapes_so, stroke, widened_moved}
use Rattle.cam_objects.proofs.SizedLeaves.{IsSizedMeaning, block_sized, inner, meaning_sized, object_sized}
use Rattle.cam_objects.proofs.SoundItems.{meets, meets_drill}
use Rattle.cam_objects.proofs.SoundTools.{tool_size}

-- ---- many boxes

-- the boxes of leaves, one for each
abbrev leaf_boxes : List Leaf → List Bounds
leaf_boxes leaves = boxes_of box_of_shape leaves

-- the ones have the boxes of the others, moved
abbrev HaveMovedBoxes : Point → List Leaf → List Leaf → Type 0
HaveMovedBoxes by there here = leaf_boxes there ≡ map (moved by) (leaf_boxes here)

-- and so the box of them all
all_moved : (by : Point) (there here : List Leaf) → HaveMovedBoxes by there here
    → bounds_of there ≡ moved by (bounds_of here)
all_moved by there here so =
    let all = λ (bs : List Bounds). fold (λ all b. join_of all b) Empty bs in
    sym (fold-map (λ all b. join_of all b) (λ l. box_of_shape l.shape) Empty there)
    ∙ ap all so
    ∙ fold_over_map (λ all b. join_of all b) (moved by) Empty (leaf_boxes here)
    ∙ joins_moved by (λ b. b) Empty (leaf_boxes here)
    ∙ ap (moved by) (fold-map (λ all b. join_of all b) (λ l. box_of_shape l.shape) Empty here)

pieces_moved : {X : Type 0} (by : Point) (f g : X → List Leaf) → ((x : X) → HaveMovedBoxes by (f x) (g x))
    → (xs : List X) → HaveMovedBoxes by (flat_map f xs) (flat_map g xs)
pieces_moved by f g so [] = refl
pieces_moved by f g so (x ∷ xs) =
    map-append (λ l. box_of_shape l.shape) (f x) (flat_map f xs)
    ∙ (λ i. so x i ++ pieces_moved by f g so xs i)
    ∙ sym (map-append (moved by) (leaf_boxes (g x)) (leaf_boxes (flat_map g xs)))
    ∙ ap (map (moved by)) (sym (map-append (λ l. box_of_shape l.shape) (g x) (flat_map g xs)))

-- two moves, in either order
moved_either : (o by : Point) (b : Bounds) → moved o (moved by b) ≡ moved by (moved o b)
moved_either o by b = grind (arith, moved_twice, ints)

-- a place that is not turned
unturned_all : (o : Point) (bs : List Bounds) → map (placed_bounds (shifted o.x o.y)) bs ≡ map (moved o) bs
unturned_all o bs = λ i. map (λ b. moved o (unturned b i)) bs

-- ---- items

module _ (es : List (ℕ × Entry)) where
  abbrev means : ℕ → Meaning
  means = meaning_in es

  placed_so : (n : ℕ) → IsPlacedWith box_of_shape (means n).flash
  placed_so = meaning_placed box_of_shape shapes_so (reverse es)

  block_at : (objects : List Object) (o : Point)
      → HaveMovedBoxes o (block_leaves means (shifted o.x o.y) objects) (block_leaves means origin objects)
  block_at objects o =
      block_placed box_of_shape shapes_so means placed_so objects (shifted o.x o.y)
      ∙ unturned_all o (leaf_boxes (block_leaves means origin objects))

  module _ (by : Point) where
    object_moved : (o : Object)
        → HaveMovedBoxes by (object_leaves means origin (shifted_object by o)) (object_leaves means origin o)
    object_moved o = grind (arith, object_there, object_placed, shapes_so, placed_so, unturned_all)

    copy_moved : (objects : List Object) (o : Point)
        → let copy = block_leaves means (shifted o.x o.y) in
        HaveMovedBoxes by (copy (map (shifted_object by) objects)) (copy objects)
    copy_moved objects o = search (rules, block_at, block_there, map-map, moved_either)

    item_moved : (item : Item) → HaveMovedBoxes by (item_leaves means (shifted_item by item)) (item_leaves means item)
    item_moved (One object) = object_moved object
    item_moved (Repeat columns rows i j objects) =
        let copy = λ (os : List Object) (c r : ℕ). block_leaves means (shifted (pos c *ℤ i) (pos r *ℤ j)) os in
        let column = λ (os : List Object) (c : ℕ). column_leaves means (pos c *ℤ i) rows j os in
        pieces_moved by (column (map (shifted_object by) objects)) (column objects)
        (λ c. pieces_moved by (copy (map (shifted_object by) objects) c) (copy objects c)
        (λ r. copy_moved objects (record { x = pos c *ℤ i; y = pos r *ℤ j })) (range_with_len 0 rows))
        (range_with_len 0 columns)

    pub item_bounds_moved : (item : Item)
        → bounds_of (item_leaves means (shifted_item by item)) ≡ moved by (bounds_of (item_leaves means item))
    item_bounds_moved item = grind (arith, all_moved, item_moved)

  -- what a move asks of a box
  pub item_sized : ((n : ℕ) → IsSizedMeaning (means n)) → (item : Item) → AreSized (item_leaves means item)
  item_sized so (One object) = object_sized means so origin object
  item_sized so (Repeat columns rows i j objects) = search (rules, all_flat_map, block_sized)

  pub near_item : (item : Item) → IsSoundDictionary es → IsSoundItem es item
      → IsNearBox (bounds_of (item_leaves means item))
  near_item item sound good =
      let inside : IsInside es item = (meets es item good).inside in
      near_leaves (item_leaves means item) (item_sized (λ n. meaning_sized es n sound) item) inside.leaves

-- ---- holes and routs

module _ (by : Point) where
  slot_moved : (d : Nm) (from to : Point)
      → box_of_shape (stroke (shifted_point by from) (shifted_point by to) d) ≡ moved by (box_of_shape (stroke from to d))
  slot_moved d from to =
      ap (widened d.0)
      ((λ i. join_of (point_moved by from i) (point_moved by to i))
      ∙ sym (join_moved by (box_of_point from) (box_of_point to)))
      ∙ widened_moved d.0 by (join_of (box_of_point from) (box_of_point to))

  slots_moved : (d : Nm) (here : Point) (ps : List Point)
      → HaveMovedBoxes by (slots_from d (shifted_point by here) (map (shifted_point by) ps)) (slots_from d here ps)
  slots_moved d here [] = refl
  slots_moved d here (p ∷ ps) = λ i. slot_moved d here p i ∷ slots_moved d p ps i

  rout_moved : (d : Nm) (ps : List Point)
      → HaveMovedBoxes by (rout_leaves d (map (shifted_point by) ps)) (rout_leaves d ps)
  rout_moved d [] = refl
  rout_moved d (p ∷ []) = λ i. about_moved by p d.0 d.0 i ∷ []
  rout_moved d (p ∷ q ∷ ps) = slots_moved d p (q ∷ ps)

  drill_moved : (d : Option Nm) (item : DrillItem)
      → HaveMovedBoxes by (leaves_with d (shifted_drill_item by item)) (leaves_with d item)
  drill_moved None (Hit tool at) = refl
  drill_moved None (Rout tool points) = refl
  drill_moved (Some d) (Hit tool at) = rout_moved d (at ∷ [])
  drill_moved (Some d) (Rout tool points) = rout_moved d points

-- the leaves of an item are those with the diameter of its tool
pub tool_leaves : (tools : List (ℕ × Nm)) (item : DrillItem)
    → drill_item_leaves tools item ≡ leaves_with (diameter_of tools (tool_of item)) item
tool_leaves tools item = grind arith

pub drill_bounds_moved : (tools : List (ℕ × Nm)) (by : Point) (item : DrillItem)
    → bounds_of (drill_item_leaves tools (shifted_drill_item by item)) ≡ moved by (bounds_of (drill_item_leaves tools item))
drill_bounds_moved tools by (Hit tool at) = all_moved by _ _ (drill_moved by (diameter_of tools tool) (Hit tool at))
drill_bounds_moved tools by (Rout tool points) =
    all_moved by _ _ (drill_moved by (diameter_of tools tool) (Rout tool points))

-- what a move asks of a box
near_rout : (d : Nm) (ps : List Point) → IsSize d.0 → All IsOnBoard ps → IsNearBox (bounds_of (rout_leaves d ps))
near_rout d ps size board =
    subst IsNearBox (rout_box d ps size board)
    (within_near (inner + 200000000) (widened d.0 (box_of_all box_of_point ps)) (omega arith)
    (within_widened 200000000 inner d.0 (box_of_all box_of_point ps) size.0 size.1 (points_within ps board)))

near_with : (d : Option Nm) (item : DrillItem) → IfSome d (λ d. IsSize d.0) → All IsOnBoard (drill_points_of item)
    → IsNearBox (bounds_of (leaves_with d item))
near_with None (Hit tool at) size board = tt
near_with None (Rout tool points) size board = tt
near_with (Some d) (Hit tool at) size board = near_rout d (at ∷ []) size board
near_with (Some d) (Rout tool points) size board = near_rout d points size board

pub near_drill_item : (tools : List (ℕ × Nm)) (item : DrillItem) → All (λ (t : ℕ × Nm). IsSoundTool t.0 t.1) tools
    → IsSoundDrillItem tools item → IsNearBox (bounds_of (drill_item_leaves tools item))
near_drill_item tools item sound good = grind (arith, tool_leaves, near_with, meets_drill, tool_size)
