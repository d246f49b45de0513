-- the boxes of what sound items paint may be joined one after another
use Rattle.std.proofs.Common.{◌≡◌, ℕ, List, [], ◌∷◌, Option, None, Some, refl, sym, subst, true}
use Rattle.std.specs.List.{All, flat_map}
use Rattle.std.proofs.lemmas.List.Elements.{All-append, All-cons, All-head, All-map, All-nil, All-tail, All-weaker}
use Rattle.cam_units.specs.Board.{IsOnBoard, IsSize}
use Rattle.cam_units.specs.declared.length.Nm.{Nm}
use Rattle.cam_units.specs.declared.point.Point.{Point}
use Rattle.cam_objects.specs.declared.drill_item.DrillItem.{DrillItem}
use Rattle.cam_objects.specs.declared.drill_item.DrillItem.TheVariants.{Hit, Rout}
use Rattle.cam_objects.specs.declared.entry.Entry.{Entry}
use Rattle.cam_objects.specs.declared.item.Item.{Item}
use Rattle.cam_objects.specs.Bounds.{bounds_of, box_of_all, box_of_shape}
use Rattle.cam_objects.specs.Drilling.{diameter_of, drill_item_leaves, leaves_with, rout_leaves, slots_from}
use Rattle.cam_objects.specs.DrillSoundness.{IsSoundDrillContent, IsSoundDrillItem, IsSoundTool}
use Rattle.cam_objects.specs.Leaves.{Drilled, Leaf, Shape, Stroke, item_leaves, leaf, meaning_in}
use Rattle.cam_objects.specs.Machinery.Asked.{AreUncrossed}
use Rattle.cam_objects.specs.Machinery.Boxes.{IsSizedShape, IsUncrossed}
use Rattle.cam_objects.specs.Soundness.{IsInside, IsSoundContent, IsSoundDictionary, IsSoundItem, points_of_shape}
use Rattle.cam_objects.specs.Topmost.{drill_item_lists, item_lists}
use Rattle.cam_objects.proofs.BoxLimits.{within_uncrossed}
use Rattle.cam_objects.proofs.CopyBoxes.{all_flat}
use Rattle.cam_objects.proofs.ItemBounds.{clear_leaves}
use Rattle.cam_objects.proofs.MovedBounds.{item_sized}
use Rattle.cam_objects.proofs.SizedLeaves.{meaning_sized, reach, shape_within}
use Rattle.cam_objects.proofs.SoundItems.{meets, meets_drill}
use Rattle.cam_objects.proofs.SoundTools.{tool_size}

abbrev IsClear : Leaf → Type 0
IsClear l = IsUncrossed (box_of_shape l.shape)

clear_item : (es : List (ℕ × Entry)) (item : Item) → IsSoundDictionary es → IsSoundItem es item
    → AreUncrossed (item_leaves (meaning_in es) item)
clear_item es item sound good =
    let inside : IsInside es item = (meets es item good).inside in
    clear_leaves (item_leaves (meaning_in es) item) (item_sized es (λ n. meaning_sized es n sound) item) inside.leaves

pub clear_items : (es : List (ℕ × Entry)) (items : List Item) → IsSoundContent es items → All AreUncrossed (item_lists es items)
clear_items es items h =
    All-map AreUncrossed (item_leaves (meaning_in es)) items
    (All-weaker (IsSoundItem es) (λ item. AreUncrossed (item_leaves (meaning_in es) item))
    (λ item good. clear_item es item h.entries good) items h.items)

-- ---- holes and slots

clear_shape : (s : Shape) → IsSizedShape s → All IsOnBoard (points_of_shape s) → IsUncrossed (box_of_shape s)
clear_shape s size board = within_uncrossed reach (box_of_shape s) (shape_within s size board)

one_point : (p : Point) → IsOnBoard p → All IsOnBoard (p ∷ [])
one_point p h = All-cons IsOnBoard p [] h (All-nil IsOnBoard)

clear_slots : (d : Nm) (here : Point) (ps : List Point) → IsSize d.0 → IsOnBoard here → All IsOnBoard ps
    → AreUncrossed (slots_from d here ps)
clear_slots d here [] size on all = All-nil IsClear
clear_slots d here (p ∷ ps) size on all =
    let to = All-head IsOnBoard p ps all in
    let slot : Shape = Stroke (record { from = here; to = p; width = d }) in
    All-cons IsClear (leaf slot true) (slots_from d p ps)
    (clear_shape slot size (All-cons IsOnBoard here (p ∷ []) on (one_point p to)))
    (clear_slots d p ps size to (All-tail IsOnBoard p ps all))

clear_rout : (d : Nm) (ps : List Point) → IsSize d.0 → All IsOnBoard ps → AreUncrossed (rout_leaves d ps)
clear_rout d [] size all = All-nil IsClear
clear_rout d (p ∷ []) size all =
    let hole : Shape = Drilled (record { centre = p; diameter = d }) in
    All-cons IsClear (leaf hole true) [] (clear_shape hole size all) (All-nil IsClear)
clear_rout d (p ∷ q ∷ ps) size all =
    clear_slots d p (q ∷ ps) size (All-head IsOnBoard p (q ∷ ps) all) (All-tail IsOnBoard p (q ∷ ps) all)

clear_drilled : (tools : List (ℕ × Nm)) (item : DrillItem) → All (λ (t : ℕ × Nm). IsSoundTool t.0 t.1) tools
    → IsSoundDrillItem tools item → AreUncrossed (drill_item_leaves tools item)
clear_drilled tools (Hit tool at) sound good = by (diameter_of tools tool) refl
  where
    by : (d : Option Nm) → diameter_of tools tool ≡ d → AreUncrossed (drill_item_leaves tools (Hit tool at))
    by None e = subst (λ o. AreUncrossed (leaves_with o (Hit tool at))) (sym e) (All-nil IsClear)
    by (Some d) e =
        subst (λ o. AreUncrossed (leaves_with o (Hit tool at))) (sym e)
        (clear_rout d (at ∷ []) (tool_size tools tool d sound e) (meets_drill tools (Hit tool at) good).inside)
clear_drilled tools (Rout tool points) sound good = by (diameter_of tools tool) refl
  where
    by : (d : Option Nm) → diameter_of tools tool ≡ d → AreUncrossed (drill_item_leaves tools (Rout tool points))
    by None e = subst (λ o. AreUncrossed (leaves_with o (Rout tool points))) (sym e) (All-nil IsClear)
    by (Some d) e =
        subst (λ o. AreUncrossed (leaves_with o (Rout tool points))) (sym e)
        (clear_rout d points (tool_size tools tool d sound e) (meets_drill tools (Rout tool points) good).inside)

pub clear_drill_items : (tools : List (ℕ × Nm)) (items : List DrillItem) → IsSoundDrillContent tools items
    → All AreUncrossed (drill_item_lists tools items)
clear_drill_items tools items h =
    All-map AreUncrossed (drill_item_leaves tools) items
    (All-weaker (IsSoundDrillItem tools) (λ item. AreUncrossed (drill_item_leaves tools item))
    (λ item good. clear_drilled tools item h.tools good) items h.items)

-- ---- the box of them all

clear_all : (lists : List (List Leaf)) → All AreUncrossed lists → AreUncrossed (flat_map (λ leaves. leaves) lists)
clear_all [] h = All-nil IsClear
clear_all (ls ∷ lists) h =
    All-append IsClear ls (flat_map (λ leaves. leaves) lists) (All-head AreUncrossed ls lists h)
    (clear_all lists (All-tail AreUncrossed ls lists h))

-- is the box of all their leaves
pub whole : (lists : List (List Leaf)) → All AreUncrossed lists
    → box_of_all bounds_of lists ≡ bounds_of (flat_map (λ leaves. leaves) lists)
whole lists h = sym (all_flat (λ (l : Leaf). box_of_shape l.shape) (λ (leaves : List Leaf). leaves) lists (clear_all lists h))
