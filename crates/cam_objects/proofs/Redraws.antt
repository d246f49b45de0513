-- leaves that do not cover a place may be taken out, put in and moved
use Rattle.std.proofs.Common.{arith, ◌≡◌, ◌↔◌, List, [], ◌∷◌, ◌++◌, sym, ap, ◌∙◌, append_assoc}
use Rattle.std.specs.List.{flat_map}
use Rattle.std.proofs.lemmas.Grind.{flat_map-append}
use Rattle.std.proofs.lemmas.List.Elements.{All-head, All-tail}
use Rattle.cam_units.specs.declared.point.Spot.{Spot}
use Rattle.cam_units.specs.Boxes.{Holds}
use Rattle.cam_objects.specs.Bounds.{bounds_of}
use Rattle.cam_objects.specs.BoxLaws.{CoverBoxLaw, IsOutside, KeepsOutside, BoxRedrawLaw}
use Rattle.cam_objects.specs.Drilling.{drill_item_leaves}
use Rattle.cam_objects.specs.Image.{IsBlack, IsUncovered}
use Rattle.cam_objects.specs.Leaves.{Leaf, item_leaves, meaning_in}
use Rattle.cam_objects.specs.Tests.{last_ink}
use Rattle.cam_objects.proofs.CoveredBoxes.{covered_box, outside_box}
use Rattle.cam_objects.proofs.Inking.{uncovered_append, uncovered_nil}
use Rattle.cam_objects.proofs.LastInks.{last_paints, last_without}

-- where one leaf decides, places are black alike
same_image : (a b : List Leaf) (s : Spot) → last_ink a s ≡ last_ink b s → IsBlack a s ↔ IsBlack b s
same_image a b s e = grind (arith, last_paints)

module _ {X : Type 0} (paints : X → List Leaf) where
  uncovered_items : (items : List X) (s : Spot) → IsOutside paints items s → IsUncovered (flat_map paints items) s
  uncovered_items [] s h = uncovered_nil s
  uncovered_items (x ∷ items) s h =
      uncovered_append s (paints x) (flat_map paints items)
      (outside_box (paints x) s (All-head (λ item. Holds (bounds_of (paints item)) s → ⊥) x items h))
      (uncovered_items items s (All-tail (λ item. Holds (bounds_of (paints item)) s → ⊥) x items h))

  three : (a u b : List X) → flat_map paints (a ++ u ++ b) ≡ flat_map paints a ++ flat_map paints u ++ flat_map paints b
  three a u b = flat_map-append paints (a ++ u) b ∙ ap (λ ls. ls ++ flat_map paints b) (flat_map-append paints a u)

  -- items of which none covers the place
  without : (a u b : List X) (s : Spot) → IsOutside paints u s
      → last_ink (flat_map paints (a ++ u ++ b)) s ≡ last_ink (flat_map paints (a ++ b)) s
  without a u b s h = grind (arith, three, last_without, uncovered_items, flat_map-append)

  pub keeps_outside : KeepsOutside paints
  keeps_outside = record {
    exchanged = λ before old new after s h k.
        same_image (flat_map paints (before ++ old ++ after)) (flat_map paints (before ++ new ++ after)) s
        (without before old after s h ∙ sym (without before new after s k));
    reordered = λ before going between after s h.
        same_image (flat_map paints (before ++ going ++ between ++ after)) (flat_map paints (before ++ between ++ going ++ after)) s
        (ap (λ xs. last_ink (flat_map paints xs) s) (append_assoc (before ++ going) between after)
        ∙ without before going (between ++ after) s h
        ∙ ap (λ xs. last_ink (flat_map paints xs) s) (sym (append_assoc before between after))
        ∙ sym (without (before ++ between) going after s h));
  }

pub cover_box_law : CoverBoxLaw
cover_box_law = record { shape = covered_box; leaves = outside_box }

pub redraw_law : BoxRedrawLaw
redraw_law = record {
  items = λ entries. keeps_outside (item_leaves (meaning_in entries));
  drill_items = λ tools. keeps_outside (drill_item_leaves tools);
}
