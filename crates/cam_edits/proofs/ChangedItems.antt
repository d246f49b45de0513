-- Items with another aperture, polarity or tool: what they keep of the items before.
use Rattle.std.proofs.Common.{arith, ◌≡◌, ℕ, ◌≤◌, Bool, List, length, Option, refl, sym, subst}
use Rattle.std.specs.List.{All}
use Rattle.std.specs.Prelude.{IsTrue, is_some}
use Rattle.std.proofs.lemmas.List.Elements.{All-cons, All-head, All-nil}
use Rattle.cam_units.specs.Board.{IsOnBoard}
use Rattle.cam_units.specs.declared.bounds.Bounds.{Bounds}
use Rattle.cam_units.specs.declared.length.Nm.{Nm}
use Rattle.cam_units.specs.declared.point.Point.{Point}
use Rattle.cam_objects.specs.declared.drill_item.DrillItem.{DrillItem}
use Rattle.cam_objects.specs.declared.drill_item.DrillItem.TheVariants.{Hit, Rout}
use Rattle.cam_objects.specs.declared.entry.Entry.{Entry}
use Rattle.cam_objects.specs.declared.item.Item.{Item}
use Rattle.cam_objects.specs.declared.item.Item.TheVariants.{One, Repeat}
use Rattle.cam_objects.specs.declared.object.Object.{Object}
use Rattle.cam_objects.specs.Bounds.{bounds_of, box_of_shape}
use Rattle.cam_objects.specs.Drilling.{diameter_of}
use Rattle.cam_objects.specs.DrillSoundness.{IsSoundDrillItem, drill_count_of}
use Rattle.cam_objects.specs.Leaves.{Meaning, Shape, arc_leaves, draw_leaves, item_leaves, meaning_in, object_leaves, origin}
use Rattle.cam_objects.specs.Soundness.{IsInside, IsSoundItem, objects_of, points_of, segs_of}
use Rattle.cam_objects.specs.Weights.{Weight, item_count, object_count, weight_in}
use Rattle.cam_objects.proofs.BoardLeaves.{board_alike}
use Rattle.cam_objects.proofs.PlacedBoxes.{box_of_leaves, flash_placed}
use Rattle.cam_objects.proofs.PlacedShapes.{IsPlacedSo, box_of_points, points_so, shapes_so}
use Rattle.cam_edits.specs.DrillSteps.{with_tool}
use Rattle.cam_edits.specs.Steps.{with_object, with_polarity}
use Rattle.cam_objects.specs.declared.tip.Tip.{Tip}
use Rattle.cam_units.specs.declared.turn.Turn.{Turn}
use Rattle.cam_objects.proofs.SoundItems.{HasRadius, IsDrawable, IsFormed, IsKnown, meets, meets_drill, sound, sound_drill}

-- what holds of each object, changed
each_kept : (f : Object → Object) (P : Object → Type 0) → ((o : Object) → P o → P (f o)) → (item : Item)
    → All P (objects_of item) → All P (objects_of (with_object f item))
each_kept f P kept item h = grind (arith, All-cons, All-head, All-nil)

-- ---- another polarity

module _ (dark : Bool) where
  abbrev inked : Object → Object
  inked o = with_polarity dark o

  module _ (m : Shape → Bounds) (so : IsPlacedSo m) (es : List (ℕ × Entry)) where
    drawn_box : (tip : Option Tip) (t : Turn) (from to : Point) (before : Bool)
        → box_of_leaves m (draw_leaves tip t from to dark) ≡ box_of_leaves m (draw_leaves tip t from to before)
    drawn_box tip t from to before = grind arith

    swept_box : (w : Option Nm) (from to centre : Point) (ccw before : Bool)
        → box_of_leaves m (arc_leaves w from to centre ccw dark)
        ≡ box_of_leaves m (arc_leaves w from to centre ccw before)
    swept_box w from to centre ccw before = grind arith

    -- what paints the same shapes has the same box
    inked_box : (o : Object)
        → box_of_leaves m (object_leaves (meaning_in es) origin (inked o))
        ≡ box_of_leaves m (object_leaves (meaning_in es) origin o)
    inked_box o = grind (arith, flash_placed, drawn_box, swept_box)

  pub box_with_polarity : (es : List (ℕ × Entry)) (item : Item)
      → bounds_of (item_leaves (meaning_in es) (with_object inked item)) ≡ bounds_of (item_leaves (meaning_in es) item)
  box_with_polarity es (One o) = inked_box box_of_shape shapes_so es o
  box_with_polarity es (Repeat columns rows i j objects) = refl

  formed : (o : Object) → IsFormed o → IsFormed (inked o)
  formed o h = grind arith

  known : (es : List (ℕ × Entry)) (o : Object) → IsKnown es o → IsKnown es (inked o)
  known es o h = grind arith

  drawable : (means : ℕ → Meaning) (o : Object) → IsDrawable means o → IsDrawable means (inked o)
  drawable means o h = grind arith

  radius : (o : Object) → HasRadius o → HasRadius (inked o)
  radius o h = grind arith

  stands : (o : Object) → All IsOnBoard (points_of o) → All IsOnBoard (points_of (inked o))
  stands o h = grind arith

  few_segs : (o : Object) → length (segs_of o) ≤ 1000000 → length (segs_of (inked o)) ≤ 1000000
  few_segs o h = grind arith

  counted : (w : ℕ → Weight) (o : Object) → object_count w (inked o) ≡ object_count w o
  counted w o = grind arith

  pub count_with_polarity : (w : ℕ → Weight) (item : Item) → item_count w (with_object inked item) ≡ item_count w item
  count_with_polarity w item = grind (arith, counted)

  inside : (es : List (ℕ × Entry)) (o : Object) → IsInside es (One o) → IsInside es (One (inked o))
  inside es o h =
      record {
        points = each_kept inked (λ o. All IsOnBoard (points_of o)) stands (One o) h.points;
        steps = tt;
        leaves =
            board_alike (object_leaves (meaning_in es) origin o) (object_leaves (meaning_in es) origin (inked o))
            (sym (inked_box box_of_points points_so es o)) h.leaves;
      }

  -- a sound object of another polarity is sound
  object_with_polarity : (es : List (ℕ × Entry)) (o : Object) → IsSoundItem es (One o) → IsSoundItem es (One (inked o))
  object_with_polarity es o h =
      let m = meets es (One o) h in
      sound es (One (inked o)) (record {
        repeated = tt;
        formed = each_kept inked IsFormed formed (One o) m.formed;
        known = each_kept inked (IsKnown es) (known es) (One o) m.known;
        drawable = each_kept inked (IsDrawable (meaning_in es)) (drawable (meaning_in es)) (One o) m.drawable;
        radii = each_kept inked HasRadius radius (One o) m.radii;
        inside = inside es o m.inside;
        limits = record {
          segs = each_kept inked (λ o. length (segs_of o) ≤ 1000000) few_segs (One o) m.limits.segs;
          objects = m.limits.objects;
          leaves = subst (λ k. k ≤ 4000000) (sym (counted (weight_in es) o)) m.limits.leaves;
        };
      })

  pub sound_with_polarity : (es : List (ℕ × Entry)) (item : Item) → IsSoundItem es item
      → IsSoundItem es (with_object inked item)
  sound_with_polarity es item h = grind (arith, object_with_polarity)

-- ---- another tool

pub count_with_tool : (t : ℕ) (item : DrillItem) → drill_count_of (with_tool t item) ≡ drill_count_of item
count_with_tool t item = grind arith

-- a sound item with another tool that there is is sound
pub sound_with_tool : (ts : List (ℕ × Nm)) (t : ℕ) (item : DrillItem) → IsTrue (is_some (diameter_of ts t))
    → IsSoundDrillItem ts item
    → IsSoundDrillItem ts (with_tool t item)
sound_with_tool ts t (Hit before at) there h =
    let m = meets_drill ts (Hit before at) h in
    sound_drill ts (Hit t at) (record { some = m.some; known = there; inside = m.inside; few = m.few })
sound_with_tool ts t (Rout before points) there h =
    let m = meets_drill ts (Rout before points) h in
    sound_drill ts (Rout t points) (record { some = m.some; known = there; inside = m.inside; few = m.few })
