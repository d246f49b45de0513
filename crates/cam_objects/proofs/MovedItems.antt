-- an item that is moved keeps its form, its numbers, its radii and its counts
use Rattle.std.proofs.Common.{◌≡◌, ℕ, ◌+◌, ◌*◌, ◌≤◌, ℤ, ◌+ℤ◌, int_eq, ◌&&◌, List, [], ◌∷◌, length, map, refl, sym, ap, subst, ◌∙◌, arith}
use Rattle.std.specs.List.{All}
use Rattle.std.proofs.lemmas.Int.{ints}
use Rattle.std.proofs.lemmas.List.{length-map}
use Rattle.std.proofs.lemmas.List.Elements.{All-cons, All-head, All-map, All-nil, All-weaker}
use Rattle.std.proofs.lemmas.List.Sums.{sum_by-cons}
use Rattle.cam_units.specs.declared.point.Point.{Point}
use Rattle.cam_shapes.specs.Shifting.{shifted_point, shifted_seg}
use Rattle.cam_shapes.specs.declared.segments.Seg.{Seg}
use Rattle.cam_shapes.specs.declared.segments.Seg.TheVariants.{Line, Curve}
use Rattle.cam_objects.specs.declared.entry.Entry.{Entry}
use Rattle.cam_objects.specs.declared.item.Item.{Item}
use Rattle.cam_objects.specs.declared.item.Item.TheVariants.{One, Repeat}
use Rattle.cam_objects.specs.declared.object.Object.{Object}
use Rattle.cam_objects.specs.Leaves.{Meaning, meaning_in}
use Rattle.cam_objects.specs.Shifting.{shifted_item, shifted_object}
use Rattle.cam_objects.specs.Soundness.{IsInside, IsSoundItem, have_radii, is_apart, objects_of, segs_of}
use Rattle.cam_objects.specs.Weights.{Weight, block_count, item_count, object_count, weight_in}
use Rattle.cam_objects.proofs.SoundItems.{HasRadius, IsDrawable, IsFormed, IsKnown, IsRepeated, meets, sound}

module _ (by : Point) where
  abbrev moves : Object → Object
  moves o = shifted_object by o

  same_moved : (a b c : ℤ) → int_eq (a +ℤ c) (b +ℤ c) ≡ int_eq a b
  same_moved a b c = grind (arith, ints)

  points_apart : (p q : Point) → is_apart (shifted_point by p) (shifted_point by q) ≡ is_apart p q
  points_apart p q = rw (same_moved p.x q.x by.x, same_moved p.y q.y by.y) refl

  same_radii : (here : Point) (segs : List Seg)
      → have_radii (shifted_point by here) (map (shifted_seg by) segs) ≡ have_radii here segs
  same_radii here [] = refl
  same_radii here (Line to ∷ segs) = same_radii to segs
  same_radii here (Curve to centre ccw ∷ segs) = λ i. points_apart here centre i && same_radii to segs i

  radius_kept : (o : Object) → HasRadius o → HasRadius (moves o)
  radius_kept o h = grind (arith, points_apart, same_radii)

  formed_kept : (o : Object) → IsFormed o → IsFormed (moves o)
  formed_kept o h = grind (arith, length-map)

  known_kept : (es : List (ℕ × Entry)) (o : Object) → IsKnown es o → IsKnown es (moves o)
  known_kept es o h = grind arith

  drawable_kept : (means : ℕ → Meaning) (o : Object) → IsDrawable means o → IsDrawable means (moves o)
  drawable_kept means o h = grind arith

  few_segs_kept : (o : Object) → length (segs_of o) ≤ 1000000 → length (segs_of (moves o)) ≤ 1000000
  few_segs_kept o h = grind (arith, length-map)

  count_kept : (w : ℕ → Weight) (o : Object) → object_count w (moves o) ≡ object_count w o
  count_kept w o = grind arith

  block_kept : (w : ℕ → Weight) (objects : List Object) → block_count w (map moves objects) ≡ block_count w objects
  block_kept w [] = refl
  block_kept w (o ∷ objects) =
      sum_by-cons (object_count w) (moves o) (map moves objects)
      ∙ (λ i. count_kept w o i + block_kept w objects i)
      ∙ sym (sum_by-cons (object_count w) o objects)

  pub item_count_kept : (w : ℕ → Weight) (item : Item) → item_count w (shifted_item by item) ≡ item_count w item
  item_count_kept w (One o) = count_kept w o
  item_count_kept w (Repeat columns rows i j objects) = ap (λ k. columns * rows * k) (block_kept w objects)

  -- what holds of each object moved
  each_kept : (P : Object → Type 0) → ((o : Object) → P o → P (moves o)) → (item : Item) → All P (objects_of item)
      → All P (objects_of (shifted_item by item))
  each_kept P kept (One o) h = All-cons P (moves o) [] (kept o (All-head P o [] h)) (All-nil P)
  each_kept P kept (Repeat columns rows i j objects) h = All-map P moves objects (All-weaker P (λ o. P (moves o)) kept objects h)

  repeated_kept : (item : Item) → IsRepeated item → IsRepeated (shifted_item by item)
  repeated_kept item h = grind (arith, length-map)

  few_kept : (item : Item) → length (objects_of item) ≤ 1000000 → length (objects_of (shifted_item by item)) ≤ 1000000
  few_kept item h = grind (arith, length-map)

  -- an item that stays on the board stays sound
  pub sound_kept : (es : List (ℕ × Entry)) (item : Item) → IsSoundItem es item → IsInside es (shifted_item by item)
      → IsSoundItem es (shifted_item by item)
  sound_kept es item h inside =
      let m = meets es item h in
      sound es (shifted_item by item) (record {
        repeated = repeated_kept item m.repeated;
        formed = each_kept IsFormed formed_kept item m.formed;
        known = each_kept (IsKnown es) (known_kept es) item m.known;
        drawable = each_kept (IsDrawable (meaning_in es)) (drawable_kept (meaning_in es)) item m.drawable;
        radii = each_kept HasRadius radius_kept item m.radii;
        inside = inside;
        limits = record {
          segs = each_kept (λ o. length (segs_of o) ≤ 1000000) few_segs_kept item m.limits.segs;
          objects = few_kept item m.limits.objects;
          leaves = subst (λ k. k ≤ 4000000) (sym (item_count_kept (weight_in es) item)) m.limits.leaves;
        };
      })
