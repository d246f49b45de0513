-- What a sound item meets, and what a check tells of another.
use Rattle.std.proofs.Common.{arith, ◌≡◌, ℕ, ◌*◌, ◌<◌, ◌≤◌, Bool, true, not, cond, IsTrue, List, length, Option, None, Some, Ok}
use Rattle.std.proofs.Common.{is_some, refl}
use Rattle.std.specs.Bool.{Decides}
use Rattle.std.specs.List.{All, list_all}
use Rattle.std.proofs.lemmas.Bool.Decides.{Decides-ltb}
use Rattle.cam_refusals.specs.Checks.{answer_of}
use Rattle.cam_units.specs.Board.{IsOnBoard}
use Rattle.cam_units.specs.declared.length.Nm.{Nm}
use Rattle.cam_units.specs.declared.point.Point.{Point}
use Rattle.cam_shapes.specs.declared.segments.Seg.{Seg}
use Rattle.cam_objects.specs.declared.drill_item.DrillItem.{DrillItem}
use Rattle.cam_objects.specs.declared.entry.Entry.{Entry}
use Rattle.cam_objects.specs.declared.item.Item.{Item}
use Rattle.cam_objects.specs.declared.item.Item.TheVariants.{One, Repeat}
use Rattle.cam_objects.specs.declared.object.Object.{Object}
use Rattle.cam_objects.specs.Drilling.{diameter_of}
use Rattle.cam_objects.specs.DrillSoundness.{IsSoundDrillItem, drill_item_checks, drill_points_of, tool_of}
use Rattle.cam_objects.specs.Leaves.{Meaning, meaning_in}
use Rattle.cam_objects.specs.Soundness.{
  IsInside,
  IsSoundItem,
  has_few_segs,
  has_number,
  has_radii,
  has_radius,
  have_radii,
  is_drawable,
  is_drawable_item,
  is_formed,
  is_formed_item,
  is_inside,
  is_known,
  is_known_item,
  is_repeated,
  is_within_limits,
  item_checks,
  objects_of,
  segs_of,
}
use Rattle.cam_objects.specs.Weights.{item_count, weight_in}
use Rattle.cam_objects.proofs.TestLaws.{all, all_on_board, at_most, both, inside_law, like}

-- ---- tests of objects, as facts

abbrev pub IsFormed : Object → Type 0
IsFormed object = IsTrue (is_formed object)

abbrev pub HasNumber : List (ℕ × Entry) → ℕ → Type 0
HasNumber entries n = IsTrue (has_number entries n)

abbrev pub IsKnown : List (ℕ × Entry) → Object → Type 0
IsKnown entries object = IsTrue (is_known entries object)

abbrev pub IsDrawable : (ℕ → Meaning) → Object → Type 0
IsDrawable means object = IsTrue (is_drawable means object)

abbrev pub HaveRadii : Point → List Seg → Type 0
HaveRadii here segs = IsTrue (have_radii here segs)

abbrev pub HasRadius : Object → Type 0
HasRadius object = IsTrue (has_radius object)

-- ---- what an item meets

abbrev pub IsRepeated : Item → Type 0
IsRepeated (One object) = Unit {0}
IsRepeated (Repeat columns rows i j objects) = (1 < columns * rows) × (0 < length objects)

pub record IsWithinLimits (entries : List (ℕ × Entry)) (item : Item) : Type 0 where
  pub segs : All (λ o. length (segs_of o) ≤ 1000000) (objects_of item)
  pub objects : length (objects_of item) ≤ 1000000
  pub leaves : item_count (weight_in entries) item ≤ 4000000

pub record Meets (entries : List (ℕ × Entry)) (item : Item) : Type 0 where
  pub repeated : IsRepeated item
  pub formed : All IsFormed (objects_of item)
  pub known : All (IsKnown entries) (objects_of item)
  pub drawable : All (IsDrawable (meaning_in entries)) (objects_of item)
  pub radii : All HasRadius (objects_of item)
  pub inside : IsInside entries item
  pub limits : IsWithinLimits entries item

pub record MeetsDrill (tools : List (ℕ × Nm)) (item : DrillItem) : Type 0 where
  pub some : 0 < length (drill_points_of item)
  pub known : IsTrue (is_some (diameter_of tools (tool_of item)))
  pub inside : All IsOnBoard (drill_points_of item)
  pub few : length (drill_points_of item) ≤ 1000000

-- a test is what it says
each : {X : Type 0} (p : X → Bool) (xs : List X) → Decides (list_all p xs) (All (λ x. IsTrue (p x)) xs)
each p xs = all p (λ x. IsTrue (p x)) (λ x. ((λ h. h), (λ h. h))) xs

pub repeated : (item : Item) → Decides (is_repeated item) (IsRepeated item)
repeated item = grind (arith, both, Decides-ltb)

pub formed : (item : Item) → Decides (is_formed_item item) (IsRepeated item × All IsFormed (objects_of item))
formed item = both (repeated item) (each is_formed (objects_of item))

pub known : (entries : List (ℕ × Entry)) (item : Item) → Decides (is_known_item entries item) (All (IsKnown entries) (objects_of item))
known entries item = each (is_known entries) (objects_of item)

pub drawable : (entries : List (ℕ × Entry)) (item : Item)
    → Decides (is_drawable_item entries item) (All (IsDrawable (meaning_in entries)) (objects_of item))
drawable entries item = each (is_drawable (meaning_in entries)) (objects_of item)

pub radii : (item : Item) → Decides (has_radii item) (All HasRadius (objects_of item))
radii item = each has_radius (objects_of item)

pub within_limits : (entries : List (ℕ × Entry)) (item : Item) → Decides (is_within_limits entries item) (IsWithinLimits entries item)
unfolding is_within_limits
within_limits es item =
    like (λ h. record { segs = h.0; objects = h.1.0; leaves = h.1.1 }) (λ h. (h.segs, (h.objects, h.leaves)))
    (both
    (all has_few_segs (λ o. length (segs_of o) ≤ 1000000) (λ o. at_most (length (segs_of o)) 1000000) (objects_of item))
    (both (at_most (length (objects_of item)) 1000000) (at_most (item_count (weight_in es) item) 4000000)))

-- ---- checks

-- where no check tells a fault, the first holds of none and the rest tell none
pub passed : {F : Type 0} (fault : F) (met : Bool) (later : Option F) → cond (not met) (Some fault) later ≡ None
    → (met ≡ true) × (later ≡ None)
passed fault met later e = grind arith

-- what is answered where checks tell none
pub none_told : {F : Type 0} (o : Option F) (done : Unit) → Ok done ≡ answer_of o → o ≡ None
none_told o done e = grind arith

module _ (es : List (ℕ × Entry)) (item : Item) where
  pub meets : IsSoundItem es item → Meets es item
  unfolding item_checks
  meets sound =
      let a = passed _ (is_formed_item item) _ sound in
      let b = passed _ (is_known_item es item) _ a.1 in
      let c = passed _ (is_drawable_item es item) _ b.1 in
      let d = passed _ (has_radii item) _ c.1 in
      let e = passed _ (is_inside es item) _ d.1 in
      let f = passed _ (is_within_limits es item) _ e.1 in
      record {
        repeated = ((formed item).0 a.0).0;
        formed = ((formed item).0 a.0).1;
        known = (known es item).0 b.0;
        drawable = (drawable es item).0 c.0;
        radii = (radii item).0 d.0;
        inside = (inside_law es item).0 e.0;
        limits = (within_limits es item).0 f.0;
      }

  pub sound : Meets es item → IsSoundItem es item
  unfolding item_checks
  sound m =
      rw (
        (formed item).1 (m.repeated, m.formed),
        (known es item).1 m.known,
        (drawable es item).1 m.drawable,
        (radii item).1 m.radii,
        (inside_law es item).1 m.inside,
        (within_limits es item).1 m.limits,
      ) refl

module _ (tools : List (ℕ × Nm)) (item : DrillItem) where
  pub meets_drill : IsSoundDrillItem tools item → MeetsDrill tools item
  unfolding drill_item_checks
  meets_drill sound = grind (arith, passed, sound, Decides-ltb, known, all_on_board, at_most)

  pub sound_drill : MeetsDrill tools item → IsSoundDrillItem tools item
  unfolding drill_item_checks
  sound_drill m = grind (arith, Decides-ltb, known, all_on_board, at_most)
