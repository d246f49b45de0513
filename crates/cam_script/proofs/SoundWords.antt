-- The items of sound layers have numbers and points that lines can say.
use Rattle.std.proofs.Common.{◌≡◌, sym, subst, refl, ℕ, ◌≤◌, Bool, true, false, cond, IsTrue, List, [], ◌∷◌, Option, None, Some, arith}
use Rattle.std.specs.Prelude.{All, IsSome, is_some, nat_eq}
use Rattle.std.specs.List.{IsAmong}
use Rattle.std.specs.Map.{lookup}
use Rattle.std.proofs.lemmas.Bool.{false≢true}
use Rattle.std.proofs.lemmas.Bool.Decides.{nat_tests}
use Rattle.std.proofs.lemmas.List.Elements.{All-head, All-tail}
use Rattle.cam_units.specs.declared.length.Nm.{Nm}
use Rattle.cam_objects.specs.Drilling.{diameter_of}
use Rattle.cam_objects.specs.DrillSoundness.{IsSoundDrillLayer, IsSoundDrillItem, tool_of}
use Rattle.cam_objects.specs.Limits.{last_number, last_tool}
use Rattle.cam_objects.specs.Soundness.{IsSound, IsSoundItem}
use Rattle.cam_objects.proofs.SoundItems.{IsKnown, meets, meets_drill}
use Rattle.cam_objects.specs.declared.drill_item.DrillItem.{DrillItem}
use Rattle.cam_objects.specs.declared.drill_layer.DrillLayer.{DrillLayer}
use Rattle.cam_objects.specs.declared.entry.Entry.{Entry}
use Rattle.cam_objects.specs.declared.item.Item.TheVariants.{One}
use Rattle.cam_objects.specs.declared.layer.Layer.{Layer}
use Rattle.cam_objects.specs.declared.object.Object.{Object}
use Rattle.cam_objects.specs.declared.object.Object.TheVariants.{Flash, Draw, Arc, Region}
use Rattle.cam_script.specs.Spelling.{IsSayable, IsSayableDrilling, SoundItemsCanBeSaid, aperture_number}

-- a number that is found is one of the list
found_below : {X : Type 0} (n most : ℕ) (entries : List (ℕ × X)) → All (λ (e : ℕ × X). e.0 ≤ most) entries
    → IsSome (lookup (nat_eq n) entries) → n ≤ most
found_below n most [] low found = absurd (false≢true found)
found_below {X} n most (e ∷ es) low found =
    by_test (nat_eq n e.0) refl (λ h. found_below n most es (All-tail (λ (e : ℕ × X). e.0 ≤ most) e es low) h) found
  where
    by_test : (b : Bool) → nat_eq n e.0 ≡ b → (IsSome (lookup (nat_eq n) es) → n ≤ most)
        → IsSome (cond b (Some e.1) (lookup (nat_eq n) es)) → n ≤ most
    by_test true is rest h =
        let here : e.0 ≤ most = All-head (λ (e : ℕ × X). e.0 ≤ most) e es low in
        let same : n ≡ e.0 = grind (arith, nat_tests) in
        omega (arith, here, same)
    by_test false is rest h = rest h

some_told : {X : Type 0} (o : Option X) → IsTrue (is_some o) → IsSome o
some_told None h = h
some_told (Some x) h = h

-- an element of a list has what all of them have
at_place : {X : Type 0} (P : X → Type 0) (xs : List X) (x : X) → All P xs → IsAmong xs x → P x
at_place P xs x all among = subst P (sym among.1.1) (all among.0 x among.1.0)

module _ (l : Layer) (sound : IsSound l) where
  numbers_below : All (λ (e : ℕ × Entry). e.0 ≤ last_number) l.apertures
  numbers_below = λ k d lt. (sound.content.entries k d lt).greatest

  known_below : (object : Object) → IsKnown l.apertures object → aperture_number object ≤ last_number
  known_below (Flash n at turn dark) known = found_below n last_number l.apertures numbers_below known
  known_below (Draw n from to turn dark) known = found_below n last_number l.apertures numbers_below known
  known_below (Arc ccw dark n from to centre) known = found_below n last_number l.apertures numbers_below known
  known_below (Region contour dark) known = omega arith

  object_sayable : (object : Object) → IsSoundItem l.apertures (One object) → IsSayable object
  object_sayable object h =
      let met = meets l.apertures (One object) h in
      record {
        number = omega (arith, known_below object (All-head (IsKnown l.apertures) object [] met.known));
        points = met.inside.points 0 object (omega arith);
        formed = met.formed 0 object (omega arith);
      }

module _ (l : DrillLayer) (sound : IsSoundDrillLayer l) where
  tools_below : All (λ (t : ℕ × Nm). t.0 ≤ last_tool) l.tools
  tools_below = λ k d lt. (sound.tools k d lt).few

  drilling_sayable : (item : DrillItem) → IsSoundDrillItem l.tools item → IsSayableDrilling item
  drilling_sayable item h =
      let met = meets_drill l.tools item h in
      record {
        tool = omega (
          arith,
          found_below (tool_of item) last_tool l.tools tools_below (some_told (diameter_of l.tools (tool_of item)) met.known),
        );
        points = met.inside;
        formed = met.some;
      }

pub sound_items_lem : SoundItemsCanBeSaid
sound_items_lem = record {
  objects = λ l object sound among. object_sayable l sound object
      (at_place (IsSoundItem l.apertures) l.items.items (One object) sound.content.items among);
  drill_items = λ l item sound among. drilling_sayable l sound item
      (at_place (IsSoundDrillItem l.tools) l.items.items item sound.items among);
}
