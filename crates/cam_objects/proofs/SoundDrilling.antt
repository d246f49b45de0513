-- drill layers stay sound as they grow
use Rattle.std.proofs.Common.{arith}
use Rattle.std.proofs.Common.{◌≡◌, ℕ, Bool, true, false, cond, List, [], ◌∷◌, ◌++◌, Some, None, nat_eq, is_some, refl, sym, subst}
use Rattle.std.specs.Prelude.{◌||◌}
use Rattle.std.specs.Cmp.{nat_eq_equiv}
use Rattle.std.specs.List.{All, IsDistinct, list_any}
use Rattle.std.specs.Map.{keys_of, lookup}
use Rattle.std.proofs.lemmas.List.{map-append}
use Rattle.std.proofs.lemmas.Map.Keys.{IsDistinct-push}
use Rattle.std.proofs.lemmas.List.Elements.{All-append, All-cons, All-nil, All-weaker}
use Rattle.cam_units.specs.declared.length.Nm.{Nm}
use Rattle.cam_objects.specs.declared.drill_item.DrillItem.{DrillItem}
use Rattle.cam_objects.specs.Drilling.{diameter_of}
use Rattle.cam_objects.specs.DrillSoundness.{DrillGrowthLaw, IsSoundDrillItem, IsSoundTool, KeepsDrillLimits}
use Rattle.cam_objects.proofs.SoundItems.{meets_drill, sound_drill}

one_more : {X : Type 0} (P : X → Type 0) (xs : List X) (x : X) → All P xs → P x → All P (xs ++ x ∷ [])
one_more P xs x all here = All-append P xs (x ∷ []) all (All-cons P x [] here (All-nil P))

known_more : (tools more : List (ℕ × Nm)) (n : ℕ) → is_some (diameter_of tools n) ≡ true → is_some (diameter_of (tools ++ more) n) ≡ true
known_more [] more n h = cc
known_more (t ∷ ts) more n h = grind (arith, known_more ts more n)

sound_more : (tools more : List (ℕ × Nm)) (item : DrillItem) → IsSoundDrillItem tools item → IsSoundDrillItem (tools ++ more) item
sound_more tools more item h = grind (arith, meets_drill, sound_drill, known_more)

-- a number that is new joins numbers of which none stands twice
pub distinct_more : (tools : List (ℕ × Nm)) (tool : ℕ) (diameter : Nm) → IsDistinct nat_eq (keys_of tools) → diameter_of tools tool ≡ None
    → IsDistinct nat_eq (keys_of (tools ++ (tool, diameter) ∷ []))
distinct_more tools tool diameter apart absent =
    subst (IsDistinct nat_eq) (sym (map-append (λ (t : ℕ × Nm). t.0) tools ((tool, diameter) ∷ [])))
    (IsDistinct-push nat_eq_equiv (keys_of tools) tool apart (not_among tools tool absent))
  where
    not_among : (tools : List (ℕ × Nm)) (tool : ℕ) → lookup (nat_eq tool) tools ≡ None → list_any (nat_eq tool) (keys_of tools) ≡ false
    not_among [] tool h = refl
    not_among (t ∷ ts) tool h = by (nat_eq tool t.0) (not_among ts tool) h
      where
        by : (b : Bool) → (lookup (nat_eq tool) ts ≡ None → list_any (nat_eq tool) (keys_of ts) ≡ false)
            → cond b (Some t.1) (lookup (nat_eq tool) ts) ≡ None
            → (b || list_any (nat_eq tool) (keys_of ts)) ≡ false
        by true rest e = absurd cc
        by false rest e = rest e

abbrev AreDistinct : List (ℕ × Nm) → Type 0
AreDistinct tools = IsDistinct nat_eq (keys_of tools)

abbrev AreSound : List (ℕ × Nm) → List DrillItem → Type 0
AreSound tools items = All (IsSoundDrillItem tools) items

abbrev AreTools : List (ℕ × Nm) → Type 0
AreTools tools = All (λ (e : ℕ × Nm). IsSoundTool e.0 e.1) tools

pub drill_growth : DrillGrowthLaw
drill_growth = record {
  push = λ l m item sound good room tools items. record {
    tools = subst AreTools (sym tools) sound.tools;
    distinct = subst AreDistinct (sym tools) sound.distinct;
    items = subst (λ (ts : List (ℕ × Nm)). AreSound ts m.items.items) (sym tools)
        (subst (λ (is : List DrillItem). AreSound l.tools is) (sym items)
        (one_more (IsSoundDrillItem l.tools) l.items.items item sound.items good));
    limits = subst KeepsDrillLimits (sym items) room;
  };
  add_tool = λ l m tool diameter sound may tools items. record {
    tools = subst AreTools (sym tools) (one_more (λ (e : ℕ × Nm). IsSoundTool e.0 e.1) l.tools (tool, diameter) sound.tools may.sound);
    distinct = subst AreDistinct (sym tools) (distinct_more l.tools tool diameter sound.distinct may.absent);
    items = subst (λ (ts : List (ℕ × Nm)). AreSound ts m.items.items) (sym tools)
        (subst (λ (is : List DrillItem). AreSound (l.tools ++ (tool, diameter) ∷ []) is) (sym items)
        (All-weaker (IsSoundDrillItem l.tools) (IsSoundDrillItem (l.tools ++ (tool, diameter) ∷ []))
        (sound_more l.tools ((tool, diameter) ∷ [])) l.items.items sound.items));
    limits = subst KeepsDrillLimits (sym items) sound.limits;
  };
}
