-- the attributes of a layer stay sound as they are edited
use Rattle.std.proofs.Common.{◌≡◌, ℕ, suc, ◌+◌, ◌<◌, ◌≤◌, Bool, true, false, cond, ltb, IsTrue, List, [], ◌∷◌, ◌++◌, length, set}
use Rattle.std.proofs.Common.{◌↔◌, ◌⊎◌, inr, None, Some, refl, sym, ap, subst, ◌∙◌, arith}
use Rattle.std.specs.List.{All, IsDistinct, position_or_len}
use Rattle.std.specs.Str.{bytes_eq}
use Rattle.std.proofs.lemmas.Bool.{false_from_ne_true, false≢true, le-ltb, lt-ltb, ltb-false, ltb-true}
use Rattle.std.proofs.lemmas.List.{append-nil, length-append, length-set, map-append}
use Rattle.std.proofs.lemmas.List.Elements.{All-cons, All-from_recursion, All-head, All-map, All-nil, All-tail, All-weaker}
use Rattle.std.proofs.lemmas.List.Elements.{recursion_from_All}
use Rattle.std.proofs.lemmas.List.Sums.{fails_before_first}
use Rattle.std.proofs.lemmas.Map.Keys.{IsDistinct-cons, IsDistinct-from_apart, IsDistinct-head, IsDistinct-tail}
use Rattle.std.proofs.lemmas.Slice.Eq.{bytes_eq-Decides}
use Rattle.cam_objects.specs.declared.attribute.Attribute.{Attribute}
use Rattle.cam_objects.specs.Attributes.{AreAttributes, IsAttribute, MaySet, has_name, names_of, attribute_place, with_attribute}
use Rattle.cam_objects.specs.LayerLaws.{AttributeEditLaw, SettingLaw}
use Rattle.cam_objects.proofs.EditedLayers.{all_with, all_without}

-- ---- the place of a name

-- no attribute has the name
abbrev pub Lacks : List ℕ → List Attribute → Type 0
Lacks name xs = All (λ b. has_name name b ≡ false) xs

-- an element before a list that is set, or replaced
inside : (b : Attribute) (n : ℕ) (xs rest : List Attribute) (a : Attribute)
    → b ∷ cond (ltb n (length xs)) (set xs n a) rest
    ≡ cond (ltb (1 + n) (suc (length xs))) (set (b ∷ xs) (1 + n) a) (b ∷ rest)
inside b n xs rest a = grind (arith, ltb-true, lt-ltb, ltb-false, le-ltb)

set_or_add : (a : Attribute) (xs : List Attribute) (k : ℕ) → position_or_len (has_name a.name) xs ≡ k
    → with_attribute a xs ≡ cond (ltb k (length xs)) (set xs k a) (xs ++ a ∷ [])
set_or_add a [] k e = subst (λ n. a ∷ [] ≡ cond (ltb n 0) (set [] n a) (a ∷ [])) e refl
set_or_add a (b ∷ xs) k e = grind (arith, lt-ltb, inside, set_or_add a xs (position_or_len (has_name a.name) xs) refl)

place_some : (t : Bool) (n k : ℕ) → cond t (Some n) None ≡ Some k → (t ≡ true) × (n ≡ k)
place_some t n k e = grind arith

place_none : (t : Bool) (n : ℕ) → cond t (Some n) None ≡ None → t ≡ false
place_none t n e = grind arith

pub kept_place : (a : Attribute) (xs : List Attribute) (k : ℕ) → attribute_place a.name xs ≡ Some k → with_attribute a xs ≡ set xs k a
kept_place a xs k e =
    let h = place_some (ltb (position_or_len (has_name a.name) xs) (length xs)) (position_or_len (has_name a.name) xs) k e in
    set_or_add a xs k h.1
    ∙ ap (λ t. cond t (set xs k a) (xs ++ a ∷ [])) (subst (λ n. ltb n (length xs) ≡ true) h.1 h.0)

pub added_last : (a : Attribute) (xs : List Attribute) → attribute_place a.name xs ≡ None → with_attribute a xs ≡ xs ++ a ∷ []
added_last a xs e =
    let n = position_or_len (has_name a.name) xs in
    set_or_add a xs n refl ∙ ap (λ t. cond t (set xs n a) (xs ++ a ∷ [])) (place_none (ltb n (length xs)) n e)

-- how many attributes there are with one more
pub room_kept : (a : Attribute) (xs : List Attribute) (k : ℕ) → attribute_place a.name xs ≡ Some k → length (with_attribute a xs) ≡ length xs
room_kept a xs k e = ap length (kept_place a xs k e) ∙ length-set xs k a

pub room_added : (a : Attribute) (xs : List Attribute) → attribute_place a.name xs ≡ None → length (with_attribute a xs) ≡ length xs + 1
room_added a xs e = omega (arith, ap length (added_last a xs e), length-append xs (a ∷ []))

pub may_set : (xs : List Attribute) (a : Attribute) (n : ℕ) (b : Bool) → IsAttribute a → length (with_attribute a xs) ≡ n
    → (IsTrue b → n ≤ 1000) → (n ≤ 1000 → IsTrue b) → IsTrue b ↔ MaySet xs a
may_set xs a n b sound is to from = (
  (λ t. record { sound = sound; room = subst (λ m. m ≤ 1000) (sym is) (to t) }),
  (λ may. from (subst (λ m. m ≤ 1000) is may.room)),
)

pub setting_law : SettingLaw
setting_law = record { keep = λ xs a k e. kept_place a xs k e; add = λ xs a e. added_last a xs e }

pub lacks : (name : List ℕ) (xs : List Attribute) → attribute_place name xs ≡ None → Lacks name xs
lacks name xs e = grind (arith, ltb-false, place_none, fails_before_first)

-- ---- names

pub flipped : (x y : List ℕ) → bytes_eq x y ≡ false → bytes_eq y x ≡ false
flipped x y e = grind (arith, false_from_ne_true, false≢true, bytes_eq-Decides)

distinct_without : (xs ys : List (List ℕ)) (y : List ℕ) → IsDistinct bytes_eq (xs ++ y ∷ ys) → IsDistinct bytes_eq (xs ++ ys)
distinct_without [] ys y h = IsDistinct-tail bytes_eq y ys h
distinct_without (x ∷ xs) ys y h =
    let Apart : List ℕ → Type 0 = λ z. bytes_eq x z ≡ false in
    IsDistinct-cons bytes_eq x (xs ++ ys)
    (recursion_from_All Apart (xs ++ ys)
    (all_without Apart xs ys y (All-from_recursion Apart (xs ++ y ∷ ys) (IsDistinct-head bytes_eq x (xs ++ y ∷ ys) h))))
    (distinct_without xs ys y (IsDistinct-tail bytes_eq x (xs ++ y ∷ ys) h))

distinct_with : (xs ys : List (List ℕ)) (y : List ℕ) → All (λ z. bytes_eq z y ≡ false) (xs ++ ys)
    → IsDistinct bytes_eq (xs ++ ys) → IsDistinct bytes_eq (xs ++ y ∷ ys)
distinct_with [] ys y apart h = grind (arith, IsDistinct-cons, recursion_from_All, All-weaker, flipped)
distinct_with (x ∷ xs) ys y apart h =
    let Apart : List ℕ → Type 0 = λ z. bytes_eq x z ≡ false in
    let Beside : List ℕ → Type 0 = λ z. bytes_eq z y ≡ false in
    IsDistinct-cons bytes_eq x (xs ++ y ∷ ys)
    (recursion_from_All Apart (xs ++ y ∷ ys)
    (all_with Apart xs ys y (All-head Beside x (xs ++ ys) apart)
    (All-from_recursion Apart (xs ++ ys) (IsDistinct-head bytes_eq x (xs ++ ys) h))))
    (distinct_with xs ys y (All-tail Beside x (xs ++ ys) apart) (IsDistinct-tail bytes_eq x (xs ++ ys) h))

-- ---- the attributes of a layer

names_split : (before after : List Attribute) (a : Attribute)
    → names_of (before ++ a ∷ after) ≡ names_of before ++ a.name ∷ names_of after
names_split before after a = map-append (λ (b : Attribute). b.name) before (a ∷ after)

names_joined : (before after : List Attribute) → names_of (before ++ after) ≡ names_of before ++ names_of after
names_joined before after = map-append (λ (b : Attribute). b.name) before after

length_at : (before after : List Attribute) (a : Attribute) → length (before ++ a ∷ after) ≡ 1 + length (before ++ after)
length_at before after a = omega (arith, length-append before (a ∷ after), length-append before after)

inserted : (before after : List Attribute) (a : Attribute) → AreAttributes (before ++ after) → IsAttribute a
    → Lacks a.name (before ++ after) → length (before ++ after) < 1000 → AreAttributes (before ++ a ∷ after)
inserted before after a h sound lacking room = record {
  each = all_with IsAttribute before after a sound h.each;
  few = omega (arith, length_at before after a);
  distinct =
      let beside = All-map (λ z. bytes_eq z a.name ≡ false) (λ (b : Attribute). b.name) (before ++ after) lacking in
      subst (IsDistinct bytes_eq) (sym (names_split before after a))
      (distinct_with (names_of before) (names_of after) a.name
      (subst (All (λ z. bytes_eq z a.name ≡ false)) (names_joined before after) beside)
      (subst (IsDistinct bytes_eq) (names_joined before after) h.distinct));
}

removed : (before after : List Attribute) (a : Attribute) → AreAttributes (before ++ a ∷ after) → AreAttributes (before ++ after)
removed before after a h = record {
  each = all_without IsAttribute before after a h.each;
  few = omega (arith, h.few, length_at before after a);
  distinct =
      subst (IsDistinct bytes_eq) (sym (names_joined before after))
      (distinct_without (names_of before) (names_of after) a.name (subst (IsDistinct bytes_eq) (names_split before after a) h.distinct));
}

refilled : (before after : List Attribute) (a b : Attribute) → AreAttributes (before ++ a ∷ after) → IsAttribute b → b.name ≡ a.name
    → AreAttributes (before ++ b ∷ after)
refilled before after a b h sound same = record {
  each = all_with IsAttribute before after b sound (all_without IsAttribute before after a h.each);
  few = omega (arith, h.few, length_at before after a, length_at before after b);
  distinct =
      subst (IsDistinct bytes_eq)
      (names_split before after a ∙ ap (λ n. names_of before ++ n ∷ names_of after) (sym same) ∙ sym (names_split before after b))
      h.distinct;
}

-- ---- setting

all_set : (a : Attribute) (xs : List Attribute) → IsAttribute a → All IsAttribute xs → All IsAttribute (with_attribute a xs)
all_set a [] sound h = All-cons IsAttribute a [] sound h
all_set a (b ∷ xs) sound h = by (all_set a xs sound (All-tail IsAttribute b xs h)) (has_name a.name b) where
  by : All IsAttribute (with_attribute a xs) → (t : Bool) → All IsAttribute (cond t (a ∷ xs) (b ∷ with_attribute a xs))
  by rest true = All-cons IsAttribute a xs sound (All-tail IsAttribute b xs h)
  by rest false = All-cons IsAttribute b (with_attribute a xs) (All-head IsAttribute b xs h) rest

names_set : (a : Attribute) (xs : List Attribute)
    → (names_of (with_attribute a xs) ≡ names_of xs) ⊎ (Lacks a.name xs × (with_attribute a xs ≡ xs ++ a ∷ []))
names_set a [] = inr (All-nil (λ b. has_name a.name b ≡ false), refl)
names_set a (b ∷ xs) = grind (arith, bytes_eq-Decides, All-cons, names_set a xs)

set_sound : (a : Attribute) (xs : List Attribute) → AreAttributes xs → MaySet xs a
    → (names_of (with_attribute a xs) ≡ names_of xs) ⊎ (Lacks a.name xs × (with_attribute a xs ≡ xs ++ a ∷ []))
    → AreAttributes (with_attribute a xs)
set_sound a xs h may it = grind (arith, all_set, inserted, append-nil, length-append)

pub none_set : AreAttributes []
none_set = grind (arith, All-nil, IsDistinct-from_apart)

pub attribute_edits : AttributeEditLaw
attribute_edits = record {
  none = none_set;
  set = λ xs a h may. set_sound a xs h may (names_set a xs);
  insert = λ before after a h sound absent room. inserted before after a h sound (lacks a.name (before ++ after) absent) room;
  remove = λ before after a h. removed before after a h;
  refill = λ before after a b h sound same. refilled before after a b h sound same;
}
