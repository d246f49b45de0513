-- File attributes that are found by their names.
use Rattle.std.proofs.Common.{◌≡◌, ℕ, zero, suc, ◌+◌, ◌<◌, [], ◌∷◌, ◌++◌, ◌||◌, Bool, false, cond, leb, ltb, not, List, length}
use Rattle.std.proofs.Common.{get_or, set, None, Some, nat_eq, refl, sym, ap, ap₂, ◌∙◌, arith}
use Rattle.std.specs.Prelude.{Vec, position}
use Rattle.std.specs.Cmp.Lexicographic.{pointwise}
use Rattle.std.specs.List.{list_any, position_or_len}
use Rattle.std.proofs.lemmas.Cmp.{nat_list_eq_equiv}
use Rattle.std.proofs.lemmas.Bool.{ltb_from_iff}
use Rattle.std.proofs.lemmas.Bool.Decides.{nat_tests}
use Rattle.std.proofs.lemmas.List.{map-append}
use Rattle.std.proofs.lemmas.List.Elements.{All-head, All-tail}
use Rattle.std.proofs.lemmas.List.Quantifiers.{position-Some}
use Rattle.std.proofs.lemmas.Slice.Eq.{bytes_eq-Decides}
use Rattle.cam_objects.specs.declared.attribute.Attribute.{Attribute}
use Rattle.cam_objects.specs.Attributes.{has_name, names_of, attribute_place}
use Rattle.cam_objects.proofs.EditedAttributes.{Lacks, lacks}
use Rattle.cam_gerber.specs.Machinery.Names.{AreNamesOf}

module _ {A : Type 0} (name : List ℕ) where
  -- the key is this name
  abbrev is_key : Vec ℕ A → Bool
  is_key key = pointwise nat_eq name key.items

  same_test : (key : Vec ℕ A) (a : Attribute) → key.items ≡ a.name → is_key key ≡ has_name name a
  same_test key a e = ap (pointwise nat_eq name) e ∙ nat_list_eq_equiv.symm name a.name

  same_length : (keys : List (Vec ℕ A)) (xs : List Attribute) → AreNamesOf xs keys → length keys ≡ length xs
  same_length [] [] h = refl
  same_length [] (x ∷ xs) h = absurd (cc)
  same_length (k ∷ keys) [] h = absurd (cc)
  same_length (k ∷ keys) (x ∷ xs) h =
      let rest : AreNamesOf xs keys = cc in ap suc (same_length keys xs rest)

  first_at : (keys : List (Vec ℕ A)) (xs : List Attribute) → AreNamesOf xs keys
      → position_or_len is_key keys ≡ position_or_len (has_name name) xs
  first_at [] [] h = refl
  first_at [] (x ∷ xs) h = absurd (cc)
  first_at (k ∷ keys) [] h = absurd (cc)
  first_at (k ∷ keys) (x ∷ xs) h =
      let here : k.items ≡ x.name = cc in
      let rest : AreNamesOf xs keys = cc in
      ap₂ (λ b n. cond (not b) (1 + n) 0) (same_test k x here) (first_at keys xs rest)

  pub same_place : (keys : List (Vec ℕ A)) (xs : List Attribute) → AreNamesOf xs keys → position is_key keys ≡ attribute_place name xs
  same_place keys xs h = grind (arith, first_at, same_length)

  absent : (keys : List (Vec ℕ A)) (xs : List Attribute) → AreNamesOf xs keys → Lacks name xs → list_any is_key keys ≡ false
  absent [] xs h none = refl
  absent (k ∷ keys) [] h none = absurd (cc)
  absent (k ∷ keys) (x ∷ xs) h none =
      let here : k.items ≡ x.name = cc in
      let rest : AreNamesOf xs keys = cc in
      ap₂ (λ a b. a || b) (same_test k x here ∙ All-head (λ b. has_name name b ≡ false) x xs none)
      (absent keys xs rest (All-tail (λ b. has_name name b ≡ false) x xs none))

  -- a name that no attribute has is no key
  pub new_key : (keys : List (Vec ℕ A)) (xs : List Attribute) → AreNamesOf xs keys → attribute_place name xs ≡ None → list_any is_key keys ≡ false
  new_key keys xs h none = absent keys xs h (lacks name xs none)

-- at the place of a name stands the attribute that has it
pub named_at : (name : List ℕ) (xs : List Attribute) (k : ℕ) (a : Attribute) → attribute_place name xs ≡ Some k → (get_or xs k a).name ≡ name
named_at name xs k a e = (bytes_eq-Decides (get_or xs k a).name name).0 (position-Some (has_name name) xs k a e).1

same_names : (a : Attribute) (xs : List Attribute) (k : ℕ) → k < length xs → (get_or xs k a).name ≡ a.name
    → names_of (set xs k a) ≡ names_of xs
same_names a [] k low e = absurd (omega arith)
same_names a (x ∷ xs) zero low e = ap (λ n. n ∷ names_of xs) (sym e)
same_names a (x ∷ xs) (suc k) low e = ap (λ ns. x.name ∷ ns) (same_names a xs k (omega arith) e)

-- an attribute in the place of the one that has its name
pub kept_names : (a : Attribute) (xs : List Attribute) (k : ℕ) → attribute_place a.name xs ≡ Some k → names_of (set xs k a) ≡ names_of xs
kept_names a xs k e = same_names a xs k (position-Some (has_name a.name) xs k a e).0 (named_at a.name xs k a e)

-- one more of another name
pub grown : {A : Type 0} (xs ys : List Attribute) (keys more : List (Vec ℕ A)) (a : Attribute) (key : Vec ℕ A) → AreNamesOf xs keys
    → key.items ≡ a.name → ys ≡ xs ++ a ∷ [] → more ≡ keys ++ key ∷ [] → AreNamesOf ys more
grown xs ys keys more a key h e listed keyed = grind (arith, map-append)

-- a list that has room for one more has 999 at most
pub full_next : (n m : ℕ) → m ≡ n + 1 → leb 1000 n ≡ ltb 1000 m
full_next n m e = ltb_from_iff ((λ h. grind (arith, nat_tests)), (λ h. grind (arith, nat_tests)))
