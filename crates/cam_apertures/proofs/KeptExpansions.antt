-- Macros are found by their names and stand in the order in which they were added; what was expanded is found again.
use Rattle.std.proofs.Common.{arith, rules, ◌≡◌, ℕ, zero, suc, Bool, true, cond, ℤ, List, [], ◌∷◌, ◌++◌, Option, Some, None, Ok}
use Rattle.std.proofs.Common.{Err, refl, ap, sym, ◌∙◌, nat_eq}
use Rattle.std.specs.Prelude.{Vec, option_map, is_some, slice_get}
use Rattle.std.specs.Borrow.{Bor}
use Rattle.std.specs.List.{AllByRecursion}
use Rattle.std.specs.Option.{option_copied}
use Rattle.std.specs.Map.{lookup, values_of}
use Rattle.std.specs.Cmp.Lexicographic.{pointwise}
use Rattle.std.proofs.lemmas.Bool.{and_parts}
use Rattle.std.proofs.lemmas.Bool.Decides.{Decides-eqb, Decides-int_eq}
use Rattle.std.proofs.lemmas.List.{map-append}
use Rattle.std.proofs.lemmas.Option.{slice_get-map}
use Rattle.std.proofs.lemmas.Cmp.{nat_list_eq_equiv}
use Rattle.std.proofs.lemmas.Slice.Eq.{slice_eq-Decides}
use Rattle.indexmap.specs.IndexMap.{insert_entry}
use Rattle.cam_units.specs.declared.length.Unit.{Unit as FileUnit}
use Rattle.cam_macros.specs.declared.aperture_macro.Macro.{Macro}
use Rattle.cam_macros.specs.declared.part.Part.{Part}
use Rattle.cam_macros.specs.Expansion.{expansion_of}
use Rattle.cam_apertures.specs.declared.fault.AdFault.TheVariants.{TemplateRefused}
use Rattle.cam_apertures.specs.declared.macros.Expanded.{Expanded}
use Rattle.cam_apertures.specs.declared.macros.Expansion.{Expansion}
use Rattle.cam_apertures.specs.Definition.{by_macro, named}
use Rattle.cam_apertures.specs.Machinery.Macros.{are_equal, macros_of, IsExpansion}
use Rattle.cam_apertures.specs.Machinery.Outcomes.{macro_outcome, named_outcome}

abbrev pub parts_of : Option Macro → Option (List Part)
parts_of found = option_map (λ m. m.parts) found

first_parts : (b : Bool) (m : Macro) (others : Option Macro) (rest : Option (List Part)) → parts_of others ≡ rest
    → parts_of (cond b (Some m) others) ≡ cond b (Some m.parts) rest
first_parts b m others rest e = grind arith

-- a look-up by name finds the parts of the first macro of that name
pub parts_by_name : {A : Type 0} (name : List ℕ) (entries : List (Vec ℕ A × List Part))
    → parts_of (named (macros_of entries) name) ≡ lookup (λ k. pointwise nat_eq name k.items) entries
parts_by_name name [] = refl
parts_by_name name (e ∷ entries) = grind (arith, nat_list_eq_equiv, first_parts, parts_by_name name entries)

some_parts : (found : Option Macro) → is_some (parts_of found) ≡ is_some found
some_parts found = grind arith

no_parts : (found : Option Macro) → found ≡ None → parts_of found ≡ None
no_parts found e = grind arith

some_copied : {A : Type 0} (found : Option (Bor A)) → is_some found ≡ is_some (option_copied found)
some_copied found = grind arith

pub is_named : {A : Type 0} (name : List ℕ) (entries : List (Vec ℕ A × List Part)) (found : Option (Bor (List Part)))
    → option_copied found ≡ lookup (λ k. pointwise nat_eq name k.items) entries
    → is_some found ≡ is_some (named (macros_of entries) name)
is_named name entries found is =
    some_copied found ∙ ap is_some is
    ∙ ap is_some (sym (parts_by_name name entries)) ∙ some_parts (named (macros_of entries) name)

-- a name that no macro has is no key
pub new_name : {A : Type 0} (name : List ℕ) (entries : List (Vec ℕ A × List Part))
    → named (macros_of entries) name ≡ None → lookup (λ k. pointwise nat_eq name k.items) entries ≡ None
new_name name entries e = sym (parts_by_name name entries) ∙ no_parts (named (macros_of entries) name) e

-- a macro that is added stands last
pub added_last : {A : Type 0} (entries : List (Vec ℕ A × List Part)) (key : Vec ℕ A) (added : Macro)
    → key.items ≡ added.name → macros_of (entries ++ (key, added.parts) ∷ []) ≡ macros_of entries ++ added ∷ []
added_last entries key added is = grind (arith, map-append)

by_parts : (found : Option Macro) (unit : FileUnit) (values : List ℤ) (parts : List Part) → parts_of found ≡ Some parts
    → by_macro found (Err TemplateRefused) (λ m. macro_outcome (expansion_of unit values m.parts))
    ≡ macro_outcome (expansion_of unit values parts)
by_parts found unit values parts e = grind arith

by_none : (found : Option Macro) (unit : FileUnit) (values : List ℤ) → parts_of found ≡ None
    → by_macro found (Err TemplateRefused) (λ m. macro_outcome (expansion_of unit values m.parts)) ≡ Err TemplateRefused
by_none found unit values e = grind arith

-- the parts at the place where they were found are those that were kept
pub outcome_again : {A : Type 0} (entries : List (Vec ℕ A × List Part)) (key : Vec ℕ A) (parts : List Part)
    (wanted : Expanded) (expansion : Expansion) → slice_get entries wanted.place ≡ Some (key, parts)
    → IsExpansion (values_of entries) wanted expansion
    → expansion_of expansion.unit wanted.parameters.items parts ≡ Ok expansion.primitives
outcome_again entries key parts wanted expansion at h = grind (arith, slice_get-map)

-- what comes of a name by the parts that are found
pub outcome_found : {A : Type 0} (name : List ℕ) (entries : List (Vec ℕ A × List Part)) (macros : List Macro)
    (unit : FileUnit) (values : List ℤ) (parts : List Part) → macros_of entries ≡ macros
    → lookup (λ k. pointwise nat_eq name k.items) entries ≡ Some parts
    → named_outcome name macros unit values ≡ macro_outcome (expansion_of unit values parts)
outcome_found name entries macros unit values parts view is = grind (arith, by_parts, parts_by_name)

pub outcome_missing : {A : Type 0} (name : List ℕ) (entries : List (Vec ℕ A × List Part)) (macros : List Macro)
    (unit : FileUnit) (values : List ℤ) → macros_of entries ≡ macros
    → lookup (λ k. pointwise nat_eq name k.items) entries ≡ None
    → named_outcome name macros unit values ≡ Err TemplateRefused
outcome_missing name entries macros unit values view is = grind (arith, by_none, parts_by_name)

-- what is kept

same_place : (x y : Expanded) → are_equal x y ≡ true → x.place ≡ y.place
same_place x y e = grind (arith, Decides-eqb, and_parts)

same_parameters : (x y : Expanded) → are_equal x y ≡ true → x.parameters.items ≡ y.parameters.items
same_parameters x y e = grind (arith, slice_eq-Decides, Decides-int_eq, and_parts)

moved : (all : List (List Part)) (x y : Expanded) (expansion : Expansion) → are_equal x y ≡ true
    → IsExpansion all x expansion → IsExpansion all y expansion
moved all x y expansion e h = grind (arith, same_place, same_parameters)

back : (all : List (List Part)) (x y : Expanded) (expansion : Expansion) → are_equal x y ≡ true
    → IsExpansion all y expansion → IsExpansion all x expansion
back all x y expansion e h = grind (arith, same_place, same_parameters)

abbrev pub AreKept : List (List Part) → List (Expanded × Expansion) → Type 0
AreKept all kept = AllByRecursion (λ e. IsExpansion all e.0 e.1) kept

first_or_other : (all : List (List Part)) (wanted : Expanded) (expansion : Expansion) (entry : Expanded × Expansion)
    (others : Option Expansion) (b : Bool) → are_equal wanted entry.0 ≡ b → IsExpansion all entry.0 entry.1
    → (others ≡ Some expansion → IsExpansion all wanted expansion)
    → cond b (Some entry.1) others ≡ Some expansion → IsExpansion all wanted expansion
first_or_other all wanted expansion entry others b e h k is = grind (arith, back)

-- an expansion that is found is one of what is wanted
pub found_again : (all : List (List Part)) (kept : List (Expanded × Expansion)) (wanted : Expanded)
    (expansion : Expansion) → AreKept all kept → lookup (are_equal wanted) kept ≡ Some expansion
    → IsExpansion all wanted expansion
found_again all [] wanted expansion h is = cc
found_again all (entry ∷ kept) wanted expansion h is = grind (arith, first_or_other, found_again all kept wanted expansion h.1)

replaced_or_not : (all : List (List Part)) (wanted : Expanded) (expansion : Expansion) (entry : Expanded × Expansion)
    (kept others : List (Expanded × Expansion)) (b : Bool) → are_equal wanted entry.0 ≡ b
    → IsExpansion all wanted expansion → IsExpansion all entry.0 entry.1 → AreKept all kept → AreKept all others
    → AreKept all (cond b ((entry.0, expansion) ∷ kept) (entry ∷ others))
replaced_or_not all wanted expansion entry kept others b e new old h k = grind (arith, moved)

-- one more is kept
pub kept_more : (all : List (List Part)) (kept : List (Expanded × Expansion)) (wanted : Expanded)
    (expansion : Expansion) → AreKept all kept → IsExpansion all wanted expansion
    → AreKept all (insert_entry are_equal kept wanted expansion)
kept_more all [] wanted expansion h new = (new, tt)
kept_more all (entry ∷ kept) wanted expansion h new = search (rules, replaced_or_not, kept_more all kept wanted expansion h.1 new)

still_there : {X : Type 0} (xs ys : List X) (i : ℕ) (x : X) → slice_get xs i ≡ Some x → slice_get (xs ++ ys) i ≡ Some x
still_there [] ys i x e = cc
still_there (y ∷ xs) ys zero x e = e
still_there (y ∷ xs) ys (suc i) x e = still_there xs ys i x e

-- what is kept stays true when macros are added
pub kept_on : (all more : List (List Part)) (kept : List (Expanded × Expansion)) → AreKept all kept
    → AreKept (all ++ more) kept
kept_on all more [] h = tt
kept_on all more (entry ∷ kept) h = (
  record {
    parts = h.0.parts;
    found = still_there all more entry.0.place h.0.parts h.0.found;
    same = h.0.same;
  },
  kept_on all more kept h.1,
)
