-- One test after the other tells the least of the faults that hold.
use Rattle.std.proofs.Common.{◌≡◌, ℕ, ◌+◌, ◌≤◌, ℤ, Bool, true, false, cond, ltb, inl, inr, List, [], ◌∷◌, length, Option, Some, None, Result, Ok, Err, refl, ap, sym, ◌∙◌, subst, arith}
use Rattle.std.specs.Prelude.{codes, is_none, not, unwrap_or, IfErr, IfOk}
use Rattle.std.specs.Str.{bytes_eq}
use Rattle.std.proofs.lemmas.Bool.{false≢true}
use Rattle.cam_refusals.specs.declared.refusal.Refusal.{Refusal}
use Rattle.cam_refusals.specs.declared.refusal.Refusal.TheVariants as refusal
use Rattle.cam_refusals.specs.Checks.{Checks, Holds, IsLeast, NoneHolds}
use Rattle.cam_refusals.specs.Refusals.{number_of}
use Rattle.cam_units.specs.declared.length.Unit.{Unit as FileUnit}
use Rattle.cam_words.specs.Heads.{packed}
use Rattle.cam_macros.specs.declared.aperture_macro.Macro.{Macro}
use Rattle.cam_macros.specs.declared.fault.MacroFault.{MacroFault}
use Rattle.cam_macros.specs.declared.primitive.MacroPrimitive.{MacroPrimitive}
use Rattle.cam_macros.specs.Expansion.{expansion_of}
use Rattle.cam_apertures.specs.declared.aperture.Aperture.{Aperture}
use Rattle.cam_apertures.specs.declared.fault.AdFault.{AdFault}
use Rattle.cam_apertures.specs.declared.fault.AdFault.TheVariants.{UnknownForm, BadNumber, TemplateRefused, PrimitiveRefused, RotationRefused, SizeRefused, Malformed, OutOfMemory}
use Rattle.cam_apertures.specs.Faults.{of_macro, aperture_refusal}
use Rattle.cam_numbers.specs.Numbers.{decimal, defined_number}
use Rattle.cam_apertures.specs.Definition.{template_aperture, by_macro, by_template_name, circle, definition, template_form, faults_of, has_sizes, macro_faults, named, obround, primitives_aperture, rect, standard_faults, template_faults, values_of, with_value, Definition, IsDefined, IsDefinitionRefused}
use Rattle.cam_apertures.specs.Machinery.Outcomes.{macro_outcome, outcome, standard_outcome, template_outcome, with_aperture, with_number, IsErr}

-- an outcome, the faults that hold and the aperture that is meant say the same
record Agrees (o : Result Aperture AdFault) (t : Checks Refusal) (a : Option Aperture) : Type 0 where
  pub made : (aperture : Aperture) → o ≡ Ok aperture → a ≡ Some aperture
  pub faultless : (aperture : Aperture) → o ≡ Ok aperture → NoneHolds t
  pub least : (fault : AdFault) → o ≡ Err fault → IsLeast number_of t (aperture_refusal fault)
  pub low : (r : Refusal) → Holds t r → 4 ≤ number_of r

agrees_either : {o o' : Result Aperture AdFault} {t t' : Checks Refusal} {a a' : Option Aperture} (b : Bool) → Agrees o t a → Agrees o' t' a'
    → Agrees (cond b o o') (cond b t t') (cond b a a')
agrees_either b h k = grind arith

agrees_by_macro : (found : Option Macro) {o : Result Aperture AdFault} {t : Checks Refusal} {a : Option Aperture} (o' : Macro → Result Aperture AdFault) (t' : Macro → Checks Refusal) (a' : Macro → Option Aperture)
    → Agrees o t a → ((m : Macro) → Agrees (o' m) (t' m) (a' m)) → Agrees (by_macro found o o') (by_macro found t t') (by_macro found a a')
agrees_by_macro found o' t' a' h k = grind arith

-- the fault of an outcome is the one that it tells
told : {A : Type 0} (P : AdFault → Type 0) (f g : AdFault) → P f → ◌≡◌ {A = Result A AdFault} (Err f) (Err g) → P g
told P f g h e = let same : f ≡ g = cc in subst P same h

abbrev rows : Bool → Bool → Bool → Checks Refusal
rows x y z = (refusal.BadNumber, x) ∷ (refusal.TemplateRefused, y) ∷ (refusal.SizeRefused, z) ∷ []

from_4 : (x y z : Bool) (r : Refusal) → Holds (rows x y z) r → 4 ≤ number_of r
from_4 x y z n it = grind arith

from_11 : (y z : Bool) (r : Refusal) → Holds (rows false y z) r → 11 ≤ number_of r
from_11 y z n it = grind (arith, false≢true)

from_24 : (z : Bool) (r : Refusal) → Holds (rows false false z) r → 24 ≤ number_of r
from_24 z n it = grind (arith, false≢true)

from_none : NoneHolds (rows false false false)
from_none n it = grind (arith, false≢true)

agrees_tests : (x y z : Bool) (a : Aperture)
    → Agrees (cond x (Err BadNumber) (cond y (Err TemplateRefused) (cond z (Ok a) (Err SizeRefused)))) (rows x y (not z)) (Some a)
agrees_tests x y z a = grind (arith, told, from_4, from_11, from_none, from_24)

agrees_standard : (fewest count : ℕ) (a : Aperture) → Agrees (standard_outcome fewest count a) (standard_faults fewest count a) (Some a)
unfolding standard_outcome
agrees_standard fewest count a = agrees_tests (ltb count fewest) (ltb (fewest + 1) count) (has_sizes a) a

one_row : (n m : Refusal) → Holds ((n, true) ∷ []) m → n ≡ m
one_row n m it = grind arith

agrees_refused : Agrees (Err TemplateRefused) ((refusal.TemplateRefused, true) ∷ []) None
agrees_refused = grind (arith, told, one_row)

macro_low : (f : MacroFault) → 4 ≤ number_of (aperture_refusal (of_macro f))
macro_low f = grind arith

agrees_macro : (r : Result (List MacroPrimitive) MacroFault) → Agrees (macro_outcome r) (macro_faults r) (primitives_aperture r)
agrees_macro r = grind (arith, told, one_row, macro_low)

-- the outcome of a template by the count of its parameters
abbrev outcome_by : List ℕ → List Macro → FileUnit → ℕ → List ℤ → Result Aperture AdFault
outcome_by name macros unit count values =
    by_template_name name macros
    (standard_outcome 1 count (circle unit values))
    (standard_outcome 2 count (rect unit values))
    (standard_outcome 2 count (obround unit values))
    (Err TemplateRefused)
    (λ m. macro_outcome (expansion_of unit values m.parts))

agrees_template : (name : List ℕ) (macros : List Macro) (unit : FileUnit) (count : ℕ) (values : List ℤ)
    → Agrees (outcome_by name macros unit count values) (template_faults name macros unit count values) (template_aperture name macros unit values)
agrees_template name macros unit count values =
    agrees_either (bytes_eq name (codes "C")) (agrees_standard 1 count (circle unit values))
    (agrees_either (bytes_eq name (codes "R")) (agrees_standard 2 count (rect unit values))
    (agrees_either (bytes_eq name (codes "O")) (agrees_standard 2 count (obround unit values))
    (agrees_either (bytes_eq name (codes "P")) agrees_refused
    (agrees_by_macro (named macros name) (λ m. macro_outcome (expansion_of unit values m.parts)) (λ m. macro_faults (expansion_of unit values m.parts))
    (λ m. primitives_aperture (expansion_of unit values m.parts)) agrees_refused (λ m. agrees_macro (expansion_of unit values m.parts))))))

-- as many values as parameters
with_length : (v : Option ℤ) (vs : Option (List ℤ)) (values : List ℤ) (n : ℕ) → ((l : List ℤ) → vs ≡ Some l → length l ≡ n) → with_value v vs ≡ Some values → length values ≡ n + 1
with_length v vs values n h e = grind arith

values_length : (runs : List (List ℕ)) (values : List ℤ) → values_of runs ≡ Some values → length values ≡ length runs
values_length [] values e = let same : [] ≡ values = cc in ap length (sym same)
values_length (run ∷ runs) values e =
    with_length (decimal run) (values_of runs) values (length runs) (λ l. values_length runs l) e ∙ (omega arith)

abbrev table_by : Option ℕ → Option (List ℤ) → List ℕ → List Macro → FileUnit → ℕ → Checks Refusal
table_by number values name macros unit count = (refusal.BadNumber, is_none number) ∷ (refusal.BadNumber, is_none values) ∷ template_faults name macros unit count (unwrap_or values [])

record Whole (o : Result (ℕ × Aperture) AdFault) (t : Checks Refusal) : Type 0 where
  pub least : (fault : AdFault) → o ≡ Err fault → IsLeast number_of t (aperture_refusal fault)
  pub faultless : (made : ℕ × Aperture) → o ≡ Ok made → NoneHolds t

from_table : (number : Option ℕ) (values : Option (List ℤ)) (name : List ℕ) (macros : List Macro) (unit : FileUnit) (count : ℕ) (r : Refusal)
    → Holds (table_by number values name macros unit count) r → 4 ≤ number_of r
from_table number values name macros unit count n it = grind (arith, agrees_template)

behind_two : (t : Checks Refusal) (n : Refusal) → Holds ((refusal.BadNumber, false) ∷ (refusal.BadNumber, false) ∷ t) n → Holds t n
behind_two t n it = grind (arith, false≢true)

whole_with : (o : Result Aperture AdFault) (t : Checks Refusal) (a : Option Aperture) (number : ℕ) → Agrees o t a → Whole (with_aperture number o) ((refusal.BadNumber, false) ∷ (refusal.BadNumber, false) ∷ t)
whole_with o t a number h = grind (arith, behind_two, told)

whole_by : (number : Option ℕ) (values : Option (List ℤ)) (name : List ℕ) (macros : List Macro) (unit : FileUnit) (count : ℕ)
    → ((l : List ℤ) → values ≡ Some l → length l ≡ count)
    → Whole (with_number number values (template_outcome name macros unit)) (table_by number values name macros unit count)
unfolding template_outcome
whole_by None values name macros unit count long = record {
  least = λ f e. told (λ g. IsLeast number_of (table_by None values name macros unit count) (aperture_refusal g)) BadNumber f
      (record { holds = inl (refl, refl); least = from_table None values name macros unit count }) e;
  faultless = λ made e. absurd cc;
}
whole_by (Some number) None name macros unit count long = record {
  least = λ f e. told (λ g. IsLeast number_of (table_by (Some number) None name macros unit count) (aperture_refusal g)) BadNumber f
      (record { holds = inr (inl (refl, refl)); least = from_table (Some number) None name macros unit count }) e;
  faultless = λ made e. absurd cc;
}
whole_by (Some number) (Some values) name macros unit count long =
    subst (λ n. Whole (with_aperture number (outcome_by name macros unit (length values) values)) ((refusal.BadNumber, false) ∷ (refusal.BadNumber, false) ∷ template_faults name macros unit n values))
    (long values refl)
    (whole_with (outcome_by name macros unit (length values) values) (template_faults name macros unit (length values) values) (template_aperture name macros unit values) number
    (agrees_template name macros unit (length values) values))

whole : (od : Option Definition) (macros : List Macro) (unit : FileUnit) → Whole (outcome od macros unit) (faults_of od macros unit)
unfolding outcome
whole None macros unit = grind (arith, told, one_row)
whole (Some d) macros unit = grind (arith, whole_by, values_length)

-- what a definition without a fault gives
record Given (d : Definition) (macros : List Macro) (unit : FileUnit) (number : ℕ) (aperture : Aperture) : Type 0 where
  pub values : List ℤ
  pub number_is : defined_number d.number ≡ Some number
  pub values_are : values_of d.parameters ≡ Some values
  pub aperture_is : template_aperture d.name macros unit values ≡ Some aperture

given : (d : Definition) (macros : List Macro) (unit : FileUnit) (number : Option ℕ) (values : Option (List ℤ)) (made : ℕ × Aperture)
    → defined_number d.number ≡ number → values_of d.parameters ≡ values → with_number number values (template_outcome d.name macros unit) ≡ Ok made → Given d macros unit made.0 made.1
unfolding template_outcome
given d macros unit None values made e f g = absurd cc
given d macros unit (Some number) None made e f g = absurd cc
given d macros unit (Some number) (Some values) made e f g =
    by_aperture (outcome_by d.name macros unit (length values) values) (agrees_template d.name macros unit (length values) values) g
  where
    by_aperture : (o : Result Aperture AdFault) → Agrees o (template_faults d.name macros unit (length values) values) (template_aperture d.name macros unit values)
        → with_aperture number o ≡ Ok made → Given d macros unit made.0 made.1
    by_aperture (Err fault) h g = absurd cc
    by_aperture (Ok aperture) h g =
        let same : (number, aperture) ≡ made = cc in
        subst (λ (m : ℕ × Aperture). Given d macros unit m.0 m.1) same
        (record { values = values; number_is = e; values_are = f; aperture_is = h.made aperture refl })

record Found (od : Option Definition) (macros : List Macro) (unit : FileUnit) (number : ℕ) (aperture : Aperture) : Type 0 where
  pub definition : Definition
  pub form : od ≡ Some definition
  pub given : Given definition macros unit number aperture

found : (od : Option Definition) (macros : List Macro) (unit : FileUnit) (made : ℕ × Aperture) → outcome od macros unit ≡ Ok made → Found od macros unit made.0 made.1
unfolding outcome
found od macros unit made e = grind (arith, given)

pub is_defined : (text : List ℕ) (macros : List Macro) (unit : FileUnit) (made : ℕ × Aperture) → outcome (template_form text) macros unit ≡ Ok made
    → IsDefined text macros unit made.0 made.1
is_defined text macros unit made e =
    let f = found (template_form text) macros unit made e in
    record {
      definition = f.definition;
      values = f.given.values;
      form = f.form;
      number_is = f.given.number_is;
      values_are = f.given.values_are;
      aperture_is = f.given.aperture_is;
      faultless = (whole (template_form text) macros unit).faultless made e;
    }

pub is_refused : (text : List ℕ) (macros : List Macro) (unit : FileUnit) (fault : AdFault) → IsErr fault (outcome (template_form text) macros unit)
    → IsDefinitionRefused text macros unit fault
is_refused text macros unit UnknownForm h = (whole (template_form text) macros unit).least UnknownForm h
is_refused text macros unit BadNumber h = (whole (template_form text) macros unit).least BadNumber h
is_refused text macros unit TemplateRefused h = (whole (template_form text) macros unit).least TemplateRefused h
is_refused text macros unit PrimitiveRefused h = (whole (template_form text) macros unit).least PrimitiveRefused h
is_refused text macros unit RotationRefused h = (whole (template_form text) macros unit).least RotationRefused h
is_refused text macros unit SizeRefused h = (whole (template_form text) macros unit).least SizeRefused h
is_refused text macros unit Malformed h = (whole (template_form text) macros unit).least Malformed h
is_refused text macros unit OutOfMemory h = tt

-- the same of an answer of a call
pub answer_defined : (text bytes : List ℕ) (macros : List Macro) (unit : FileUnit) (answer : Result (ℕ × Aperture) AdFault) → bytes ≡ packed text
    → IfOk answer (λ made. outcome (definition bytes) macros unit ≡ Ok made) → IfOk answer (λ made. IsDefined text macros unit made.0 made.1)
answer_defined text bytes macros unit answer e h = grind (arith, is_defined)

pub answer_refused : (text bytes : List ℕ) (macros : List Macro) (unit : FileUnit) (answer : Result (ℕ × Aperture) AdFault) → bytes ≡ packed text
    → IfErr answer (λ fault. IsErr fault (outcome (definition bytes) macros unit)) → IfErr answer (IsDefinitionRefused text macros unit)
answer_refused text bytes macros unit answer e h = grind (arith, is_refused)
