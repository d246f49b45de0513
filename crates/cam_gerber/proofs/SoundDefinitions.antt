-- A definition without a fault defines a sound aperture, of a number that apertures have.
use Rattle.std.proofs.Common.{◌≡◌, ℕ, List, [], ◌∷◌, length, Bool, true, cond, Option, Some, None, Result, Ok, arith}
use Rattle.std.specs.Prelude.{ℤ, pos, ◌&&◌, codes, IfSome, nat_lt, unwrap_or}
use Rattle.std.specs.Option.{option_and_then}
use Rattle.std.specs.Str.{bytes_eq}
use Rattle.std.proofs.lemmas.Int.{ints}
use Rattle.std.proofs.lemmas.Bool.{and_parts, leb-true, ltb-false}
use Rattle.cam_refusals.specs.declared.refusal.Refusal.{Refusal}
use Rattle.cam_refusals.specs.declared.refusal.Refusal.TheVariants.{TemplateRefused}
use Rattle.cam_refusals.specs.Checks.{Checks}
use Rattle.cam_units.specs.Board.{IsSize}
use Rattle.cam_units.specs.declared.length.Unit.{Unit as FileUnit}
use Rattle.cam_macros.specs.declared.aperture_macro.Macro.{Macro}
use Rattle.cam_macros.specs.declared.fault.MacroFault.{MacroFault}
use Rattle.cam_macros.specs.declared.primitive.MacroPrimitive.{MacroPrimitive}
use Rattle.cam_macros.specs.Expansion.{expansion_of}
use Rattle.cam_apertures.specs.declared.aperture.Aperture.{Aperture}
use Rattle.cam_apertures.specs.declared.aperture.Aperture.TheVariants.{Prims}
use Rattle.cam_apertures.specs.Definition.{Definition, template_aperture, by_macro, circle, faults_of, has_sizes}
use Rattle.cam_apertures.specs.Definition.{is_size_between, macro_faults, named, obround, primitives_aperture, rect, standard_faults}
use Rattle.cam_apertures.specs.Definition.{template_faults, values_of}
use Rattle.cam_numbers.specs.Numbers.{defined_number, natural}
use Rattle.cam_apertures.specs.Soundness.{IsSideLength, IsSoundAperture}
use Rattle.cam_apertures.proofs.Expansions.{expanded_sound}
use Rattle.cam_objects.specs.declared.entry.Entry.{Entry}
use Rattle.cam_objects.specs.Soundness.{IsSoundEntry}
use Rattle.cam_gerber.specs.Layers.{defined_by, numbered_aperture}
use Rattle.cam_gerber.specs.Machinery.OpenNumbers.{IsEntryNumber}
use Rattle.cam_gerber.proofs.Least.{ArePassed}
use Rattle.cam_gerber.proofs.JoiningParts.{told}

-- ---- numbers

within : (n : ℕ) (low high : Bool) → nat_lt n 10 ≡ low → nat_lt 2147483647 n ≡ high
    → IfSome (cond low None (cond high None (Some n))) IsEntryNumber
within n low high e f = grind (arith, ltb-false)

pub numbers_within : (o : Option ℕ)
    → IfSome (option_and_then (λ n. cond (nat_lt n 10) None (cond (nat_lt 2147483647 n) None (Some n))) o) IsEntryNumber
numbers_within o = grind (arith, within)

-- ---- apertures

sized : (z : ℤ) → is_size_between (pos 0) z ≡ true → IsSize z
sized z h = grind (arith, and_parts, leb-true, ints)

sided : (z : ℤ) → is_size_between (pos 1) z ≡ true → IsSideLength z
sided z h = grind (arith, and_parts, leb-true, ints)

circles : (d h : ℤ) → (is_size_between (pos 0) d && is_size_between (pos 0) h) ≡ true → IsSize d × IsSize h
circles d h e = let on = and_parts (is_size_between (pos 0) d) (is_size_between (pos 0) h) e in (sized d on.0, sized h on.1)

sides : (w h k : ℤ) → (is_size_between (pos 1) w && (is_size_between (pos 1) h && is_size_between (pos 0) k)) ≡ true → IsSideLength w × IsSideLength h × IsSize k
sides w h k e = grind (arith, and_parts, sided, sized)

abbrev IfMade : Option Aperture → Type 0
IfMade o = IfSome o IsSoundAperture

by_test : (b : Bool) (s t : Checks Refusal) (a c : Option Aperture) → (ArePassed s → IfMade a) → (ArePassed t → IfMade c)
    → ArePassed (cond b s t) → IfMade (cond b a c)
by_test b s t a c h k all = grind arith

of_made : (made : Result (List MacroPrimitive) MacroFault)
    → ((prims : List MacroPrimitive) → made ≡ Ok prims → IsSoundAperture (Prims prims)) → IfMade (primitives_aperture made)
of_made made h = grind arith

of_macro : (found : Option Macro) (unit : FileUnit) (values : List ℤ)
    → IfMade (by_macro found None (λ m. primitives_aperture (expansion_of unit values m.parts)))
of_macro None unit values = tt
of_macro (Some m) unit values = of_made (expansion_of unit values m.parts) (λ prims e. expanded_sound unit values m.parts prims e)

sound_template : (name : List ℕ) (macros : List Macro) (unit : FileUnit) (count : ℕ) (values : List ℤ)
    → ArePassed (template_faults name macros unit count values) → IfMade (template_aperture name macros unit values)
sound_template name macros unit count values =
    by_test (bytes_eq name (codes "C")) (standard_faults 1 count (circle unit values)) _ (Some (circle unit values)) _
    (λ all. circles _ _ (told (has_sizes (circle unit values)) all.1.1.0))
    (by_test (bytes_eq name (codes "R")) (standard_faults 2 count (rect unit values)) _ (Some (rect unit values)) _
    (λ all. sides _ _ _ (told (has_sizes (rect unit values)) all.1.1.0))
    (by_test (bytes_eq name (codes "O")) (standard_faults 2 count (obround unit values)) _ (Some (obround unit values)) _
    (λ all. sides _ _ _ (told (has_sizes (obround unit values)) all.1.1.0))
    (by_test (bytes_eq name (codes "P")) ((TemplateRefused, true) ∷ [])
    (by_macro (named macros name) ((TemplateRefused, true) ∷ []) (λ m. macro_faults (expansion_of unit values m.parts))) None
    (by_macro (named macros name) None (λ m. primitives_aperture (expansion_of unit values m.parts))) (λ all. tt)
    (λ all. of_macro (named macros name) unit values))))

-- an entry that a definition makes
abbrev pub IsDefinedEntry : ℕ × Entry → Type 0
IsDefinedEntry e = IsEntryNumber e.0 × ((es : List (ℕ × Entry)) → IsSoundEntry es e.1)

-- at most one entry, which is sound
abbrev pub AreDefined : List (ℕ × Entry) → Type 0
AreDefined [] = Unit {0}
AreDefined (e ∷ []) = IsDefinedEntry e
AreDefined (e ∷ f ∷ entries) = ⊥

pub sound_definition : (d : Option Definition) (macros : List Macro) (unit : FileUnit) → ArePassed (faults_of d macros unit)
    → AreDefined (defined_by d macros unit)
sound_definition None macros unit all = tt
sound_definition (Some d) macros unit all =
    let values = unwrap_or (values_of d.parameters) [] in
    by (defined_number d.number) (template_aperture d.name macros unit values) (numbers_within (natural d.number))
    (sound_template d.name macros unit (length d.parameters) values all.1.1)
  where
    by : (n : Option ℕ) (a : Option Aperture) → IfSome n IsEntryNumber → IfMade a → AreDefined (numbered_aperture n a)
    by None a h k = tt
    by (Some n) None h k = tt
    by (Some n) (Some a) h k = (h, λ es. k)
