-- Aperture definitions by one test after the other.
use Rattle.std.specs.Prelude.{◌≡◌, ℕ, ◌+◌, ℤ, List, length, Option, Some, None, Result, Ok, Err, nat_lt}
use Rattle.std.specs.Prelude.{if◌then◌else◌}
use Rattle.cam_refusals.specs.Refusals.{UnlessMemory}
use Rattle.cam_units.specs.declared.length.Unit.{Unit as FileUnit}
use Rattle.cam_macros.specs.declared.aperture_macro.Macro.{Macro}
use Rattle.cam_macros.specs.declared.fault.MacroFault.{MacroFault}
use Rattle.cam_macros.specs.declared.primitive.MacroPrimitive.{MacroPrimitive}
use Rattle.cam_macros.specs.Expansion.{expansion_of}
use Rattle.cam_apertures.specs.declared.aperture.Aperture.{Aperture}
use Rattle.cam_apertures.specs.declared.aperture.Aperture.TheVariants.{Prims}
use Rattle.cam_apertures.specs.declared.fault.AdFault.{AdFault}
use Rattle.cam_apertures.specs.declared.fault.AdFault.TheVariants.{UnknownForm, BadNumber, TemplateRefused, SizeRefused}
use Rattle.cam_apertures.specs.Faults.{of_macro, aperture_refusal}
use Rattle.cam_apertures.specs.Definition.{by_macro, by_template_name, circle, has_sizes, named, obround, rect, values_of, Definition}
use Rattle.cam_numbers.specs.Numbers.{defined_number}

unfoldable pub standard_outcome : ℕ → ℕ → Aperture → Result Aperture AdFault
standard_outcome fewest count aperture =
    if nat_lt count fewest then Err BadNumber
    else if nat_lt (fewest + 1) count then Err TemplateRefused
    else if has_sizes aperture then Ok aperture else Err SizeRefused

abbrev pub macro_outcome : Result (List MacroPrimitive) MacroFault → Result Aperture AdFault
macro_outcome (Ok prims) = Ok (Prims prims)
macro_outcome (Err fault) = Err (of_macro fault)

-- of the macro of this name
abbrev pub named_outcome : List ℕ → List Macro → FileUnit → List ℤ → Result Aperture AdFault
named_outcome name macros unit values =
    by_macro (named macros name) (Err TemplateRefused) (λ m. macro_outcome (expansion_of unit values m.parts))

unfoldable pub template_outcome : List ℕ → List Macro → FileUnit → List ℤ → Result Aperture AdFault
template_outcome name macros unit values =
    by_template_name name macros
    (standard_outcome 1 (length values) (circle unit values))
    (standard_outcome 2 (length values) (rect unit values))
    (standard_outcome 2 (length values) (obround unit values))
    (Err TemplateRefused)
    (λ m. macro_outcome (expansion_of unit values m.parts))

abbrev pub with_aperture : ℕ → Result Aperture AdFault → Result (ℕ × Aperture) AdFault
with_aperture number (Ok aperture) = Ok (number, aperture)
with_aperture number (Err fault) = Err fault

abbrev pub with_values : ℕ → Option (List ℤ) → (List ℤ → Result Aperture AdFault) → Result (ℕ × Aperture) AdFault
with_values number None meaning = Err BadNumber
with_values number (Some values) meaning = with_aperture number (meaning values)

abbrev pub with_number : Option ℕ → Option (List ℤ) → (List ℤ → Result Aperture AdFault) → Result (ℕ × Aperture) AdFault
with_number None values meaning = Err BadNumber
with_number (Some number) values meaning = with_values number values meaning

unfoldable pub outcome : Option Definition → List Macro → FileUnit → Result (ℕ × Aperture) AdFault
outcome None macros unit = Err UnknownForm
outcome (Some d) macros unit =
    with_number (defined_number d.number) (values_of d.parameters) (template_outcome d.name macros unit)

-- the outcome is this fault, or memory ran out
abbrev pub IsErr : {A : Type 0} → AdFault → Result A AdFault → Type 0
IsErr fault meant = UnlessMemory (aperture_refusal fault) (meant ≡ Err fault)
