-- Each refusal that a file may be told has a number under that of memory.
use Rattle.std.proofs.Common.{arith, ◌≡◌, ℕ, List, Bool, true, cond, Option, Some, None, Result}
use Rattle.std.specs.Prelude.{ℤ, nat_le}
use Rattle.std.specs.List.{list_all}
use Rattle.cam_refusals.specs.declared.refusal.Refusal.{Refusal}
use Rattle.cam_refusals.specs.Checks.{Checks, Holds}
use Rattle.cam_refusals.specs.Refusals.{number_of}
use Rattle.cam_refusals.proofs.Checks.{each_has}
use Rattle.cam_units.specs.declared.length.Unit.{Unit as FileUnit}
use Rattle.cam_macros.specs.declared.aperture_macro.Macro.{Macro}
use Rattle.cam_macros.specs.declared.fault.MacroFault.{MacroFault}
use Rattle.cam_macros.specs.declared.primitive.MacroPrimitive.{MacroPrimitive}
use Rattle.cam_macros.specs.Expansion.{expansion_of}
use Rattle.cam_apertures.specs.Definition.{Definition, by_macro, macro_faults, template_faults, faults_of}
use Rattle.cam_commands.specs.declared.parts.Operation.{Operation}
use Rattle.cam_commands.specs.declared.parts.OperationCode.{OperationCode}
use Rattle.cam_commands.specs.Commands.{Command}
use Rattle.cam_gerber.specs.State.{Past}
use Rattle.cam_gerber.specs.Faults.{faults, operated_faults}
use Rattle.cam_gerber.specs.Computing.{statement_said}
use Rattle.cam_gerber.proofs.Expansions.{MayBe, expansion_may_be}

abbrev pub are_low : Checks Refusal → Bool
are_low checks = list_all (λ c. nat_le (number_of c.0) 29) checks

pub low_number : (checks : Checks Refusal) (refusal : Refusal) → are_low checks ≡ true → Holds checks refusal
    → nat_le (number_of refusal) 29 ≡ true
low_number checks refusal all h = each_has (λ r. nat_le (number_of r) 29) checks refusal all h

-- ---- definitions of apertures

either : (b : Bool) (s t : Checks Refusal) → are_low s ≡ true → are_low t ≡ true → are_low (cond b s t) ≡ true
either b s t h k = grind arith

of_expansion : (made : Result (List MacroPrimitive) MacroFault) → MayBe made → are_low (macro_faults made) ≡ true
of_expansion made h = grind arith

of_macro : (found : Option Macro) (unit : FileUnit) (values : List ℤ) (refused : Checks Refusal) → are_low refused ≡ true
    → are_low (by_macro found refused (λ m. macro_faults (expansion_of unit values m.parts))) ≡ true
of_macro None unit values refused h = h
of_macro (Some m) unit values refused h = of_expansion (expansion_of unit values m.parts) (expansion_may_be unit values m.parts)

of_template : (name : List ℕ) (macros : List Macro) (unit : FileUnit) (count : ℕ) (values : List ℤ)
    → are_low (template_faults name macros unit count values) ≡ true
of_template name macros unit count values = grind (arith, either, of_macro)

of_definition : (d : Option Definition) (macros : List Macro) (unit : FileUnit) → are_low (faults_of d macros unit) ≡ true
of_definition d macros unit = grind (arith, of_template)

-- ---- commands

of_operated : (code : OperationCode) (region : Bool) (past : Past) (operation : Operation)
    → are_low (operated_faults code region past operation) ≡ true
of_operated code region past operation = grind arith

pub low_faults : (past : Past) (command : Command) → are_low (faults past (statement_said command)) ≡ true
low_faults past command = grind (arith, of_definition, of_operated)
