-- The refusals that tell faults of macros.
use Rattle.cam_refusals.specs.declared.refusal.Refusal.{Refusal}
use Rattle.cam_refusals.specs.declared.refusal.Refusal.TheVariants as refusal
use Rattle.cam_macros.specs.declared.fault.MacroFault.{MacroFault}
use Rattle.cam_macros.specs.declared.fault.MacroFault.TheVariants.{BadName, Malformed, PrimitiveRefused}
use Rattle.cam_macros.specs.declared.fault.MacroFault.TheVariants.{RotationRefused, SizeRefused, OutOfMemory}

abbrev pub macro_refusal : MacroFault → Refusal
macro_refusal BadName = refusal.UnknownCommand
macro_refusal PrimitiveRefused = refusal.PrimitiveRefused
macro_refusal RotationRefused = refusal.RotationRefused
macro_refusal SizeRefused = refusal.SizeRefused
macro_refusal Malformed = refusal.MacroFault
macro_refusal OutOfMemory = refusal.NoMemory
