-- The refusals that tell faults of aperture definitions.
use Rattle.cam_refusals.specs.declared.refusal.Refusal.{Refusal}
use Rattle.cam_refusals.specs.declared.refusal.Refusal.TheVariants as refusal
use Rattle.cam_macros.specs.declared.fault.MacroFault.{MacroFault}
use Rattle.cam_macros.specs.declared.fault.MacroFault.TheVariants as macro
use Rattle.cam_apertures.specs.declared.fault.AdFault.{AdFault}
use Rattle.cam_apertures.specs.declared.fault.AdFault.TheVariants.{UnknownForm, BadNumber, TemplateRefused}
use Rattle.cam_apertures.specs.declared.fault.AdFault.TheVariants.{PrimitiveRefused, RotationRefused, SizeRefused}
use Rattle.cam_apertures.specs.declared.fault.AdFault.TheVariants.{Malformed, OutOfMemory}

abbrev pub aperture_refusal : AdFault → Refusal
aperture_refusal UnknownForm = refusal.UnknownCommand
aperture_refusal BadNumber = refusal.BadNumber
aperture_refusal TemplateRefused = refusal.TemplateRefused
aperture_refusal PrimitiveRefused = refusal.PrimitiveRefused
aperture_refusal RotationRefused = refusal.RotationRefused
aperture_refusal SizeRefused = refusal.SizeRefused
aperture_refusal Malformed = refusal.MacroFault
aperture_refusal OutOfMemory = refusal.NoMemory

-- the refusal of a definition whose macro is refused so; no expansion is refused for its name
abbrev pub of_macro : MacroFault → AdFault
of_macro macro.BadName = Malformed
of_macro macro.Malformed = Malformed
of_macro macro.PrimitiveRefused = PrimitiveRefused
of_macro macro.RotationRefused = RotationRefused
of_macro macro.SizeRefused = SizeRefused
of_macro macro.OutOfMemory = OutOfMemory
