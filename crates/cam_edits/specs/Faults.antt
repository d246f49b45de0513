-- Refusals of edits among the refusals that are told by their numbers.
use Rattle.cam_refusals.specs.declared.refusal.Refusal.{Refusal}
use Rattle.cam_refusals.specs.declared.refusal.Refusal.TheVariants as refusals
use Rattle.cam_edits.specs.declared.fault.EditFault.{EditFault}
use Rattle.cam_edits.specs.declared.fault.EditFault.TheVariants.{NoLayer, WrongKind, AttributeRefused, NoAttribute}
use Rattle.cam_edits.specs.declared.fault.EditFault.TheVariants.{NoItem, HasNone, NoAperture, NoTool, WrongAperture}
use Rattle.cam_edits.specs.declared.fault.EditFault.TheVariants.{SizeRefused, OutOfBoard, TooMuch, Memory}

abbrev pub edit_refusal : EditFault → Refusal
edit_refusal NoLayer = refusals.NoLayer
edit_refusal WrongKind = refusals.WrongKind
edit_refusal AttributeRefused = refusals.AttributeRefused
edit_refusal NoAttribute = refusals.NoAttribute
edit_refusal NoItem = refusals.NoItem
edit_refusal HasNone = refusals.HasNone
edit_refusal NoAperture = refusals.NoAperture
edit_refusal NoTool = refusals.NoTool
edit_refusal WrongAperture = refusals.EditWrongAperture
edit_refusal SizeRefused = refusals.EditSizeRefused
edit_refusal OutOfBoard = refusals.EditOutOfBoard
edit_refusal TooMuch = refusals.EditTooMuch
edit_refusal Memory = refusals.NoMemory
