-- What a file of each kind means: the content of its layer, or its first fault.
use Rattle.std.specs.Prelude.{ℕ, List, Some, Result, Ok, Err}
use Rattle.cam_refusals.specs.declared.read_fault.ReadFault.{ReadFault}
use Rattle.cam_refusals.specs.declared.refusal.Refusal.{Refusal}
use Rattle.cam_objects.specs.Contents.{Content as GerberContent, DrillContent}
use Rattle.cam_gerber.specs.Computing.{reading_of as gerber_reading}
use Rattle.cam_xnc.specs.Reading.{drill_reading_of as drill_reading}
use Rattle.cam_script.specs.declared.command.FileKind.{FileKind}
use Rattle.cam_script.specs.declared.command.FileKind.TheVariants as kinds
use Rattle.cam_station.specs.declared.fault.Fault.{Fault}
use Rattle.cam_edits.specs.Sheets.{Content, Gerber, Drill}

-- a reader's fault, with its place in the file
abbrev pub fault_at : Refusal → ℕ → Fault
fault_at code place = record { code = code; at = Some place }

abbrev pub gerber_meaning : Result GerberContent ReadFault → Result Content Fault
gerber_meaning (Ok c) = Ok (Gerber c)
gerber_meaning (Err f) = Err (fault_at f.code f.at)

abbrev pub drill_meaning : Result DrillContent ReadFault → Result Content Fault
drill_meaning (Ok c) = Ok (Drill c)
drill_meaning (Err f) = Err (fault_at f.code f.at)

abbrev pub meaning_of : FileKind → List ℕ → Result Content Fault
meaning_of kinds.Gerber bytes = gerber_meaning (gerber_reading bytes)
meaning_of kinds.Drill bytes = drill_meaning (drill_reading bytes)
