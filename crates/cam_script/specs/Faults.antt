-- Refusals of lines.
use Rattle.cam_refusals.specs.declared.refusal.Refusal.{Refusal}
use Rattle.cam_refusals.specs.declared.refusal.Refusal.TheVariants as refusals
use Rattle.cam_script.specs.declared.line.LineFault.{LineFault}
use Rattle.cam_script.specs.declared.line.LineFault.TheVariants.{LineTooLong, BadLine, Memory}

abbrev pub line_refusal : LineFault → Refusal
line_refusal LineTooLong = refusals.LineTooLong
line_refusal BadLine = refusals.BadLine
line_refusal Memory = refusals.NoMemory
