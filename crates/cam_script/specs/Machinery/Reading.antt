-- What parts of a line say.
use Rattle.std.specs.Prelude.{Bool, if◌then◌else◌, Option, None, Some, Result, Ok, Err}
use Rattle.cam_script.specs.declared.line.LineFault.{LineFault}
use Rattle.cam_script.specs.declared.line.LineFault.TheVariants.{BadLine, Memory}

-- what was read; where it is something, its memory may be refused
abbrev pub unless_refused : {T : Type 0} → Option T → Bool → Result T LineFault
unless_refused None no_memory = Err BadLine
unless_refused (Some x) no_memory = if no_memory then Err Memory else Ok x
