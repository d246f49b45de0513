-- Checks of commands: their numbers ascend, so that the first that holds is the least; and each is under that of memory.
use Rattle.std.proofs.Common.{arith, ◌≡◌, true, Bool}
use Rattle.cam_refusals.specs.Checks.{first_holding, least}
use Rattle.cam_refusals.specs.Refusals.{number_of}
use Rattle.cam_refusals.proofs.Checks.{is_ascending, least_is_first}
use Rattle.cam_commands.specs.declared.parts.Operation.{Operation}
use Rattle.cam_commands.specs.declared.parts.OperationCode.{OperationCode}
use Rattle.cam_commands.specs.Commands.{Command, DefineAperture, DefineMacro}
use Rattle.cam_gerber.specs.State.{Past}
use Rattle.cam_gerber.specs.Faults.{command_faults, operated_faults}

operated_ascend : (code : OperationCode) (region : Bool) (past : Past) (operation : Operation)
    → is_ascending number_of 6 (operated_faults code region past operation) ≡ true
operated_ascend code region past operation = grind arith

-- a command whose checks stand in ascending order
abbrev pub IsPlain : Command → Type 0
IsPlain (DefineAperture text) = ⊥
IsPlain (DefineMacro text) = ⊥
IsPlain _ = Unit {0}

commands_ascend : (past : Past) (command : Command) → IsPlain command → is_ascending number_of 1 (command_faults past command) ≡ true
commands_ascend past command h = grind (arith, operated_ascend)

pub least_of_command : (past : Past) (command : Command) → IsPlain command
    → least number_of (command_faults past command) ≡ first_holding (command_faults past command)
least_of_command past command h = least_is_first number_of 1 (command_faults past command) (commands_ascend past command h)
