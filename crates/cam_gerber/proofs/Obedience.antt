-- One more command: the first fault that holds is the least, and the record follows.
use Rattle.std.proofs.Common.{arith, ◌≡◌, Bool, None, Some, ◌∙◌, ◌∷◌, ◌++◌}
use Rattle.cam_refusals.specs.declared.refusal.Refusal.{Refusal}
use Rattle.cam_refusals.specs.Checks.{Checks, first_holding}
use Rattle.cam_commands.specs.declared.parts.Operation.{Operation}
use Rattle.cam_commands.specs.declared.parts.OperationCode.{OperationCode}
use Rattle.cam_gerber.specs.State.{Past, code_of, in_region}
use Rattle.cam_gerber.specs.Faults.{command_faults, leading_faults, operated_faults}
use Rattle.cam_gerber.proofs.Operated.{passed, told_before}
use Rattle.std.specs.Prelude.{Result, Ok, Err}
use Rattle.cam_commands.specs.Commands.{Command, Nothing, Operate}
use Rattle.cam_gerber.specs.declared.running.Running.{Running}
use Rattle.cam_refusals.specs.declared.stop.Stop.{Stop}
use Rattle.cam_refusals.specs.declared.stop.Stop.TheVariants.{Memory, Fault}
use Rattle.cam_gerber.specs.Statements.{Says, IsSaidBy}
use Rattle.cam_gerber.specs.Machinery.Tracking.{Answers, Takes, Tracks, Obeys}
use Rattle.cam_gerber.proofs.AscendingChecks.{IsPlain, least_of_command}

said : (command : Command) → IsPlain command → IsSaidBy command (Says command)
said command h = grind arith

obeys : (command : Command) (old new : Running) (result : Result (Unit {0}) Stop) → IsPlain command
    → Takes command old result new → Obeys command old result new
obeys command old new (Ok done) plain takes = λ past none t. grind (arith, said, least_of_command)
obeys command old new (Err Memory) plain takes = tt
obeys command old new (Err (Fault code)) plain takes =
    λ past none t. (Says command, said command plain, least_of_command past command plain ∙ takes past none t)

-- the same of the command that the code has
pub taken : (command now : Command) (old new : Running) (result : Result (Unit {0}) Stop) → now ≡ command → IsPlain command
    → Takes command old result new → Obeys now old result new
taken command now old new result is plain takes = rw is (obeys command old new result plain takes)

-- what is answered behind checks that tell nothing is answered with them
lift : (result : Result (Unit {0}) Stop) (front rest : Checks Refusal) (P : Type 0) → first_holding front ≡ None → Answers result rest P
    → Answers result (front ++ rest) P
lift result front rest P none h = grind (arith, passed)

-- an operation, by what it does
pub operates : (past : Past) (operation : Operation) (code : OperationCode) (region : Bool) (result : Result (Unit {0}) Stop)
    (P : Type 0) → code_of operation ≡ code → in_region past ≡ region
    → first_holding (leading_faults past operation) ≡ None → Answers result (operated_faults code region past operation) P
    → Answers result (command_faults past (Operate operation)) P
operates past operation code region result P c r none h = grind (arith, lift)

pub leads : (past : Past) (operation : Operation) (refusal : Refusal) → first_holding (leading_faults past operation) ≡ Some refusal
    → first_holding (command_faults past (Operate operation)) ≡ Some refusal
leads past operation refusal h = grind (arith, told_before)

-- a text that nobody reads
pub idle : (past : Past) (r : Running) → Tracks past r → Tracks (Says Nothing ∷ past) r
idle past r t = grind arith
