use Rattle.std.proofs.Common.{arith}
use Rattle.cam_commands.specs.WordCommands.{operation_of}
use Rattle.cam_commands.proofs.CodeNumbers.{said_there, capped}
use Rattle.cam_commands.proofs.words.operation_of.Goals as goal

pub returns : goal.returns
returns c p is = grind (arith, said_there)

pub returns-in_default-natural : goal.returns-in_default-natural
unfolding operation_of
returns-in_default-natural c = grind (arith, capped)

pub returns-then-has_coordinate : goal.returns-then-has_coordinate
unfolding operation_of
returns-then-has_coordinate c = grind (arith)

pub returns-in_default : goal.returns-in_default
unfolding operation_of
returns-in_default c = grind (arith)
