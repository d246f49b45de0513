use Rattle.std.proofs.Common.{arith}
use Rattle.cam_commands.proofs.CodeNumbers.{capped}
use Rattle.cam_commands.specs.WordCommands.{by_function}
use Rattle.cam_commands.proofs.words.by_function.Goals as goal

pub returns : goal.returns
unfolding by_function
returns c = grind (arith, capped)
