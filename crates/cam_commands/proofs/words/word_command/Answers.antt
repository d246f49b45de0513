use Rattle.std.proofs.Common.{arith}
use Rattle.cam_commands.proofs.CodeNumbers.{capped}
use Rattle.cam_commands.specs.WordCommands.{word_command}
use Rattle.cam_commands.proofs.words.word_command.Goals as goal

pub returns : goal.returns
unfolding word_command
returns c = grind (arith, capped)
