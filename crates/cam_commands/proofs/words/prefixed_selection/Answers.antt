use Rattle.std.proofs.Common.{arith}
use Rattle.cam_commands.proofs.CodeNumbers.{capped}
use Rattle.cam_commands.specs.WordCommands.{prefixed_selection}
use Rattle.cam_commands.proofs.words.prefixed_selection.Goals as goal

pub returns : goal.returns
unfolding prefixed_selection
returns c = grind (arith, capped)
