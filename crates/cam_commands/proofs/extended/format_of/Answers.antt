use Rattle.std.proofs.Common.{arith}
use Rattle.cam_commands.specs.ExtendedCommands.{format_of}
use Rattle.cam_commands.proofs.extended.format_of.Goals as goal

pub overflow_sub-result : goal.overflow_sub-result
unfolding format_of
overflow_sub-result c = grind (arith)

pub overflow_sub-result-2 : goal.overflow_sub-result-2
unfolding format_of
overflow_sub-result-2 c = grind (arith)
