use Rattle.std.proofs.Common.{rules}
use Rattle.cam_writers.proofs.gerber_commands.offset.Goals as goal

pub overflow_sub-result : goal.overflow_sub-result
overflow_sub-result c = search rules

pub returns-clause-x : goal.returns-clause-x
returns-clause-x c = search rules

pub returns-clause-y : goal.returns-clause-y
returns-clause-y c = search rules

pub overflow_sub-result-2 : goal.overflow_sub-result-2
overflow_sub-result-2 c = search rules
