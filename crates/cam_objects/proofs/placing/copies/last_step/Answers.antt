use Rattle.std.proofs.Common.{rules, ◌-◌, arith}
use Rattle.cam_objects.proofs.Computed.{steps_are, steps_fit, steps_reach}
use Rattle.cam_objects.proofs.placing.copies.last_step.Goals as goal

pub overflow_mul-result : goal.overflow_mul-result
overflow_mul-result c = steps_fit (c.args.count - 1) c.args.step (omega arith) c.requires.step c.from.result c.from.ensures

pub returns-clause-value : goal.returns-clause-value
returns-clause-value c = steps_are (c.args.count - 1) c.args.step (omega arith) c.requires.step c.from.result c.from.ensures

pub returns-clause-reach : goal.returns-clause-reach
returns-clause-reach c = search (rules, steps_are, steps_reach)
