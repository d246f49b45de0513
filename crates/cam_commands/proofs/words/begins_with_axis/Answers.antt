use Rattle.std.proofs.lemmas.Bool.{eqb-true}
use Rattle.cam_commands.proofs.PlainOperations.{axis_x, axis_y}
use Rattle.cam_commands.proofs.words.begins_with_axis.Goals as goal

pub returns-then-text-eq88 : goal.returns-then-text-eq88
returns-then-text-eq88 c _ = axis_x c.args.text.now c.if-text-eq88.true

pub returns-else-text-eq88 : goal.returns-else-text-eq88
returns-else-text-eq88 c is = axis_y c.args.text.now (eqb-true _ 89 is)
