use Rattle.std.proofs.Common.{arith}
use Rattle.cam_objects.proofs.item.Item.shift.Goals as goal

pub returns-in-One : goal.returns-in-One
returns-in-One c = grind (arith)

pub shift_objects-requires-clause-objects : goal.shift_objects-requires-clause-objects
shift_objects-requires-clause-objects c = grind (arith)

pub returns-in-Repeat : goal.returns-in-Repeat
returns-in-Repeat c = grind (arith)
