use Rattle.std.proofs.Common.{arith}
use Rattle.std.proofs.lemmas.Grind.{common_steps}
use Rattle.cam_rows.proofs.chord.room_at.Goals as goal

pub returns-clause-room : goal.returns-clause-room
returns-clause-room c = grind (arith)

pub overflow_mul-height : goal.overflow_mul-height
overflow_mul-height c = grind (arith, common_steps)

pub overflow_cast-bound : goal.overflow_cast-bound
overflow_cast-bound c = grind (arith)

pub returns-then-this-gt-NEAR-clause-room : goal.returns-then-this-gt-NEAR-clause-room
returns-then-this-gt-NEAR-clause-room c = grind (arith)
