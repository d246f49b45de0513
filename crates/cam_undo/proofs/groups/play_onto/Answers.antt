use Rattle.std.proofs.Common.{arith}
use Rattle.std.proofs.lemmas.Grind.{common_steps}
use Rattle.cam_undo.proofs.groups.play_onto.Goals as goal

pub returns-in_default-clause-refused : goal.returns-in_default-clause-refused
returns-in_default-clause-refused c = grind (arith)

pub returns-then-is_ok-clause-content : goal.returns-then-is_ok-clause-content
returns-then-is_ok-clause-content c = grind (arith, common_steps)

pub play-requires-clause-room : goal.play-requires-clause-room
play-requires-clause-room c = grind (arith, common_steps)

pub returns-in_default-clause-answer : goal.returns-in_default-clause-answer
returns-in_default-clause-answer c = grind (arith)

pub returns-else-is_ok-clause-answer : goal.returns-else-is_ok-clause-answer
returns-else-is_ok-clause-answer c = grind (arith)

pub unwrap-requires : goal.unwrap-requires
unwrap-requires c = grind (arith)

pub returns-in_default-clause-content : goal.returns-in_default-clause-content
returns-in_default-clause-content c = grind (arith)

pub returns-else-is_ok-clause-content : goal.returns-else-is_ok-clause-content
returns-else-is_ok-clause-content c = grind (arith)

pub returns-then-is_ok-clause-answer : goal.returns-then-is_ok-clause-answer
returns-then-is_ok-clause-answer c = grind (arith, common_steps)

pub returns-then-is_ok-clause-refused : goal.returns-then-is_ok-clause-refused
returns-then-is_ok-clause-refused c = grind (arith)

pub returns-else-is_ok-clause-refused : goal.returns-else-is_ok-clause-refused
returns-else-is_ok-clause-refused c = grind (arith, common_steps)

pub play-requires-clause-fits : goal.play-requires-clause-fits
play-requires-clause-fits c = grind (arith, common_steps)
