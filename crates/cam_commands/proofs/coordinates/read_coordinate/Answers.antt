use Rattle.std.proofs.Common.{arith}
use Rattle.cam_commands.proofs.Runs.{field_of_nothing, field_other, field_there}
use Rattle.cam_commands.proofs.coordinates.read_coordinate.Goals as goal

pub returns-in_default-clause-slot : goal.returns-in_default-clause-slot
returns-in_default-clause-slot c = grind (arith, field_of_nothing)

pub returns-in_default-clause-behind : goal.returns-in_default-clause-behind
returns-in_default-clause-behind c = grind (arith, field_of_nothing)

pub returns-then-first-letter-clause-slot : goal.returns-then-first-letter-clause-slot
returns-then-first-letter-clause-slot c = grind (arith, field_other)

pub returns-then-first-letter-clause-behind : goal.returns-then-first-letter-clause-behind
returns-then-first-letter-clause-behind c = grind (arith, field_other)

pub returns-clause-slot : goal.returns-clause-slot
returns-clause-slot c = grind (arith, field_there)

pub returns-clause-behind : goal.returns-clause-behind
returns-clause-behind c = grind (arith, field_there)
