use Rattle.std.proofs.Common.{arith}
use Rattle.cam_objects.proofs.dictionary.Dictionary.find_by_place.Goals as goal

pub returns-in_err-listed-clause-distinct : goal.returns-in_err-listed-clause-distinct
returns-in_err-listed-clause-distinct c = grind (arith)

pub returns-then-listed-number-clause-distinct : goal.returns-then-listed-number-clause-distinct
returns-then-listed-number-clause-distinct c = grind (arith)

pub returns-in_err-place-clause-distinct : goal.returns-in_err-place-clause-distinct
returns-in_err-place-clause-distinct c = grind (arith)

pub returns-in_err-listed-clause-found : goal.returns-in_err-listed-clause-found
returns-in_err-listed-clause-found c = grind (arith)

pub returns-in_err-place-clause-found : goal.returns-in_err-place-clause-found
returns-in_err-place-clause-found c = grind (arith)

pub returns-then-listed-number-clause-found : goal.returns-then-listed-number-clause-found
returns-then-listed-number-clause-found c = grind (arith)
