use Rattle.std.proofs.Common.{arith, refl}
use Rattle.std.proofs.lemmas.Grind.{common_steps}
use Rattle.cam_station.proofs.station.Station.load.Goals as goal

pub returns-in_err-content : goal.returns-in_err-content
returns-in_err-content c = grind (arith)

pub returns : goal.returns
returns c = grind (arith, common_steps)

pub returns-then-is_some : goal.returns-then-is_some
returns-then-is_some c = grind (arith)

pub returns-then-is_some-2 : goal.returns-then-is_some-2
returns-then-is_some-2 c = grind (arith)

pub returns-then-len-ge-LAYERS : goal.returns-then-len-ge-LAYERS
returns-then-len-ge-LAYERS c = grind (arith)

pub same-self-then-len-ge-LAYERS : goal.same-self-then-len-ge-LAYERS
same-self-then-len-ge-LAYERS c = refl

pub same-self-in_err-content : goal.same-self-in_err-content
same-self-in_err-content c = refl

pub add-requires-clause-closed : goal.add-requires-clause-closed
add-requires-clause-closed c = grind (arith)

pub same-self-2 : goal.same-self-2
same-self-2 c = refl

pub same-name : goal.same-name
same-name c = refl
