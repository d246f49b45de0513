use Rattle.std.proofs.Common.{arith}
use Rattle.cam_objects.proofs.CarriedNumbers.{carried_down, carried_up}
use Rattle.cam_objects.proofs.cells.numbers.carry.Goals as goal

pub returns : goal.returns
returns c = grind (arith, carried_up, carried_down)
