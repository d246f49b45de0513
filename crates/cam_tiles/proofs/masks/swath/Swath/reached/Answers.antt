use Rattle.std.proofs.Common.{arith}
use Rattle.cam_tiles.proofs.masks.swath.Swath.reached.Goals as goal

pub reached-requires-clause-centres : goal.reached-requires-clause-centres
reached-requires-clause-centres c = λ column near. grind arith

pub returns : goal.returns
returns c = grind arith
