use Rattle.std.proofs.Common.{arith}
use Rattle.cam_tiles.proofs.masks.inks.Inks.find_open.Goals as goal

pub past_done-next-requires : goal.past_done-next-requires
past_done-next-requires c = grind (arith)

pub returns-then-next-tile-clause-open : goal.returns-then-next-tile-clause-open
returns-then-next-tile-clause-open c = grind (arith)
