use Rattle.std.proofs.Common.{arith}
use Rattle.std.proofs.lemmas.Int.{to_z-of_z}
use Rattle.cam_tiles.proofs.grid.Grid.columns_between.Goals as goal

pub returns-clause-each : goal.returns-clause-each
returns-clause-each c = grind (arith, to_z-of_z)

pub between-requires : goal.between-requires
between-requires c = grind (arith)
