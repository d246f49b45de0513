use Rattle.std.proofs.Common.{arith}
use Rattle.cam_objects.proofs.dictionary.make_room.Goals as goal

pub returns-clause-facts_room : goal.returns-clause-facts_room
returns-clause-facts_room c = grind (arith)

pub returns-clause-cells_room : goal.returns-clause-cells_room
returns-clause-cells_room c = grind (arith)

pub returns-clause-map_room : goal.returns-clause-map_room
returns-clause-map_room c = grind (arith)
