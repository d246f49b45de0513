use Rattle.std.proofs.Common.{arith}
use Rattle.cam_station.proofs.showing.draw.Goals as goal

pub redraw-requires : goal.redraw-requires
redraw-requires c = grind (arith)

pub gerber_by_cells-source-requires-clause-sound : goal.gerber_by_cells-source-requires-clause-sound
gerber_by_cells-source-requires-clause-sound c = grind (arith)

pub gerber_by_cells-source-requires-clause-cells : goal.gerber_by_cells-source-requires-clause-cells
gerber_by_cells-source-requires-clause-cells c = grind (arith)

pub redraw-requires-in-Drill : goal.redraw-requires-in-Drill
redraw-requires-in-Drill c = grind (arith)

pub drill_by_cells-source-requires-clause-cells : goal.drill_by_cells-source-requires-clause-cells
drill_by_cells-source-requires-clause-cells c = grind (arith)

pub drill_by_cells-source-requires-clause-sound : goal.drill_by_cells-source-requires-clause-sound
drill_by_cells-source-requires-clause-sound c = grind (arith)

pub gerber_by_cells-source-requires-clause-copies : goal.gerber_by_cells-source-requires-clause-copies
gerber_by_cells-source-requires-clause-copies c = grind (arith)
