use Rattle.std.proofs.Common.{arith}
use Rattle.cam_edits.proofs.board_step.play_drill_on.Goals as goal

pub play-requires-clause-fits : goal.play-requires-clause-fits
play-requires-clause-fits c = grind (arith)

pub returns-in-Gerber-clause-content : goal.returns-in-Gerber-clause-content
returns-in-Gerber-clause-content c = grind (arith)

pub returns-in-Gerber-clause-room : goal.returns-in-Gerber-clause-room
returns-in-Gerber-clause-room c = grind (arith)

pub returns-in-Drill-clause-content : goal.returns-in-Drill-clause-content
returns-in-Drill-clause-content c = grind (arith)

pub returns-in-Drill-clause-room : goal.returns-in-Drill-clause-room
returns-in-Drill-clause-room c = grind (arith)
