use Rattle.std.proofs.Common.{arith}
use Rattle.std.proofs.lemmas.Grind.{common_steps}
use Rattle.cam_station.proofs.station.Station.step.Goals as goal

pub returns-in-Load : goal.returns-in-Load
returns-in-Load c = grind (arith)

pub returns-in-Diameter : goal.returns-in-Diameter
returns-in-Diameter c = grind (arith)

pub returns-in-Begin : goal.returns-in-Begin
returns-in-Begin c = grind (arith)

pub returns-in-Aperture : goal.returns-in-Aperture
returns-in-Aperture c = grind (arith)

pub returns-in-Write : goal.returns-in-Write
returns-in-Write c = grind (arith)

pub returns-in-Redo : goal.returns-in-Redo
returns-in-Redo c = grind (arith)

pub returns-in-Reorder : goal.returns-in-Reorder
returns-in-Reorder c = grind (arith)

pub returns-in-Insert : goal.returns-in-Insert
returns-in-Insert c = grind (arith)

pub returns-in-Tool : goal.returns-in-Tool
returns-in-Tool c = grind (arith)

pub returns-in-Move : goal.returns-in-Move
returns-in-Move c = grind (arith, common_steps)

pub returns-in-Redraw : goal.returns-in-Redraw
returns-in-Redraw c = grind (arith)

pub returns-in-DropAttribute : goal.returns-in-DropAttribute
returns-in-DropAttribute c = grind (arith)

pub returns-in-Polarity : goal.returns-in-Polarity
returns-in-Polarity c = grind (arith)

pub returns-in-Undo : goal.returns-in-Undo
returns-in-Undo c = grind (arith)

pub returns-in-ListAll : goal.returns-in-ListAll
returns-in-ListAll c = grind (arith)

pub returns-in-Abort : goal.returns-in-Abort
returns-in-Abort c = grind (arith)

pub returns-in-End : goal.returns-in-End
returns-in-End c = grind (arith)

pub returns-in-Delete : goal.returns-in-Delete
returns-in-Delete c = grind (arith)

pub returns-in-Plot : goal.returns-in-Plot
returns-in-Plot c = grind (arith)

pub returns-in-SetAttribute : goal.returns-in-SetAttribute
returns-in-SetAttribute c = grind (arith)

pub returns-in-ListLayer : goal.returns-in-ListLayer
returns-in-ListLayer c = grind (arith)
