use Rattle.std.proofs.Common.{arith}
use Rattle.cam_script.proofs.command.CommandFromEdit.from.Goals as goal

pub returns-in-Polarity : goal.returns-in-Polarity
returns-in-Polarity c = grind (arith)

pub returns-in-Delete : goal.returns-in-Delete
returns-in-Delete c = grind (arith)

pub returns-in-SetAttribute : goal.returns-in-SetAttribute
returns-in-SetAttribute c = grind (arith)

pub returns-in-Reorder : goal.returns-in-Reorder
returns-in-Reorder c = grind (arith)

pub returns-in-Diameter : goal.returns-in-Diameter
returns-in-Diameter c = grind (arith)

pub returns-in-Insert : goal.returns-in-Insert
returns-in-Insert c = grind (arith)

pub returns-in-Tool : goal.returns-in-Tool
returns-in-Tool c = grind (arith)

pub returns-in-Aperture : goal.returns-in-Aperture
returns-in-Aperture c = grind (arith)

pub returns-in-DropAttribute : goal.returns-in-DropAttribute
returns-in-DropAttribute c = grind (arith)
