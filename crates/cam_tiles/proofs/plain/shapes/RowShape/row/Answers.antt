use Rattle.std.proofs.Common.{arith}
use Rattle.cam_tiles.proofs.plain.shapes.RowShape.row.Goals as goal

pub returns-in-Disc : goal.returns-in-Disc
returns-in-Disc c = rw c.in-Disc.is c.disc_row.ensures

pub returns-in-Hole : goal.returns-in-Hole
returns-in-Hole c = rw c.in-Hole.is c.hole_row.ensures

pub returns-in-Rectangle : goal.returns-in-Rectangle
returns-in-Rectangle c = rw c.in-Rectangle.is c.rect_row.ensures

pub returns-in-Obround : goal.returns-in-Obround
returns-in-Obround c = rw c.in-Obround.is c.obround_row.ensures

pub returns-in-Bar : goal.returns-in-Bar
returns-in-Bar c = rw c.in-Bar.is c.bar_row.ensures

pub returns-in-Capsule : goal.returns-in-Capsule
returns-in-Capsule c = rw c.in-Capsule.is c.capsule_row.ensures

pub returns-in-Arc : goal.returns-in-Arc
returns-in-Arc c = rw c.in-Arc.is c.arc_row.ensures

pub returns-in-Swept : goal.returns-in-Swept
returns-in-Swept c = rw c.in-Swept.is c.swept_row.ensures

pub returns-in-Edge : goal.returns-in-Edge
returns-in-Edge c = rw c.in-Edge.is c.edge_row.ensures

pub returns-in-Cap : goal.returns-in-Cap
returns-in-Cap c = rw c.in-Cap.is c.cap_row.ensures

pub bar_row-requires-clause-bar : goal.bar_row-requires-clause-bar
bar_row-requires-clause-bar c = grind (arith)

pub disc_row-requires-clause-disc : goal.disc_row-requires-clause-disc
disc_row-requires-clause-disc c = grind (arith)

pub arc_row-requires-clause-arc : goal.arc_row-requires-clause-arc
arc_row-requires-clause-arc c = grind (arith)

pub rect_row-requires-clause-rectangle : goal.rect_row-requires-clause-rectangle
rect_row-requires-clause-rectangle c = grind (arith)

pub obround_row-requires-clause-obround : goal.obround_row-requires-clause-obround
obround_row-requires-clause-obround c = grind (arith)

pub capsule_row-requires-clause-capsule : goal.capsule_row-requires-clause-capsule
capsule_row-requires-clause-capsule c = grind (arith)

pub hole_row-requires-clause-disc : goal.hole_row-requires-clause-disc
hole_row-requires-clause-disc c = grind (arith)

pub swept_row-requires-clause-swept : goal.swept_row-requires-clause-swept
swept_row-requires-clause-swept c = grind (arith)
