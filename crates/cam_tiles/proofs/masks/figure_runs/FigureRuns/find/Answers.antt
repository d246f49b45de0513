use Rattle.std.proofs.Common.{arith}
use Rattle.cam_tiles.proofs.FigureColumns.{tells_body}
use Rattle.cam_tiles.proofs.masks.figure_runs.FigureRuns.find.Goals as goal

pub returns-in-Obround : goal.returns-in-Obround
returns-in-Obround c = rw c.in-Obround.is c.find_pierced-in-Obround.ensures

pub returns-in-Straight : goal.returns-in-Straight
returns-in-Straight c = rw c.in-Straight.is c.find_straight.ensures

pub returns-in-Round : goal.returns-in-Round
returns-in-Round c = rw c.in-Round.is c.find_round.ensures

pub returns-in-Swept : goal.returns-in-Swept
returns-in-Swept c = grind (arith, tells_body)

pub returns-in-Disc : goal.returns-in-Disc
returns-in-Disc c = rw c.in-Disc.is c.find_pierced.ensures

pub returns-in-Rectangle : goal.returns-in-Rectangle
returns-in-Rectangle c = rw c.in-Rectangle.is c.find_pierced-in-Rectangle.ensures

pub find_straight-requires-clause-sound : goal.find_straight-requires-clause-sound
find_straight-requires-clause-sound c = rw c.in-Straight.is at c.requires.sound.figure

pub find_round-requires-clause-sound : goal.find_round-requires-clause-sound
find_round-requires-clause-sound c = (rw c.in-Round.is at c.requires.sound.figure).0

pub find-requires-clause-sound : goal.find-requires-clause-sound
find-requires-clause-sound c = rw c.in-Swept.is at c.requires.sound.figure

pub find_round-requires-clause-heights : goal.find_round-requires-clause-heights
find_round-requires-clause-heights c = grind (arith)
