use Rattle.std.proofs.Common.{arith}
use Rattle.cam_objects.proofs.BesideLines.{round_missed}
use Rattle.cam_objects.proofs.boxes.lines.line_misses.Goals as goal

pub returns-in-Round : goal.returns-in-Round
returns-in-Round c = λ off.
    round_missed c.args.tip.now c.in-Round.width c.args.from.now c.args.to.now c.args.within c.in-Closed.low c.in-Closed.high
    c.in-Round.is c.in-Closed.is (c.lies_beyond.ensures off)

pub lies_beyond-requires-in-Rectangular-clause-high : goal.lies_beyond-requires-in-Rectangular-clause-high
lies_beyond-requires-in-Rectangular-clause-high c = grind (arith)

pub lies_beyond-requires-clause-height : goal.lies_beyond-requires-clause-height
lies_beyond-requires-clause-height c = grind (arith)

pub lies_beyond-requires-in-Rectangular-clause-low : goal.lies_beyond-requires-in-Rectangular-clause-low
lies_beyond-requires-in-Rectangular-clause-low c = grind (arith)

pub lies_beyond-requires-clause-high : goal.lies_beyond-requires-clause-high
lies_beyond-requires-clause-high c = grind (arith)

pub lies_beyond-requires-in-Rectangular-clause-width : goal.lies_beyond-requires-in-Rectangular-clause-width
lies_beyond-requires-in-Rectangular-clause-width c = grind (arith)

pub lies_beyond-requires-clause-width : goal.lies_beyond-requires-clause-width
lies_beyond-requires-clause-width c = grind (arith)

pub returns-in-Rectangular : goal.returns-in-Rectangular
returns-in-Rectangular c = grind (arith)

pub lies_beyond-requires-clause-low : goal.lies_beyond-requires-clause-low
lies_beyond-requires-clause-low c = grind (arith)

pub lies_beyond-requires-in-Rectangular-clause-height : goal.lies_beyond-requires-in-Rectangular-clause-height
lies_beyond-requires-in-Rectangular-clause-height c = grind (arith)
