use Rattle.cam_tiles.proofs.TurnedMarks.{curve_counted}
use Rattle.cam_tiles.proofs.masks.turning.turn_segment.Goals as goal

pub returns-in-Curve : goal.returns-in-Curve
returns-in-Curve c =
    curve_counted c.args.field.now c.args.here c.in-Curve.to c.in-Curve.centre c.in-Curve.ccw c.args.seg
    c.args.marks.now c.turn_line-in-Curve.new.marks c.turn_cap.new.marks c.in-Curve.is c.turn_line-in-Curve.ensures
    c.turn_cap.ensures

pub returns-in-Line : goal.returns-in-Line
returns-in-Line c = rw c.in-Line.is c.turn_line.ensures

pub turn_line-requires-clause-to : goal.turn_line-requires-clause-to
turn_line-requires-clause-to c = rw c.in-Line.is at c.requires.seg
