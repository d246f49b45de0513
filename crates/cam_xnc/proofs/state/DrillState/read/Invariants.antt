use Rattle.std.proofs.Common.{◌≡◌, length}
use Rattle.cam_xnc.specs.Reading.{drill_reading_of}
use Rattle.cam_xnc.specs.DrillState.{DrillPast}
use Rattle.cam_xnc.specs.Machinery.Tracking.{Tracks}
use Rattle.cam_xnc.proofs.Readings.{goes_on}
use Rattle.cam_xnc.proofs.state.DrillState.read.Given as goal

-- what the lines still to come lead to, after the past of the state
abbrev pub invariant-loop-line : goal.invariant-loop-line
invariant-loop-line l = (past : DrillPast) × Tracks past l.self × (drill_reading_of l.fn.bytes ≡ goes_on (length l.fn.bytes) past l.lines)

abbrev pub decreases-loop-line : goal.decreases-loop-line
decreases-loop-line l = length l.lines
