use Rattle.std.proofs.Common.{take}
use Rattle.cam_writers.specs.DrillTexts.{lines_before_end}
use Rattle.cam_writers.specs.Machinery.Tracking.{Tracks}
use Rattle.cam_writers.proofs.drill_text.xnc_text.Given as goal

abbrev pub invariant-loop-item : goal.invariant-loop-item
invariant-loop-item l = Tracks (lines_before_end l.layer.tools (take l.item-index l.item-items)) l.written
