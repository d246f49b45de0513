use Rattle.std.proofs.Common.{take}
use Rattle.cam_writers.specs.GerberTexts.{phrases_before_end}
use Rattle.cam_writers.specs.Machinery.Tracking.{TracksPhrases}
use Rattle.cam_writers.proofs.gerber_layers.gerber_text.Given as goal

abbrev pub invariant-loop-item : goal.invariant-loop-item
invariant-loop-item l =
    TracksPhrases (phrases_before_end l.layer.attributes.items l.layer.apertures (take l.item-index l.item-items)) l.written
