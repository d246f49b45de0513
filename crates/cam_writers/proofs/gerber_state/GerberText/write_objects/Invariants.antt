use Rattle.std.proofs.Common.{take}
use Rattle.cam_writers.specs.GerberTexts.{Phrases, with_objects}
use Rattle.cam_writers.specs.Machinery.Tracking.{TracksPhrases}
use Rattle.cam_writers.proofs.gerber_state.GerberText.write_objects.Given as goal

abbrev pub invariant-loop-object : goal.invariant-loop-object
invariant-loop-object l =
    (phrases : Phrases) → TracksPhrases phrases l.fn.self
    → TracksPhrases (with_objects phrases (take l.object-index l.objects)) l.self
