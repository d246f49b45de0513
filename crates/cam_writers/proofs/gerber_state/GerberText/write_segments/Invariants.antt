use Rattle.std.proofs.Common.{◌≡◌, take}
use Rattle.cam_units.specs.Board.{IsOnBoard}
use Rattle.cam_writers.specs.GerberTexts.{Phrases, with_segments}
use Rattle.cam_writers.specs.Machinery.Tracking.{TracksPhrases}
use Rattle.cam_writers.proofs.GerberTracks.{where_after}
use Rattle.cam_writers.proofs.gerber_state.GerberText.write_segments.Given as goal

abbrev pub invariant-loop-seg : goal.invariant-loop-seg
invariant-loop-seg l = record {
  here : l.here ≡ where_after l.fn.start (take l.seg-index l.segs);
  on_board : IsOnBoard l.here;
  tracks : (phrases : Phrases) → TracksPhrases phrases l.fn.self
      → TracksPhrases (with_segments l.fn.start (take l.seg-index l.segs) phrases) l.self;
}
