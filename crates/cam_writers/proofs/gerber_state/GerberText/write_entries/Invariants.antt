use Rattle.std.proofs.Common.{◌≡◌, take, length}
use Rattle.std.specs.List.{fold}
use Rattle.cam_writers.specs.GerberTexts.{Phrases, with_entry}
use Rattle.cam_writers.specs.Machinery.Tracking.{TracksPhrases}
use Rattle.cam_writers.proofs.gerber_state.GerberText.write_entries.Given as goal

abbrev pub invariant-loop-place : goal.invariant-loop-place
invariant-loop-place l = record {
  tracks : (phrases : Phrases) → TracksPhrases phrases l.fn.self
      → TracksPhrases (fold with_entry phrases (take l.place l.entries)) l.self;
  end : l.place-end ≡ length l.entries;
}
