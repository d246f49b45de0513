use Rattle.std.proofs.Common.{◌≡◌, length, take}
use Rattle.std.specs.List.{flat_map}
use Rattle.cam_ask.specs.Answers.{sheet_line}
use Rattle.cam_ask.proofs.answers.told_layers.Given as goal

abbrev pub invariant-loop-place : goal.invariant-loop-place
invariant-loop-place l = record {
  text : l.text.items ≡ flat_map sheet_line (take l.place l.station.timeline.document);
  end : l.place-end ≡ length l.station.timeline.document;
}
