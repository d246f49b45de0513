use Rattle.std.proofs.Common.{◌-◌, length}
use Rattle.cam_ask.specs.Painted.{painted_boxes}
use Rattle.cam_edits.specs.Sheets.{content_of}
use Rattle.cam_ask.proofs.Gathering.{IsGathered}
use Rattle.cam_ask.proofs.telling.push_enclosed.Given as goal

abbrev pub invariant-loop-place : goal.invariant-loop-place
invariant-loop-place l = IsGathered (painted_boxes (content_of l.content)) l.outer l.from l.text.items

abbrev pub decreases-loop-place : goal.decreases-loop-place
decreases-loop-place l = length (painted_boxes (content_of l.content)) - l.from
