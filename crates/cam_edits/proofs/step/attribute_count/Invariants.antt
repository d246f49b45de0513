use Rattle.std.proofs.Common.{◌≡◌, count_by, take}
use Rattle.cam_edits.specs.Steps.{puts_attribute}
use Rattle.cam_edits.proofs.step.attribute_count.Given as goal

-- those of the steps so far
abbrev pub invariant-loop-step : goal.invariant-loop-step
invariant-loop-step l = l.count ≡ count_by puts_attribute (take l.step-index l.group)
