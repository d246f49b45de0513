use Rattle.std.proofs.Common.{◌≡◌, count_by, take}
use Rattle.cam_edits.specs.Steps.{is_insertion}
use Rattle.cam_edits.proofs.step.insertion_count.Given as goal

-- those of the steps so far
abbrev pub invariant-loop-step : goal.invariant-loop-step
invariant-loop-step l = l.count ≡ count_by is_insertion (take l.step-index l.group)
