use Rattle.std.proofs.Common.{◌≤◌, ◌-◌, length}
use Rattle.cam_edits.specs.Machinery.Shifts.{tools_of}
use Rattle.cam_edits.proofs.touched.count_of_tool.Given as goal

abbrev pub invariant-loop-place : goal.invariant-loop-place
invariant-loop-place l = record { few : l.count ≤ l.place; within : l.place ≤ length (tools_of l.layer.items.items) }

abbrev pub decreases-loop-place : goal.decreases-loop-place
decreases-loop-place l = length (tools_of l.layer.items.items) - l.place
