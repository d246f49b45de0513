use Rattle.std.proofs.Common.{◌≡◌, ◌-◌, ◌<◌, ◌≤◌, length, slice_index, take}
use Rattle.cam_edits.specs.Machinery.Shifts.{tools_of}
use Rattle.cam_edits.proofs.TouchedDrillBoxes.{boxes_of_items}
use Rattle.cam_edits.proofs.touched.boxes_of_tool.Given as goal

-- the boxes of the items so far
abbrev pub invariant-loop-place : goal.invariant-loop-place
invariant-loop-place l = record {
  boxes : l.boxes.items ≡ boxes_of_items l.layer.tools l.t l.d (take l.place l.layer.items.items);
  within : l.place ≤ length (tools_of l.layer.items.items);
  found : l.place < length (tools_of l.layer.items.items) → slice_index (tools_of l.layer.items.items) l.place ≡ l.t;
}

abbrev pub decreases-loop-place : goal.decreases-loop-place
decreases-loop-place l = length (tools_of l.layer.items.items) - l.place
