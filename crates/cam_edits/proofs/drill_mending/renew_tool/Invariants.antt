use Rattle.std.proofs.Common.{◌≡◌, ◌-◌}
use Rattle.cam_edits.specs.Machinery.Shifts.{AreRenewedUntil}
use Rattle.cam_edits.proofs.ItemTools.{boxes_in}
use Rattle.cam_edits.proofs.drill_mending.renew_tool.Given as goal

abbrev pub invariant-loop-place : goal.invariant-loop-place
invariant-loop-place l = record {
  boxes : boxes_in l.boxes ≡ boxes_in l.layer;
  renewed : AreRenewedUntil l.place l.t l.layer l.cells;
}

abbrev pub decreases-loop-place : goal.decreases-loop-place
decreases-loop-place l = l.count - l.place
