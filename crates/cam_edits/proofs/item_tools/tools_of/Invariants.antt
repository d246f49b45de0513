use Rattle.cam_edits.specs.Machinery.Shifts.{AreToolsOf, tools_of}
use Rattle.cam_edits.proofs.item_tools.tools_of.Given as goal

abbrev pub invariant-loop-place : goal.invariant-loop-place
invariant-loop-place l = AreToolsOf (tools_of l.layer.items.items) l.tools
