use Rattle.std.proofs.Common.{arith}
use Rattle.cam_edits.proofs.ItemTools.{boxes_in, unsized_cells}
use Rattle.cam_edits.proofs.KeptDrilling.{drill_leaves, shifted_cells}
use Rattle.cam_edits.proofs.drill_mending.mend_kept.Goals as goal

pub renew_tool-requires-clause-others : goal.renew_tool-requires-clause-others
renew_tool-requires-clause-others c = grind (arith, unsized_cells)

pub overflow_add-kept : goal.overflow_add-kept
overflow_add-kept c = grind (arith, drill_leaves)

pub overflow_sub-kept : goal.overflow_sub-kept
overflow_sub-kept c = grind (arith, drill_leaves)

pub mend-requires : goal.mend-requires
mend-requires c = grind (arith, boxes_in, shifted_cells)

pub returns-in-None : goal.returns-in-None
returns-in-None c = grind (arith, drill_leaves, boxes_in)

pub returns-in-Some : goal.returns-in-Some
returns-in-Some c = grind (arith)

pub renew_tool-requires-clause-sound : goal.renew_tool-requires-clause-sound
renew_tool-requires-clause-sound c = grind (arith)

pub boxes-requires : goal.boxes-requires
boxes-requires c = grind (arith)
