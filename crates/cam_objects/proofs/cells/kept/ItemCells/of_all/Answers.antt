use Rattle.std.proofs.Common.{arith}
use Rattle.std.proofs.lemmas.Grind.{common_steps}
use Rattle.cam_objects.proofs.cells.kept.ItemCells.of_all.Goals as goal

pub loop-place-preserved : goal.loop-place-preserved
loop-place-preserved c = grind (arith, common_steps)

pub returns-in_err-right-clause-list : goal.returns-in_err-right-clause-list
returns-in_err-right-clause-list c = grind (arith)

pub returns-in_err-top-clause-list : goal.returns-in_err-top-clause-list
returns-in_err-top-clause-list c = grind (arith)

pub returns-clause-leaves : goal.returns-clause-leaves
returns-clause-leaves c = grind (arith, common_steps)

pub returns-clause-list : goal.returns-clause-list
returns-clause-list c = assumption arith

pub returns-clause-cells : goal.returns-clause-cells
returns-clause-cells c = grind (arith)

pub loop-place-init : goal.loop-place-init
loop-place-init c = grind (arith)

pub index_mut-requires : goal.index_mut-requires
index_mut-requires c = grind (arith)

pub index_mut-requires-in-loop-place : goal.index_mut-requires-in-loop-place
index_mut-requires-in-loop-place c = grind (arith)

pub index_mut-requires-in-loop-place-2 : goal.index_mut-requires-in-loop-place-2
index_mut-requires-in-loop-place-2 c = grind (arith)

pub index_mut-requires-in-loop-place-3 : goal.index_mut-requires-in-loop-place-3
index_mut-requires-in-loop-place-3 c = grind (arith)

pub overflow_add-leaves : goal.overflow_add-leaves
overflow_add-leaves c = grind (arith, common_steps)

pub measure_at-measure-requires : goal.measure_at-measure-requires
measure_at-measure-requires c = grind (arith)
