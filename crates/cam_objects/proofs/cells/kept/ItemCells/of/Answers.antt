use Rattle.cam_objects.proofs.cells.kept.ItemCells.of.Goals as goal

pub returns-in-Err-clause-cells : goal.returns-in-Err-clause-cells
returns-in-Err-clause-cells g c = c.none.ensures (g.B.BoxedItems.boxes c.args.items.now)
