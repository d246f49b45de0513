use Rattle.std.proofs.Common.{arith}
use Rattle.std.proofs.lemmas.Grind.{common_steps}
use Rattle.cam_tiles.proofs.WipedTiles.{next_row_wiped}
use Rattle.cam_tiles.proofs.touch.wipe.Goals as goal

pub loop-row-preserved : goal.loop-row-preserved
loop-row-preserved c = record {
  each = λ k. next_row_wiped c.args.columns c.args.rows.first c.loop-row.row c.args.across k _ _ _
      c.requires.wide c.requires.inside (omega arith) (c.wipe_row-wiped.ensures.each k) (c.loop-row.invariant.each k);
  count = omega (arith, c.wipe_row-wiped.ensures.count, c.loop-row.invariant.count);
}

pub overflow_add-wiped : goal.overflow_add-wiped
overflow_add-wiped c = grind (arith, common_steps)

pub wipe_row-wiped-requires-clause-within : goal.wipe_row-wiped-requires-clause-within
wipe_row-wiped-requires-clause-within c = grind (arith)
