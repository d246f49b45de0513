use Rattle.std.proofs.Common.{arith}
use Rattle.std.proofs.lemmas.Grind.{common_steps}
use Rattle.cam_tiles.proofs.OpenedWords.{next_opened, none_opened}
use Rattle.cam_tiles.proofs.masks.inks.open.Goals as goal

pub loop-row-init : goal.loop-row-init
loop-row-init c = none_opened c.args.tile c.args.columns c.args.decided.now

pub loop-row-preserved : goal.loop-row-preserved
loop-row-preserved c =
    next_opened c.args.tile c.args.columns c.loop-row.row c.run_row-bits.result _ _ c.args.decided.now c.loop-row.decided
    c.loop-row.invariant (omega arith) (omega arith) (omega arith) (omega arith) (omega arith) c.run_row-bits.ensures

pub returns-clause-each : goal.returns-clause-each
returns-clause-each c = grind (arith, common_steps)
