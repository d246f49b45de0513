use Rattle.std.proofs.Common.{sym, ap, ◌∙◌, Ok, arith}
use Rattle.std.proofs.lemmas.Grind.{common_steps}
use Rattle.cam_macros.proofs.OutlineLemmas.{points_end}
use Rattle.cam_macros.proofs.expansion.shapes.points.Goals as goal

pub returns-clause-ok : goal.returns-clause-ok
returns-clause-ok c =
    points_end c.args.unit c.args.turn c.loop-rest.rest.now c.loop-rest.points.items _ c.in_default.len_below
    c.loop-rest.invariant ∙ ap Ok (sym c.from_vec.ensures)

pub loop-rest-preserved : goal.loop-rest-preserved
loop-rest-preserved c = grind (arith, common_steps)

pub returns-in_err-point-clause-fault : goal.returns-in_err-point-clause-fault
returns-in_err-point-clause-fault c = grind (arith)

pub loop-rest-smaller : goal.loop-rest-smaller
loop-rest-smaller c = omega (arith)
