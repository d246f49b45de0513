use Rattle.std.proofs.Common.{arith, sym, ◌∙◌}
use Rattle.cam_gerber.proofs.Obedience.{operates, leads}
use Rattle.cam_gerber.proofs.running.Running.operate.Goals as goal

pub returns-in-Some : goal.returns-in-Some
returns-in-Some c =
    λ past none t. leads past c.args.operation.now c.in-Some.code (sym (c.leading_fault.ensures past t.modal) ∙ c.in-Some.is)

pub returns-in-Plot-true : goal.returns-in-Plot-true
returns-in-Plot-true c = λ past none t. grind (arith, operates)

pub returns-in-Plot-false : goal.returns-in-Plot-false
returns-in-Plot-false c = λ past none t. grind (arith, operates)

pub returns-in-Move-true : goal.returns-in-Move-true
returns-in-Move-true c = grind (arith)

pub returns-in-Flash-false : goal.returns-in-Flash-false
returns-in-Flash-false c = grind (arith)

pub returns-in-Move-false : goal.returns-in-Move-false
returns-in-Move-false c = grind (arith)
