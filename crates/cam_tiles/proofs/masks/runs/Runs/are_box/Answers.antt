use Rattle.std.proofs.Common.{arith}
use Rattle.std.proofs.lemmas.Bool.{cases_eq, false≢true}
use Rattle.cam_tiles.proofs.masks.runs.Runs.are_box.Goals as goal

pub loop-row-init : goal.loop-row-init
loop-row-init c = λ row after before. absurd (omega (arith, after, before))

pub loop-row-preserved : goal.loop-row-preserved
loop-row-preserved c = λ row after before. grind (arith, cases_eq)

pub returns-then-other-first : goal.returns-then-other-first
returns-then-other-first c = grind (arith, false≢true)

pub returns : goal.returns
returns c = grind arith
