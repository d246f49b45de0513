use Rattle.std.proofs.Common.{arith, ap, sym, ◌∙◌, subst}
use Rattle.std.proofs.lemmas.Grind.{common_steps}
use Rattle.std.proofs.lemmas.Result.{err_from_is_err_and}
use Rattle.cam_macros.specs.Reading.{pieces_between, parts_spoken}
use Rattle.cam_macros.proofs.ReadingLemmas.{ArePartsBefore, parts_end, parts_fault}
use Rattle.cam_words.specs.Bytes.{star}
use Rattle.cam_macros.proofs.parsing.parts.parts_of.Goals as goal

pub returns-in_err-parse-clause-fault : goal.returns-in_err-parse-clause-fault
returns-in_err-parse-clause-fault c =
    let p = err_from_is_err_and c.from_residual.result c.from_residual.ensures.1 in
    let all = pieces_between star c.args.texts in
    rw (p.1, p.2)
    (parts_fault c.in_err-parse.field-0.0 c.cut.result.0.now (pieces_between star c.cut.result.1) all
    c.loop-rest.items.items
    (sym c.is_silent.ensures ∙ c.if-not-is_silent.true)
    (subst (λ l. ArePartsBefore (parts_spoken l) (parts_spoken all) c.loop-rest.items.items)
    (ap (pieces_between star) c.in-Some.is ∙ c.cut.ensures.all) c.loop-rest.invariant)
    c.in_err-parse.ensures.fault)

pub returns-clause-ok : goal.returns-clause-ok
returns-clause-ok c = grind (arith, parts_end, ArePartsBefore)

pub loop-rest-smaller-in_ok-push : goal.loop-rest-smaller-in_ok-push
loop-rest-smaller-in_ok-push c = grind (arith)

pub loop-rest-smaller : goal.loop-rest-smaller
loop-rest-smaller c = grind (arith)

pub loop-rest-preserved-in_ok-push : goal.loop-rest-preserved-in_ok-push
loop-rest-preserved-in_ok-push c = grind (arith, common_steps)

pub loop-rest-preserved : goal.loop-rest-preserved
loop-rest-preserved c = grind (arith)

pub loop-rest-init : goal.loop-rest-init
loop-rest-init c = grind (arith)
