use Rattle.std.proofs.Common.{ap, sym, ◌==◌, ◌∙◌, arith}
use Rattle.std.specs.List.{slice_split}
use Rattle.std.proofs.lemmas.Result.{err_from_is_err_and}
use Rattle.cam_macros.specs.Reading.{pieces_between}
use Rattle.cam_macros.proofs.ReadingLemmas.{refused}
use Rattle.cam_words.specs.Bytes.{star}
use Rattle.cam_macros.proofs.aperture_macro.Macro.parse.Goals as goal

pub returns-in_err-parts-clause-fault : goal.returns-in_err-parts-clause-fault
returns-in_err-parts-clause-fault c =
    let p = err_from_is_err_and c.from_residual-in_err-parts.result c.from_residual-in_err-parts.ensures.1 in
    rw (p.1, p.2)
    (refused c.in_err-parts.field-0.0 c.args.text.now c.cut.result.0.now (pieces_between star c.cut.result.1)
    (ap (slice_split (λ b. b == star)) (sym c.in_ok-text.ensures ∙ sym c.as_slice.ensures.value) ∙ c.cut.ensures.all)
    (sym c.is_macro_name.ensures ∙ c.if-not-is_macro_name.false)
    c.in_err-parts.ensures.fault)

pub returns-clause-ok : goal.returns-clause-ok
returns-clause-ok c = grind (arith)

pub returns-then-not-is_macro_name-clause-fault : goal.returns-then-not-is_macro_name-clause-fault
returns-then-not-is_macro_name-clause-fault c = grind (arith)

pub returns-clause-fault : goal.returns-clause-fault
returns-clause-fault c = grind (arith)
