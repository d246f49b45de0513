use Rattle.std.proofs.Common.{◌≡◌, true, arith}
use Rattle.std.proofs.lemmas.Result.{err_from_is_err_and}
use Rattle.cam_script.specs.Words.{is_name}
use Rattle.cam_script.proofs.RefusedMemory.{edit_made, edit_refused, edit_starved}
use Rattle.cam_script.proofs.edits.edit.Goals as goal

pub returns-in_err-change : goal.returns-in_err-change
returns-in_err-change c =
    let told = err_from_is_err_and c.from_residual.result c.from_residual.ensures.1 in
    let named : is_name c.in-Some.name.now ≡ true = cc in
    rw (told.1, told.2)
    (edit_refused c.args.verb.now c.args.words.now c.in-Some.name.now c.next.new.self
    c.in-Some.ensures.some named _ c.in_err-change.ensures)

pub returns-in_err-name : goal.returns-in_err-name
returns-in_err-name c =
    let told = err_from_is_err_and c.from_residual-in_err-name.result c.from_residual-in_err-name.ensures.1 in
    let named : is_name c.in-Some.name.now ≡ true = cc in
    rw (told.1, told.2, c.in_err-name.ensures.err)
    (edit_starved c.args.verb.now c.args.words.now c.in-Some.name.now c.next.new.self
    c.in-Some.ensures.some named c.in_ok-change.change c.in_ok-change.ensures)

pub returns : goal.returns
returns c =
    let named : is_name c.in-Some.name.now ≡ true = cc in
    rw (c.from.ensures, c.in_ok-name.ensures.ok)
    (edit_made c.args.verb.now c.args.words.now c.in-Some.name.now c.next.new.self
    c.in-Some.ensures.some named c.in_ok-change.change c.in_ok-change.ensures)

pub returns-in_default : goal.returns-in_default
returns-in_default c = grind (arith)

pub returns-then-not-is_name : goal.returns-then-not-is_name
returns-then-not-is_name c = grind (arith)
