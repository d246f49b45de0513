use Rattle.std.proofs.Common.{arith}
use Rattle.std.proofs.lemmas.Result.{err_from_is_err_and}
use Rattle.cam_script.proofs.RefusedMemory.{insert_refused}
use Rattle.cam_script.proofs.edits.insert_change.Goals as goal

pub returns-in_err-item : goal.returns-in_err-item
returns-in_err-item c =
    let told = err_from_is_err_and c.from_residual.result c.from_residual.ensures.1 in
    rw (told.1, told.2)
    (insert_refused c.args.words.now c.in-Some.k.now c.in-Some.form.now c.next_two.new.self c.in-Some-place.k _
    c.in-Some.ensures.some c.in-Some-place.ensures c.in_err-item.ensures)

pub returns-in_default : goal.returns-in_default
returns-in_default c = grind (arith)

pub returns : goal.returns
returns c = grind (arith)

pub returns-in_default-place : goal.returns-in_default-place
returns-in_default-place c = grind (arith)
