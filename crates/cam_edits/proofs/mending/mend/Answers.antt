use Rattle.std.proofs.Common.{◌∙◌, Some, ap, insert, remove, sym, arith}
use Rattle.std.proofs.lemmas.List.Edits.{length-insert}
use Rattle.cam_edits.proofs.ShiftedItems.{came_within, edited, set_is}
use Rattle.cam_edits.proofs.mending.mend.Goals as goal

pub renew-requires : goal.renew-requires
renew-requires g c =
    let was = c.requires in
    let at = c.in-Some-Some in
    came_within was.before _ at.from at.to (edited c.args.shift _ _ was.edit (Some at.from) (Some at.to) at.is-0 at.is-1)

pub carry-requires : goal.carry-requires
carry-requires g c =
    let was = c.requires in
    let at = c.in-Some-Some in
    came_within was.before _ at.from at.to (edited c.args.shift _ _ was.edit (Some at.from) (Some at.to) at.is-0 at.is-1)

pub insert-requires : goal.insert-requires
insert-requires g c = grind (arith, edited, length-insert)

pub returns-in-Some-Some : goal.returns-in-Some-Some
returns-in-Some-Some g c =
    let was = c.requires in
    let at = c.in-Some-Some in
    let edit = edited c.args.shift _ _ was.edit (Some at.from) (Some at.to) at.is-0 at.is-1 in
    let x = edit.2.0 in
    c.renew.ensures.cells was.before x was.known
    (edit.2.1 ∙ ap (λ k. insert (remove was.before k) at.to x) c.if-from-to.true ∙ sym (set_is was.before at.to x edit.1))

pub returns-in-Some-None : goal.returns-in-Some-None
returns-in-Some-None c = grind (arith)

pub returns-in-Some-Some-2 : goal.returns-in-Some-Some-2
returns-in-Some-Some-2 c = grind (arith)

pub returns-in-None-None : goal.returns-in-None-None
returns-in-None-None c = grind (arith)

pub returns-in-None-Some : goal.returns-in-None-Some
returns-in-None-Some c = grind (arith)
