use Rattle.std.proofs.Common.{arith, ◌∙◌, sym}
use Rattle.std.proofs.lemmas.Bool.{true≢false}
use Rattle.cam_objects.specs.Contents.{drill_content_of}
use Rattle.cam_edits.proofs.DrillEdits.{moved, moved_off, moved_too_far, nothing_moved}
use Rattle.cam_edits.proofs.Refusals.{none_at, read_at}
use Rattle.cam_edits.proofs.drill_judging.check_move.Goals as goal

pub returns-in_default : goal.returns-in_default
returns-in_default c = grind (arith, nothing_moved, none_at)

pub returns-then-not-is_move : goal.returns-then-not-is_move
returns-then-not-is_move c =
    let layer = c.args.layer.now in
    let x = c.in-Some.item.now in
    let read = c.in-Some.ensures.lookup in
    moved_too_far (drill_content_of layer) c.args.k c.args.by x
    (read_at layer.items.items c.deref.result.now c.args.k x c.deref.ensures.value read.0 read.1) c.requires
    (λ near. true≢false (sym (c.is_move.ensures.1 near) ∙ c.if-not-is_move.true))

pub returns-then-not-can_move : goal.returns-then-not-can_move
returns-then-not-can_move c =
    let layer = c.args.layer.now in
    let x = c.in-Some.item.now in
    let read = c.in-Some.ensures.lookup in
    moved_off (drill_content_of layer) c.args.k c.args.by x
    (read_at layer.items.items c.deref.result.now c.args.k x c.deref.ensures.value read.0 read.1) c.can_move.result
    c.can_move.ensures c.if-not-can_move.true

pub returns : goal.returns
returns c =
    let layer = c.args.layer.now in
    let x = c.in-Some.item.now in
    let read = c.in-Some.ensures.lookup in
    moved (drill_content_of layer) c.args.k c.args.by x
    (read_at layer.items.items c.deref.result.now c.args.k x c.deref.ensures.value read.0 read.1) c.can_move.result
    c.can_move.ensures c.if-not-can_move.false

pub can_move-requires-clause-by : goal.can_move-requires-clause-by
can_move-requires-clause-by c = grind (arith)
