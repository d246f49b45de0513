use Rattle.std.proofs.Common.{◌≡◌, ◌*◌, ◌<◌, ap, length, sym, subst, arith}
use Rattle.cam_objects.specs.declared.item.Item.{Item}
use Rattle.cam_objects.specs.Weights.{item_count, weight_in}
use Rattle.cam_objects.proofs.Counting.{past_room}
use Rattle.cam_objects.proofs.checks.room.room_behind_item.Goals as goal

pub returns-then-objects-gt-LEAF_LIMIT-clause-past : goal.returns-then-objects-gt-LEAF_LIMIT-clause-past
returns-then-objects-gt-LEAF_LIMIT-clause-past c =
    let w = weight_in c.args.entries.now in
    let r = c.in-Repeat in
    let same : c.from.result * c.from-in-Repeat.result ≡ r.columns * r.rows =
    λ i. c.from.ensures i * c.from-in-Repeat.ensures i in
    subst (λ (item : Item). c.args.room < item_count w item) (sym r.is)
    (past_room w r.objects (r.columns * r.rows) c.args.room (omega (arith, same)) c.requires
    (omega (arith, ap length c.as_slice-objects.ensures)))

pub returns-else-objects-gt-LEAF_LIMIT-clause-fits : goal.returns-else-objects-gt-LEAF_LIMIT-clause-fits
returns-else-objects-gt-LEAF_LIMIT-clause-fits c = grind (arith)

pub returns-else-objects-gt-LEAF_LIMIT-clause-past : goal.returns-else-objects-gt-LEAF_LIMIT-clause-past
returns-else-objects-gt-LEAF_LIMIT-clause-past c = grind (arith)
