use Rattle.std.proofs.Common.{ap, arith}
use Rattle.cam_objects.specs.Contents.{content_of}
use Rattle.cam_edits.proofs.GerberEdits.{deleted, inserted, no_polarity, polarity_changed, polarity_kept, reordered}
use Rattle.cam_edits.proofs.Refusals.{none_at, read_at}
use Rattle.cam_edits.proofs.judging.check.Goals as goal
use Rattle.cam_edits.specs.Editing.{has_polarity}

pub returns-in-Insert : goal.returns-in-Insert
returns-in-Insert c = grind (arith, inserted)

pub returns-in-Delete : goal.returns-in-Delete
returns-in-Delete c = grind (arith, deleted)

pub returns-in-Reorder : goal.returns-in-Reorder
returns-in-Reorder c = grind (arith, reordered)

pub returns-in-Some-One : goal.returns-in-Some-One
returns-in-Some-One c =
    let layer = c.args.layer.now in
    let x = c.in-Some-One.field-0.now in
    let read = c.in-Some-One.ensures.lookup in
    rw c.in-Polarity.is
    (polarity_changed (content_of layer) c.in-Polarity.k c.in-Polarity.dark x
    (read_at layer.items.items c.deref.result.now c.in-Polarity.k x c.deref.ensures.value read.0 read.1)
    (ap has_polarity c.in-Some-One.field-0-is))

pub returns-in-Some-Repeat : goal.returns-in-Some-Repeat
returns-in-Some-Repeat c =
    let layer = c.args.layer.now in
    let x = c.in-Some-Repeat.field-0.now in
    let read = c.in-Some-Repeat.ensures.lookup in
    rw c.in-Polarity.is
    (polarity_kept (content_of layer) c.in-Polarity.k c.in-Polarity.dark x
    (read_at layer.items.items c.deref.result.now c.in-Polarity.k x c.deref.ensures.value read.0 read.1)
    (ap has_polarity c.in-Some-Repeat.field-0-is))

pub returns-in-None : goal.returns-in-None
returns-in-None c = grind (arith, no_polarity, none_at)
