use Rattle.std.proofs.Common.{◌≡◌, ◌<◌, List, insert, length, remove}
use Rattle.cam_objects.specs.Cells.{AreFirstCopiesOf}
use Rattle.cam_objects.specs.declared.item.Item.{Item}
use Rattle.cam_objects.proofs.KeptCopies.{AreRenewedUntil}
use Rattle.cam_objects.proofs.boxes.first_copies.FirstCopies.renew.Given as goal

-- those so far are of the items as they are
abbrev pub invariant-loop-first : goal.invariant-loop-first
invariant-loop-first l =
    let items = l.layer.items.items in
    (before : List Item) (item : Item) → AreFirstCopiesOf l.layer.apertures before l.fn.self → l.place < length before
    → items ≡ insert (remove before l.place) l.place item
    → AreRenewedUntil l.layer.apertures before items l.first-index l.first-items
