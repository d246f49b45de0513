use Rattle.std.proofs.Common.{sym, ap, ◌∙◌}
use Rattle.cam_objects.specs.declared.item.Item.{Item}
use Rattle.cam_refusals.specs.Checks.{answer_of, first_holding}
use Rattle.cam_objects.specs.Soundness.{item_checks}
use Rattle.cam_objects.proofs.ItemCopies.{repeat_again}
use Rattle.cam_objects.proofs.layer.Layer.check_item.Goals as goal

pub returns-in-One : goal.returns-in-One
returns-in-One c =
    c.check_object.ensures
    ∙ ap (λ (item : Item). answer_of (first_holding (item_checks c.args.self.now.apertures item))) (sym c.in-One.is)

pub returns-in-Repeat : goal.returns-in-Repeat
returns-in-Repeat c =
    let made = repeat_again _ _ _ _ _ _ _ _ c.in-Repeat.is c.copies-copies.ensures c.as_slice.ensures in
    c.check_repeat.ensures
    ∙ ap (λ (item : Item). answer_of (first_holding (item_checks c.args.self.now.apertures item))) (sym made)
