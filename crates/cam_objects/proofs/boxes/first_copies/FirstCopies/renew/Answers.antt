use Rattle.std.proofs.Common.{ap, drop, length, sym, subst, ◌∙◌, arith}
use Rattle.std.proofs.lemmas.List.{take_at}
use Rattle.cam_objects.specs.Cells.{AreFirstCopiesOf}
use Rattle.cam_objects.proofs.KeptCopies.{all_renewed, none_renewed, one_renewed}
use Rattle.cam_objects.proofs.boxes.first_copies.FirstCopies.renew.Goals as goal

pub loop-first-init : goal.loop-first-init
loop-first-init c = λ before item known within is.
    none_renewed c.args.layer.now.apertures before c.args.layer.now.items.items c.deref_mut-first-items.result.now
    (subst (AreFirstCopiesOf c.args.layer.now.apertures before) (sym (c.deref_mut-first-items.ensures.value ∙ c.self.view_is)) known)

pub loop-first-preserved : goal.loop-first-preserved
loop-first-preserved c = λ before item known within is.
    let renewed = c.renew.ensures in
    one_renewed c.args.layer.now.apertures before c.args.layer.now.items.items c.args.place c.loop-first.first-items
    c.loop-first.first-index (c.loop-first.invariant before item known within is) c.first-item.result c.renew.new.self item
    within is (omega (arith, c.loop-first-test.true, c.loop-first.auto.first-items)) renewed.there renewed.elsewhere renewed.place

pub returns : goal.returns
returns c = λ before item known within is.
    let entries = c.args.layer.now.apertures in
    let items = c.args.layer.now.items.items in
    let found = c.loop-first.first-items in
    let old = c.self.inside.found in
    subst (AreFirstCopiesOf entries items)
    (sym (take_at found (drop (length found) old.items) old.len
    (omega (arith, c.loop-first.auto.first-items, ap length c.deref_mut-first-items.ensures.value, old.ok.0))))
    (all_renewed entries before items found c.loop-first.first-index
    (omega (arith, c.loop-first-test.false, c.loop-first.auto.first-items)) (c.loop-first.invariant before item known within is))
