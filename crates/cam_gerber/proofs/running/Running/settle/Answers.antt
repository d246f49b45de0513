use Rattle.std.proofs.Common.{arith, sym, subst, ◌∙◌}
use Rattle.std.proofs.lemmas.Grind.{common_steps}
use Rattle.cam_gerber.specs.Machinery.WellMade.{IsWellMadeItem}
use Rattle.cam_gerber.proofs.Closing.{closing_well, settles_empty, settles_some}
use Rattle.cam_gerber.proofs.running.Running.settle.Goals as goal

pub returns-then-is_empty : goal.returns-then-is_empty
returns-then-is_empty c = λ past none t.
    settles_empty past c.args.self.now c.in-Some.repeat c.take.new.self t (sym c.in-Some.ensures.value)
    (sym c.is_empty.ensures ∙ c.if-is_empty.true) c.in-Some.ensures.after

pub add_item-requires : goal.add_item-requires
add_item-requires c =
    subst (IsWellMadeItem c.args.self.now.built.layer.apertures) (sym c.into_item.ensures)
    (closing_well c.args.self.now c.in-Some.repeat c.requires (sym c.in-Some.ensures.value) (sym c.is_empty.ensures ∙ c.if-is_empty.false))

pub returns : goal.returns
returns c = λ past none t. grind (arith, settles_some)

pub returns-in_default : goal.returns-in_default
returns-in_default c = grind (arith, common_steps)
