use Rattle.std.proofs.Common.{arith, true, sym, ◌∙◌}
use Rattle.cam_gerber.proofs.Contours.{refused_alike}
use Rattle.cam_gerber.proofs.Settling.{opening_checks, set_many, set_one}
use Rattle.cam_gerber.proofs.running.Running.set_repeat.Goals as goal

pub returns-in-Err : goal.returns-in-Err
returns-in-Err c = λ past none t. grind (arith, refused_alike, opening_checks)

pub returns-then-has_copies : goal.returns-then-has_copies
returns-then-has_copies c = λ past none t.
    set_many past c.args.self.now c.settle.new.self c.in-Some.unit c.args.repeat.now c.new.result t
    (record {
      formed = sym c.has_malformed.ensures ∙ c.if-has_malformed.false;
      known = c.in-Some.is;
      nested = sym c.is_nested.ensures ∙ c.if-is_nested.false;
      outside = c.if-self.false;
    }) (sym c.has_steps_on_board.ensures ∙ c.if-not-has_steps_on_board.false)
    (sym c.has_copies.ensures ∙ c.if-has_copies.true) c.new.ensures (c.in_default-settle.ensures past none t)

pub returns-else-has_copies : goal.returns-else-has_copies
returns-else-has_copies c = λ past none t.
    set_one past c.args.self.now c.settle.new.self c.in-Some.unit c.args.repeat.now t
    (record {
      formed = sym c.has_malformed.ensures ∙ c.if-has_malformed.false;
      known = c.in-Some.is;
      nested = sym c.is_nested.ensures ∙ c.if-is_nested.false;
      outside = c.if-self.false;
    }) (sym c.has_steps_on_board.ensures ∙ c.if-not-has_steps_on_board.false)
    (sym c.has_copies.ensures ∙ c.if-has_copies.false) (c.in_default-settle.ensures past none t)
