use Rattle.cam_undo.proofs.Lasts.{closed, filled, length-steps_of}
use Rattle.std.proofs.lemmas.Grind.{common_steps}
use Rattle.cam_undo.proofs.Ties.{keeps, may_undo_as, undone_kept, undone_state, undone_tied}
use Rattle.cam_undo.proofs.history.History.undo.Given.{Over}
use Rattle.cam_undo.proofs.history.History.undo.Goals as goal
use Rattle.cam_undo.proofs.history.History.undo.Goals.{In_ok-shift}
use Rattle.cam_undo.specs.Kept.{steps_of}
use Rattle.cam_undo.specs.Machine.{undo_fault, undone}
use Rattle.cam_undo.specs.Timelines.{Fits, timeline_at, with_last_undone}
use Rattle.cam_undo.specs.declared.fault.HistoryFault.TheVariants.{Memory}
use Rattle.std.proofs.Common.{◌∙◌, ◌<◌, ◌≡◌, IfErr, None, ap, length, refl, rules, subst, sym, arith}

none : (g : Over) (c : In_ok-shift g) → c.self.inside.group ≡ None
none g c = closed c.self.inside.group (sym c.is_some.ensures ∙ c.if-is_some.false)

same : (g : Over) (c : In_ok-shift g)
    → keeps c.self.inside.past.capacity (steps_of c.self.inside.past.items) (steps_of c.self.inside.future.items) None
    ≡ c.args.self.now
same g c = rw (← c.self.view_is, none g c) refl

tied : (g : Over) (c : In_ok-shift g) → Fits g.S.Reversible
    (keeps c.self.inside.past.capacity (steps_of c.self.inside.past.items) (steps_of c.self.inside.future.items) None)
    (g.S.Reversible.content c.args.doc.now)
tied g c =
    subst (λ kept. Fits g.S.Reversible kept (g.S.Reversible.content c.args.doc.now)) (sym (same g c)) c.requires.tied

pub returns-in_err-shift-clause-fault : goal.returns-in_err-shift-clause-fault
returns-in_err-shift-clause-fault g c =
    let none : c.self.inside.group ≡ None = closed c.self.inside.group (sym c.is_some.ensures ∙ c.if-is_some.false) in
    let some : 0 < length c.self.inside.past.items =
    filled (length c.self.inside.past.items) (sym c.is_empty.ensures ∙ c.if-is_empty.false) in
    let allowed : undo_fault (timeline_at g.S.Reversible c.args.self.now (g.S.Reversible.content c.args.doc.now)) ≡ None =
    may_undo_as g.S.Reversible c.args.self.now c.self.inside.past.capacity (steps_of c.self.inside.past.items)
    (steps_of c.self.inside.future.items) (g.S.Reversible.content c.args.doc.now)
    (rw (← c.self.view_is, none) refl) (rw (length-steps_of c.self.inside.past.items) some) in
    let memory : IfErr c.from_residual.result (λ fault. fault ≡ Memory) = search rules in
    rw allowed memory

pub returns-clause-allowed : goal.returns-clause-allowed
returns-clause-allowed g c =
    let some : 0 < length c.self.inside.past.items =
    filled (length c.self.inside.past.items) (sym c.is_empty.ensures ∙ c.if-is_empty.false) in
    may_undo_as g.S.Reversible c.args.self.now c.self.inside.past.capacity (steps_of c.self.inside.past.items)
    (steps_of c.self.inside.future.items) (g.S.Reversible.content c.args.doc.now)
    (same g c) (rw (length-steps_of c.self.inside.past.items) some)

pub returns-clause-kept : goal.returns-clause-kept
returns-clause-kept g c =
    rw (c.shift.ensures.capacity.0, none g c)
    (undone_kept g.S.Reversible g.met.S.Reversible.answer_fits g.met.S.Reversible.gives_back_content
    c.self.inside.past.capacity (steps_of c.self.inside.past.items) (steps_of c.self.inside.future.items)
    (steps_of c.shift.new.from.items) (steps_of c.shift.new.to.items)
    (g.S.Reversible.content c.args.doc.now) (g.S.Reversible.content c.shift.new.doc) c.in_ok-shift.ensures.shifted
    ∙ ap (λ kept. with_last_undone g.S.Reversible (g.S.Reversible.content c.args.doc.now) kept) (same g c))

pub returns-clause-tied : goal.returns-clause-tied
returns-clause-tied g c =
    rw (c.shift.ensures.capacity.0, none g c)
    (undone_tied g.S.Reversible g.met.S.Reversible.answer_fits g.met.S.Reversible.gives_back_content
    c.self.inside.past.capacity (steps_of c.self.inside.past.items) (steps_of c.self.inside.future.items)
    (steps_of c.shift.new.from.items) (steps_of c.shift.new.to.items)
    (g.S.Reversible.content c.args.doc.now) (g.S.Reversible.content c.shift.new.doc) c.in_ok-shift.ensures.shifted
    (tied g c))

pub returns-clause-undone : goal.returns-clause-undone
returns-clause-undone g c =
    rw (none g c)
    (undone_state g.S.Reversible g.met.S.Reversible.answer_fits g.met.S.Reversible.gives_back_content
    c.self.inside.past.capacity (steps_of c.self.inside.past.items) (steps_of c.self.inside.future.items)
    (steps_of c.shift.new.from.items) (steps_of c.shift.new.to.items)
    (g.S.Reversible.content c.args.doc.now) (g.S.Reversible.content c.shift.new.doc) c.in_ok-shift.ensures.shifted
    (tied g c)
    ∙ ap (λ kept. undone (timeline_at g.S.Reversible kept (g.S.Reversible.content c.args.doc.now))) (same g c))

pub returns-then-is_empty-clause-refused : goal.returns-then-is_empty-clause-refused
returns-then-is_empty-clause-refused c = grind (arith)

pub shift-requires-clause-some : goal.shift-requires-clause-some
shift-requires-clause-some c = grind (arith)

pub returns-then-is_some-clause-fault : goal.returns-then-is_some-clause-fault
returns-then-is_some-clause-fault c = grind (arith)

pub returns-then-is_empty-clause-fault : goal.returns-then-is_empty-clause-fault
returns-then-is_empty-clause-fault c = grind (arith, common_steps)

pub invariant_of-self : goal.invariant_of-self
invariant_of-self c = grind (arith)

pub returns-clause-fault : goal.returns-clause-fault
returns-clause-fault c = assumption arith

pub returns-clause-refused : goal.returns-clause-refused
returns-clause-refused c = assumption arith

pub shift-requires-clause-fits : goal.shift-requires-clause-fits
shift-requires-clause-fits c = grind (arith)

pub invariant_of-self-2 : goal.invariant_of-self-2
invariant_of-self-2 c = grind (arith)
