use Rattle.cam_undo.proofs.Lasts.{steps_of-kept}
use Rattle.std.proofs.lemmas.Grind.{common_steps}
use Rattle.cam_undo.proofs.Ties.{accepted_state, accepted_tied, keeps}
use Rattle.cam_undo.proofs.history.History.accept.Goals as goal
use Rattle.cam_undo.specs.Kept.{steps_of}
use Rattle.cam_undo.specs.Timelines.{with_step}
use Rattle.std.proofs.Common.{◌≡◌, None, Some, ap, refl, arith}

pub returns-in-Some-clause-kept : goal.returns-in-Some-clause-kept
returns-in-Some-clause-kept g c =
    let same : keeps c.self.inside.past.capacity (steps_of c.self.inside.past.items)
    (steps_of c.self.inside.future.items) (Some c.in-Some.group.items) ≡ c.args.self.now =
    rw (← c.self.view_is, c.in-Some.is) refl in
    rw (c.clear.ensures, c.in_ok-play_onto.ensures.answer)
    (ap (λ kept. with_step g.S.Reversible c.args.step (g.S.Reversible.content c.args.doc.now) kept) same)

pub returns-in-Some-clause-tied : goal.returns-in-Some-clause-tied
returns-in-Some-clause-tied g c =
    accepted_tied g.S.Reversible g.met.S.Reversible.answer_fits g.met.S.Reversible.gives_back_content
    c.args.self.now _ c.args.step (g.S.Reversible.content c.args.doc.now) (g.S.Reversible.content c.play_onto.new.doc)
    (returns-in-Some-clause-kept g c) c.in_ok-play_onto.ensures.content c.requires.fits c.requires.tied

pub returns-in-Some-clause-accepted : goal.returns-in-Some-clause-accepted
returns-in-Some-clause-accepted g c =
    accepted_state g.S.Reversible g.met.S.Reversible.answer_fits g.met.S.Reversible.gives_back_content
    c.args.self.now _ c.args.step (g.S.Reversible.content c.args.doc.now) (g.S.Reversible.content c.play_onto.new.doc)
    (returns-in-Some-clause-kept g c) c.in_ok-play_onto.ensures.content c.requires.fits

pub returns-clause-kept : goal.returns-clause-kept
returns-clause-kept g c =
    let same : keeps c.self.inside.past.capacity (steps_of c.self.inside.past.items)
    (steps_of c.self.inside.future.items) None ≡ c.args.self.now =
    rw (← c.self.view_is, c.in_default.is) refl in
    rw (
      c.clear-2.ensures,
      c.keep.ensures,
      c.in_default.is,
      steps_of-kept c.self.inside.past.capacity c.self.inside.past.items c.play_onto-2.new.group,
      c.in_ok-play_onto-2.ensures.answer,
      c.new-group.ensures.items,
    )
    (ap (λ kept. with_step g.S.Reversible c.args.step (g.S.Reversible.content c.args.doc.now) kept) same)

pub returns-clause-tied : goal.returns-clause-tied
returns-clause-tied g c =
    accepted_tied g.S.Reversible g.met.S.Reversible.answer_fits g.met.S.Reversible.gives_back_content
    c.args.self.now _ c.args.step (g.S.Reversible.content c.args.doc.now) (g.S.Reversible.content c.play_onto-2.new.doc)
    (returns-clause-kept g c) c.in_ok-play_onto-2.ensures.content c.requires.fits c.requires.tied

pub returns-clause-accepted : goal.returns-clause-accepted
returns-clause-accepted g c =
    accepted_state g.S.Reversible g.met.S.Reversible.answer_fits g.met.S.Reversible.gives_back_content
    c.args.self.now _ c.args.step (g.S.Reversible.content c.args.doc.now) (g.S.Reversible.content c.play_onto-2.new.doc)
    (returns-clause-kept g c) c.in_ok-play_onto-2.ensures.content c.requires.fits

pub returns-clause-depth : goal.returns-clause-depth
returns-clause-depth c = grind (arith)

pub invariant_of-self-in_err-play_onto-2 : goal.invariant_of-self-in_err-play_onto-2
invariant_of-self-in_err-play_onto-2 c = assumption arith

pub returns-in-Some-clause-depth : goal.returns-in-Some-clause-depth
returns-in-Some-clause-depth c = grind (arith)

pub invariant_of-self-2 : goal.invariant_of-self-2
invariant_of-self-2 c = grind (arith, common_steps)
