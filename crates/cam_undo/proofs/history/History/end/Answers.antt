use Rattle.cam_undo.proofs.Lasts.{steps_of-kept, steps_of-none}
use Rattle.std.proofs.lemmas.Grind.{common_steps}
use Rattle.cam_undo.proofs.Ties.{ended_kept, ended_state_as, ended_tied_as, keeps}
use Rattle.cam_undo.proofs.history.History.end.Given.{Over}
use Rattle.cam_undo.proofs.history.History.end.Goals as goal
use Rattle.cam_undo.proofs.history.History.end.Goals.{After-keep}
use Rattle.cam_undo.specs.Kept.{steps_of}
use Rattle.cam_undo.specs.Machine.{ended}
use Rattle.cam_undo.specs.Timelines.{timeline_at, with_group_ended}
use Rattle.std.proofs.Common.{◌∙◌, ◌<◌, ◌≡◌, Some, [], ap, arith, length, refl, sym}

edited : (g : Over) (c : After-keep g) → 0 < length c.in-Some.group.items
edited g c = omega (arith, c.if-len-gt0.true, c.len.ensures, c.in-Some.group.ok.0)

taken : (g : Over) (c : After-keep g) → c.self.inside.group ≡ Some c.in-Some.group
taken g c = sym c.take.ensures.value ∙ c.in-Some.is

no_future : (g : Over) (c : After-keep g) → steps_of c.self.inside.future.items ≡ []
no_future g c =
    steps_of-none c.self.inside.future.items (c.self.invariant.2 (rw (taken g c) (edited g c)))

same : (g : Over) (c : After-keep g)
    → keeps c.self.inside.past.capacity (steps_of c.self.inside.past.items) (steps_of c.self.inside.future.items)
    (Some c.in-Some.group.items) ≡ c.args.self.now
same g c = rw (← c.self.view_is, taken g c) refl

pub returns-then-len-gt0-clause-kept : goal.returns-then-len-gt0-clause-kept
returns-then-len-gt0-clause-kept g c =
    rw (
      c.take.ensures.after,
      c.keep.ensures,
      steps_of-kept c.self.inside.past.capacity c.self.inside.past.items c.in-Some.group,
    )
    (ended_kept g.S.Reversible c.self.inside.past.capacity (steps_of c.self.inside.past.items) (steps_of c.self.inside.future.items)
    c.in-Some.group.items (edited g c) ∙ ap (λ kept. with_group_ended g.S.Reversible kept) (same g c))

pub returns-then-len-gt0-clause-tied : goal.returns-then-len-gt0-clause-tied
returns-then-len-gt0-clause-tied g c doc tied =
    rw (
      c.take.ensures.after,
      c.keep.ensures,
      steps_of-kept c.self.inside.past.capacity c.self.inside.past.items c.in-Some.group,
    )
    (ended_tied_as g.S.Reversible c.self.inside.past.capacity (steps_of c.self.inside.past.items)
    (steps_of c.self.inside.future.items) c.in-Some.group.items (g.S.Reversible.content doc) (no_future g c)
    (rw (← c.self.view_is, taken g c) at tied))

pub returns-then-len-gt0-clause-ended : goal.returns-then-len-gt0-clause-ended
returns-then-len-gt0-clause-ended g c doc =
    rw (
      c.take.ensures.after,
      c.keep.ensures,
      steps_of-kept c.self.inside.past.capacity c.self.inside.past.items c.in-Some.group,
    )
    (ended_state_as g.S.Reversible c.self.inside.past.capacity (steps_of c.self.inside.past.items)
    (steps_of c.self.inside.future.items) c.in-Some.group.items (g.S.Reversible.content doc) (no_future g c)
    (edited g c)
    ∙ ap (λ kept. ended kept.depth (timeline_at g.S.Reversible kept (g.S.Reversible.content doc))) (same g c))

pub returns-else-len-gt0-clause-ended : goal.returns-else-len-gt0-clause-ended
returns-else-len-gt0-clause-ended c = grind (arith, common_steps)

pub returns-in_default-clause-refused : goal.returns-in_default-clause-refused
returns-in_default-clause-refused c = grind (arith)

pub returns-in_default-clause-tied : goal.returns-in_default-clause-tied
returns-in_default-clause-tied c = grind (arith)

pub returns-else-len-gt0-clause-tied : goal.returns-else-len-gt0-clause-tied
returns-else-len-gt0-clause-tied c = grind (arith, common_steps)

pub returns-else-len-gt0-clause-kept : goal.returns-else-len-gt0-clause-kept
returns-else-len-gt0-clause-kept c = grind (arith)

pub invariant_of-self-then-len-gt0 : goal.invariant_of-self-then-len-gt0
invariant_of-self-then-len-gt0 c = grind (arith, common_steps)

pub invariant_of-self-else-len-gt0 : goal.invariant_of-self-else-len-gt0
invariant_of-self-else-len-gt0 c = grind (arith)
