use Rattle.cam_undo.proofs.Plays.{after_group-snoc, answers-snoc, front_fits, last_fits}
use Rattle.std.proofs.lemmas.Grind.{common_steps}
use Rattle.cam_undo.proofs.groups.play_group.Goals as goal
use Rattle.std.proofs.Common.{◌∙◌, append_assoc, arith, sym}

pub play-requires-clause-fits : goal.play-requires-clause-fits
play-requires-clause-fits g c =
    last_fits g.S.Reversible c.pop.new.self.items c.in-Some.step (g.S.Reversible.content c.loop-step.doc)
    (rw c.in-Some.ensures.items at c.loop-step.invariant.fits)

pub loop-step-preserved : goal.loop-step-preserved
loop-step-preserved g c =
    let r = g.S.Reversible in
    let before = r.content c.loop-step.doc in
    let left = c.pop.new.self.items in
    let step = c.in-Some.step in
    let split = c.in-Some.ensures.items in
    let played = rw c.unwrap.ensures at c.push.ensures.items in
    record {
      content = rw c.play.ensures.content (sym (after_group-snoc r left step before)
          ∙ (rw split at c.loop-step.invariant.content));
      answers = rw (
        c.play.ensures.content,
        played,
        append_assoc,
        c.play.ensures.answer,
        ← answers-snoc r left step before,
        ← split,
      ) c.loop-step.invariant.answers;
      fits = rw c.play.ensures.content (front_fits r left step before (rw split at c.loop-step.invariant.fits));
      room = c.play.ensures.room left (rw split at c.loop-step.invariant.room);
      place = omega (
        arith,
        c.in-Some.ensures.len,
        c.push.ensures.capacity,
        rw c.unwrap.ensures at c.push.ensures.len,
      );
    }

pub loop-step-init : goal.loop-step-init
loop-step-init c = grind (arith)

pub returns-clause-answers : goal.returns-clause-answers
returns-clause-answers c = grind (arith, common_steps)

pub returns-clause-content : goal.returns-clause-content
returns-clause-content c = grind (arith)
