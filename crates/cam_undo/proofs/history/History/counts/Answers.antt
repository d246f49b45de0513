use Rattle.cam_undo.proofs.Lasts.{length-steps_of}
use Rattle.cam_undo.proofs.Ties.{counted_as}
use Rattle.cam_undo.proofs.history.History.counts.Goals as goal
use Rattle.std.proofs.Common.{refl}

pub returns-in-Some-clause-kept : goal.returns-in-Some-clause-kept
returns-in-Some-clause-kept g c =
    rw (
      ← c.self.view_is,
      c.in-Some.is,
      length-steps_of c.self.inside.past.items,
      length-steps_of c.self.inside.future.items,
      c.len-past.ensures.len,
      c.len-future.ensures.len,
      c.len.ensures,
      c.in-Some.group.ok.0,
    ) refl

pub returns-in-Some-clause-counts : goal.returns-in-Some-clause-counts
returns-in-Some-clause-counts g c doc =
    counted_as g.S.Reversible c.args.self.now _ (g.S.Reversible.content doc) (returns-in-Some-clause-kept g c)

pub returns-in-None-clause-kept : goal.returns-in-None-clause-kept
returns-in-None-clause-kept g c =
    rw (
      ← c.self.view_is,
      c.in-None.is,
      length-steps_of c.self.inside.past.items,
      length-steps_of c.self.inside.future.items,
      c.len-past.ensures.len,
      c.len-future.ensures.len,
    ) refl

pub returns-in-None-clause-counts : goal.returns-in-None-clause-counts
returns-in-None-clause-counts g c doc =
    counted_as g.S.Reversible c.args.self.now _ (g.S.Reversible.content doc) (returns-in-None-clause-kept g c)
