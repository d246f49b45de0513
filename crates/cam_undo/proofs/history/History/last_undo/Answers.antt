use Rattle.cam_undo.proofs.Lasts.{last_steps, no_last_steps}
use Rattle.cam_undo.proofs.Ties.{undo_leads}
use Rattle.cam_undo.proofs.history.History.last_undo.Goals as goal
use Rattle.circular_buffer.specs.Buffer.{last_item}
use Rattle.std.proofs.Common.{◌∙◌, ◌≡◌, None, Some, ap, sym, arith}
use Rattle.std.specs.Option.{option_copied}

pub returns-in-Some-clause-leads : goal.returns-in-Some-clause-leads
returns-in-Some-clause-leads g c doc tied none =
    let ring : last_item c.self.inside.past.items ≡ Some c.in-Some.group.now =
    sym c.back.ensures ∙ ap option_copied c.in-Some.is in
    let steps : last_item c.args.self.now.past ≡ Some c.deref.result.now =
    rw (← c.self.view_is, c.deref.ensures.value) (last_steps c.self.inside.past.items c.in-Some.group.now ring) in
    undo_leads g.S.Reversible c.args.self.now c.deref.result.now (g.S.Reversible.content doc) steps tied none

pub returns-in-None-clause-kept : goal.returns-in-None-clause-kept
returns-in-None-clause-kept g c =
    let ring : last_item c.self.inside.past.items ≡ None = sym c.back.ensures ∙ ap option_copied c.in-None.is in
    rw (← c.self.view_is) (sym (no_last_steps c.self.inside.past.items ring))

pub returns-in-None-clause-leads : goal.returns-in-None-clause-leads
returns-in-None-clause-leads c = assumption arith
