use Rattle.cam_undo.proofs.Lasts.{keep_last-room, steps_of-snoc, with_last}
use Rattle.std.proofs.lemmas.Grind.{common_steps}
use Rattle.cam_undo.proofs.Plays.{last_group_fits}
use Rattle.cam_undo.proofs.groups.shift.Goals as goal
use Rattle.cam_undo.specs.Kept.{steps_of}
use Rattle.circular_buffer.specs.Buffer.{last_item}
use Rattle.cam_undo.specs.Machine.{all_but_last}
use Rattle.std.proofs.Common.{◌∙◌, ◌<◌, ◌≡◌, Some, [], ap, arith, length, length-append, refl, sym, ◌++◌, ◌∷◌}

pub play_group-requires-clause-fits : goal.play_group-requires-clause-fits
play_group-requires-clause-fits g c =
    let r = g.S.Reversible in
    let items = c.args.from.now.items in
    let group = c.in-Some-pop_back.group in
    let last : last_item items ≡ Some group = sym c.pop_back.ensures.value ∙ c.in-Some-pop_back.is in
    let split : steps_of items ≡ steps_of (all_but_last items) ++ group.items ∷ [] =
    ap steps_of (with_last items group last) ∙ steps_of-snoc (all_but_last items) group in
    rw c.room.ensures.content (last_group_fits r (steps_of (all_but_last items)) group.items
    (r.content c.args.doc.now) (rw split at c.requires.fits))

pub returns-in-Some-pop_back-clause-shifted : goal.returns-in-Some-pop_back-clause-shifted
returns-in-Some-pop_back-clause-shifted g c =
    let r = g.S.Reversible in
    let items = c.args.from.now.items in
    let group = c.in-Some-pop_back.group in
    let last : last_item items ≡ Some group = sym c.pop_back.ensures.value ∙ c.in-Some-pop_back.is in
    let split : items ≡ all_but_last items ++ group ∷ [] = with_last items group last in
    let place : length c.args.to.now.items < c.args.to.now.capacity =
    omega (arith, c.requires.place, ap length split, length-append (all_but_last items) (group ∷ [])) in
    record {
      group = group.items;
      taken = rw c.pop_back.ensures.items (ap steps_of split ∙ steps_of-snoc (all_but_last items) group);
      put = rw (
        c.push_back.ensures.items,
        keep_last-room c.args.to.now.capacity c.args.to.now.items c.play_group.result place,
        steps_of-snoc c.args.to.now.items c.play_group.result,
        c.play_group.ensures.answers,
        c.room.ensures.content,
      ) refl;
      played = rw (c.play_group.ensures.content, c.room.ensures.content) refl;
    }

pub returns-in-Some-pop_back-clause-count : goal.returns-in-Some-pop_back-clause-count
returns-in-Some-pop_back-clause-count c = grind (arith, common_steps)

pub returns-in_default-pop_back-clause-refused : goal.returns-in_default-pop_back-clause-refused
returns-in_default-pop_back-clause-refused c = assumption arith

pub returns-in_default-pop_back-clause-count : goal.returns-in_default-pop_back-clause-count
returns-in_default-pop_back-clause-count c = grind (arith)

pub returns-in_err-played-clause-capacity : goal.returns-in_err-played-clause-capacity
returns-in_err-played-clause-capacity c = grind (arith)

pub returns-in-Some-pop_back-clause-refused : goal.returns-in-Some-pop_back-clause-refused
returns-in-Some-pop_back-clause-refused c = assumption arith

pub returns-in_default-pop_back-clause-capacity : goal.returns-in_default-pop_back-clause-capacity
returns-in_default-pop_back-clause-capacity c = grind (arith)

pub returns-in-Some-pop_back-clause-capacity : goal.returns-in-Some-pop_back-clause-capacity
returns-in-Some-pop_back-clause-capacity c = grind (arith)

pub returns-in_err-played-clause-count : goal.returns-in_err-played-clause-count
returns-in_err-played-clause-count c = omega (arith)

pub returns-in_default-pop_back-clause-shifted : goal.returns-in_default-pop_back-clause-shifted
returns-in_default-pop_back-clause-shifted c = grind (arith)
