use Rattle.std.proofs.Common.{◌*◌, refl, ◌∙◌, arith, length}
use Rattle.std.proofs.lemmas.Grind.{common_steps}
use Rattle.std.proofs.lemmas.List.{with_items_is}
use Rattle.cam_tiles.proofs.OpenedWords.{all_open, all_set, zeros}
use Rattle.cam_tiles.proofs.masks.inks.Inks.turn_to.Goals as goal

pub open_dirty-requires-clause-all : goal.open_dirty-requires-clause-all
open_dirty-requires-clause-all c = λ row column low inside.
    rw (c.deref_mut.ensures.value, c.in_ok-refill.ensures) (all_set (64 * length c.args.tiles.now) row column (omega (arith, low, inside)))

pub returns-clause-open : goal.returns-clause-open
returns-clause-open c =
    let words = c.open_dirty.new.decided in
    let now = with_items_is c.refill.new.numbers words (c.open_dirty.ensures.size ∙ c.deref_mut.ensures.len) in
    all_open c.args.columns c.args.rows c.args.tiles.now _ refl
    (λ row column low inside. rw now (c.open_dirty.ensures.each row column low inside))
    (λ w. rw c.in_ok-refill-2.ensures (zeros (64 * length c.args.tiles.now) w))

pub open_dirty-requires-clause-few : goal.open_dirty-requires-clause-few
open_dirty-requires-clause-few c = assumption arith

pub open_dirty-requires-clause-rows : goal.open_dirty-requires-clause-rows
open_dirty-requires-clause-rows c = assumption arith

pub invariant_of-self-2 : goal.invariant_of-self-2
invariant_of-self-2 c = grind (arith, common_steps)

pub open_dirty-requires-clause-size : goal.open_dirty-requires-clause-size
open_dirty-requires-clause-size c = grind (arith, common_steps)
