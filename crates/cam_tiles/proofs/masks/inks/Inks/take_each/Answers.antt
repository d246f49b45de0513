use Rattle.std.proofs.Common.{arith}
use Rattle.std.proofs.lemmas.Grind.{common_steps}
use Rattle.cam_tiles.proofs.LentInks.{few_tiles, next_lent, others_long, still_inked, takes_all, words_long}
use Rattle.cam_tiles.proofs.masks.inks.Inks.take_each.Goals as goal

pub take_rows-requires-clause-few : goal.take_rows-requires-clause-few
take_rows-requires-clause-few c = few_tiles _ c.self.invariant _ _ c.deref.ensures.value c.deref_mut.ensures.value

pub take_rows-requires-clause-decided : goal.take_rows-requires-clause-decided
take_rows-requires-clause-decided c = words_long _ c.self.invariant _ _ c.deref.ensures.value c.deref_mut.ensures.value

pub take_rows-requires-clause-dark : goal.take_rows-requires-clause-dark
take_rows-requires-clause-dark c =
    others_long _ c.self.invariant _ _ c.deref.ensures.value c.deref_mut.ensures.value _ c.deref_mut-2.ensures.value

pub take_rows-requires-clause-known : goal.take_rows-requires-clause-known
take_rows-requires-clause-known c = next_lent _ c.self.invariant _ _ c.deref.ensures.value c.deref_mut.ensures.value

pub invariant_of-self : goal.invariant_of-self
invariant_of-self c =
    still_inked _ c.self.invariant _ _ c.deref.ensures.value c.deref_mut.ensures.value _ c.deref_mut-2.ensures.value _ _ _ _
    c.deref_mut.ensures.len c.deref_mut-2.ensures.len c.take_rows.auto.decided c.take_rows.auto.dark c.take_rows.ensures

pub returns : goal.returns
returns c =
    takes_all _ c.self.invariant _ _ c.deref.ensures.value c.deref_mut.ensures.value _ c.deref_mut-2.ensures.value _ _ _ _
    c.deref_mut.ensures.len c.deref_mut-2.ensures.len c.take_rows.auto.decided c.take_rows.auto.dark c.take_rows.ensures
    _ c.self.view_is

pub slice_bounds-next-end : goal.slice_bounds-next-end
slice_bounds-next-end c = grind (arith, common_steps)
