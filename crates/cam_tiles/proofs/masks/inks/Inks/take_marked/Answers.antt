use Rattle.std.proofs.Common.{◌*◌, ◌-◌, take, ap, arith}
use Rattle.std.proofs.lemmas.Grind.{common_steps}
use Rattle.cam_tiles.specs.Machinery.Inks.{Inked}
use Rattle.cam_tiles.proofs.TakenInks.{AreWritten, still_inked, takes_marks, words_taken}
use Rattle.cam_tiles.proofs.masks.inks.Inks.take_marked.Goals as goal

written : (c : goal.After-self-2-1)
    → AreWritten c.self.inside (64 * c.args.first) (64 * c.args.end)
    (take (64 * (c.args.end - c.args.first)) c.args.marks.now) c.take_words.new.decided c.take_words.new.dark
    c.deref_mut.result.now c.deref_mut-2.result.now c.args.dark
written c = record {
  some = omega (arith, c.requires.some);
  within = omega (arith, ap (λ (k : Inked). k.tiles) c.self.view_is, c.requires.end);
  lent = c.deref_mut.ensures.value;
  lent_dark = c.deref_mut-2.ensures.value;
  size = c.take_words.ensures.decided;
  size_dark = c.take_words.ensures.dark;
  full = c.deref_mut.ensures.len;
  full_dark = c.deref_mut-2.ensures.len;
  each = c.take_words.ensures.each;
}

pub invariant_of-self : goal.invariant_of-self
invariant_of-self c = still_inked _ _ _ _ _ _ _ _ _ (written c) c.self.invariant

pub returns : goal.returns
returns c =
    takes_marks c.args.first c.args.end c.args.marks.now c.args.dark _ _ c.args.self.now (omega (arith, c.requires.some))
    c.self.view_is (words_taken _ _ _ _ _ _ _ _ _ (written c) c.self.invariant)

pub take_words-requires-clause-bits : goal.take_words-requires-clause-bits
take_words-requires-clause-bits c = grind (arith, common_steps)

pub slice_bounds-take_words-end-3 : goal.slice_bounds-take_words-end-3
slice_bounds-take_words-end-3 c = grind (arith, common_steps)
