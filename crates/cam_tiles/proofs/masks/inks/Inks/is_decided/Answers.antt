use Rattle.std.proofs.Common.{◌≡◌, ◌+◌, ◌*◌, ◌/◌, ◌%◌, ◌<◌, ap, true, sym, slice_index, subst, ◌∙◌, inl, inr, arith}
use Rattle.std.proofs.lemmas.Bool.{cases_lt, false≢true}
use Rattle.std.proofs.lemmas.List.{get_or_read}
use Rattle.cam_tiles.specs.Machinery.Marks.{is_marked}
use Rattle.cam_tiles.specs.Machinery.Inks.{Inked}
use Rattle.cam_tiles.proofs.InkWords.{marked_at}
use Rattle.cam_tiles.proofs.masks.inks.Inks.is_decided.Goals as goal

pub returns-then-not-are_set : goal.returns-then-not-are_set
returns-then-not-are_set c = (
  (λ off. absurd (false≢true off)),
  (λ all.
      let s = c.self.inside in
      let tile = c.loop-tile.tile in
      absurd (false≢true (sym c.if-not-are_set.true ∙ c.are_set.ensures.1 (λ row i after until small on.
      let run = ((c.run_row-bits.ensures i small).0 on).1 in
      let held = all row (64 * tile + i) (omega (arith, after)) until run.0 run.1 in
      rw c.deref.ensures.value (sym (marked_at s.decided.items tile row i small)
      ∙ subst (λ (k : Inked). is_marked k.decided row (64 * tile + i) ≡ true) (sym c.self.view_is) held))))),
)

pub loop-tile-preserved : goal.loop-tile-preserved
loop-tile-preserved c = λ row column after until from to near. elim (cases_lt (column / 64) c.loop-tile.tile) [
  | inl before ↦ c.loop-tile.invariant row column after until from to before
  | inr late ↦
      (let s = c.self.inside in
      let tile = c.loop-tile.tile in
      let i = column % 64 in
      let there : column / 64 ≡ tile = omega (arith, late, near) in
      let inside : tile < s.tiles =
      omega (arith, ap (λ (k : Inked). k.tiles) c.self.view_is, c.requires.columns, c.loop-tile-test.true, c.div_ceil-end.ensures) in
      let known = c.self.invariant.known tile inside in
      let same = get_or_read s.known.items _ _ (omega (arith, inside, c.self.invariant.each)) c.index.ensures 0 in
      subst (λ (k : Inked). is_marked k.decided row column ≡ true) c.self.view_is
      (elim (cases_lt row (slice_index s.known.items tile)) [
        | inl above ↦ known.1 row column above there
        | inr below ↦
            (let place : 64 * tile + i ≡ column = omega (arith, there) in
            let small : i < 64 = omega arith in
            let bit = (c.run_row-bits.ensures i small).1 (small, (omega (arith, place, from), omega (arith, place, to))) in
            let held = c.are_set.ensures.0 c.if-not-are_set.false row i (omega (arith, after, below, same)) until small bit in
            rw there (rw c.deref.ensures.value at held))
      ]))
]

pub are_set-requires-clause-tile : goal.are_set-requires-clause-tile
are_set-requires-clause-tile c = grind (arith)

pub are_set-requires-clause-within : goal.are_set-requires-clause-within
are_set-requires-clause-within c = grind (arith)
