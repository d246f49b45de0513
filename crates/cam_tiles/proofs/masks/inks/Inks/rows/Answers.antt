use Rattle.std.proofs.Common.{◌≡◌, ◌&&◌, ◌+◌, ◌*◌, ◌/◌, ◌%◌, get_or-set_other, get_or-set_same, subst, ◌∙◌, inl, inr, slice_index, arith}
use Rattle.std.proofs.Math.ListN.{length-set}
use Rattle.std.proofs.lemmas.Bool.{cases_eq}
use Rattle.cam_tiles.specs.Machinery.Marks.{is_set}
use Rattle.cam_tiles.specs.Machinery.Inks.{Inked}
use Rattle.cam_tiles.proofs.InkWords.{set_in_both, tile_part}
use Rattle.cam_tiles.proofs.masks.inks.Inks.rows.Goals as goal

pub loop-row-preserved : goal.loop-row-preserved
loop-row-preserved c =
    let here = c.loop-row.row in
    let before = c.loop-row.rows in
    record {
      size = length-set before here _ ∙ c.loop-row.invariant.size;
      done = λ row i early small. elim (cases_eq row here) [
        | inl same ↦
            rw (same, get_or-set_same before here _ 0 (omega (arith, c.loop-row.invariant.size, c.loop-row-test.true)))
            (set_in_both _ _ i)
        | inr apart ↦
            rw (get_or-set_other before here row _ 0 apart)
            (c.loop-row.invariant.done row i (omega (arith, early, apart)) small)
      ];
    }

pub returns-clause-each : goal.returns-clause-each
returns-clause-each c = λ row i low small.
    let s = c.self.inside in
    let tile = c.args.tile in
    let own : (64 * tile + i) / 64 ≡ tile = omega arith in
    let column : (64 * tile + i) % 64 ≡ i = omega arith in
    rw (own, column) (subst (λ (k : Inked). is_set (slice_index c.loop-row.rows row) i
    ≡ (is_set (slice_index k.decided (64 * tile + row)) i && is_set (slice_index k.dark (64 * tile + row)) i)) c.self.view_is
    (rw (
      ← tile_part s.decided.items tile row low,
      ← tile_part s.dark.items tile row low,
      ← c.deref.ensures.value,
      ← c.deref-2.ensures.value,
    )
    (c.loop-row.invariant.done row i (omega (arith, low, c.loop-row-test.false)) small)))

pub offset_bounds-deref-tile-2 : goal.offset_bounds-deref-tile-2
offset_bounds-deref-tile-2 c = grind (arith)

pub overflow_add-dark : goal.overflow_add-dark
overflow_add-dark c = grind (arith)

pub slice_bounds-dark-end : goal.slice_bounds-dark-end
slice_bounds-dark-end c = grind (arith)

pub overflow_mul-dark-2 : goal.overflow_mul-dark-2
overflow_mul-dark-2 c = grind (arith)

pub overflow_mul-dark : goal.overflow_mul-dark
overflow_mul-dark c = grind (arith)
