-- Boxes of a mask in which all centres are marked, by words of bits for the columns of a box.
use Rattle.std.proofs.Common.{◌≡◌, ◌↔◌, ℕ, ◌+◌, ◌^◌, ◌<◌, ◌≤◌, min, inl, inr, slice_index, true, ◌∙◌, bit_and, arith}
use Rattle.std.specs.Int.{IsBitSet, bit_at}
use Rattle.std.proofs.lemmas.Bool.{cases_lt}
use Rattle.std.proofs.lemmas.Nat.Bits.{bit_at-lt, bit_at_above, bit_at_and, same_from_bits}
use Rattle.cam_units.specs.Boxes.{IsInBox}
use Rattle.cam_units.specs.declared.point.Spot.{Spot}
use Rattle.cam_rows.specs.Runs.{IsInRun}
use Rattle.cam_rows.proofs.SetBits.{set_is_one}
use Rattle.cam_tiles.specs.declared.span.Span.{Span}
use Rattle.cam_tiles.specs.Machinery.Lattices.{AreReachedBy}
use Rattle.cam_tiles.specs.Machinery.Masks.{IsIn, IsMarked, Marking, ink_of}
use Rattle.cam_tiles.specs.Tiles.{centre_in}
use Rattle.cam_tiles.proofs.PaintedMasks.{dark_if_marked, marked_if_dark}

abbrev pub AllMarked : Spot → Spot → Marking → Type 0
AllMarked low high m =
    (column row : ℕ) → IsIn m.grid column row → IsInBox low high (centre_in m.grid column row) → ink_of m column row ≡ true

least_one : (x y : ℕ) → x < 2 → y < 2 → (y ≡ 1 → x ≡ 1) → min x y ≡ y
least_one x y few small one = grind arith

-- a word that has all bits of another
contained : (a b : ℕ) → ((i : ℕ) → IsBitSet b i → IsBitSet a i) → bit_and a b ≡ b
contained a b has =
    same_from_bits (bit_and a b) b (λ i.
    bit_at_and a b i
    ∙ least_one (bit_at a i) (bit_at b i) (bit_at-lt a i) (bit_at-lt b i)
    (λ h. (set_is_one a i).0 (has i ((set_is_one b i).1 h))))

module _ (m : Marking) (low high : Spot) (columns rows : Span) (run : ℕ) (narrow : m.grid.cols ≤ 64) (fits : run < 2 ^ 64)
    (reached : AreReachedBy low high m.grid m.grid.cols columns rows)
    (is_run : (i : ℕ) → i < 64 → IsBitSet run i ↔ ((i < m.grid.cols) × IsInRun columns.first columns.end (0 + i))) where
  -- from row to row
  pub all_marked : ((column row : ℕ) → rows.first ≤ row → row < rows.end → IsBitSet run column → IsMarked m column row)
      → AllMarked low high m
  all_marked each column row there between = grind (arith, dark_if_marked)

  pub row_marked : AllMarked low high m → (row : ℕ) → rows.first ≤ row → row < rows.end
      → bit_and (slice_index m.rows row) run ≡ run
  row_marked all row from until =
      contained (slice_index m.rows row) run (λ i set.
      elim (cases_lt i 64) [
        | inl within ↦
            (let on = (is_run i within).0 set in
            let below : row < m.grid.rows = omega (arith, until, reached.above) in
            marked_if_dark m i row (all i row (on.0, below)
            ((reached.each i row on.0 below).1 ((omega (arith, on.1.0), omega (arith, on.1.1)), (from, until)))))
        | inr past ↦ absurd (omega (arith, (set_is_one run i).0 set, bit_at_above run 64 i fits past))
      ])
