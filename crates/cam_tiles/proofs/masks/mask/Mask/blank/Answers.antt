use Rattle.std.proofs.Common.{◌≡◌, ℕ, slice_index, replicate, refl, arith}
use Rattle.std.specs.Int.{IsBitSet}
use Rattle.std.proofs.lemmas.Nat.Bits.{bit_at-zero}
use Rattle.cam_rows.proofs.SetBits.{set_is_one}
use Rattle.cam_tiles.specs.declared.grid.Grid.{Grid}
use Rattle.cam_tiles.specs.Machinery.Masks.{IsMask}
use Rattle.cam_tiles.specs.Tiles.{IsGrid}
use Rattle.cam_tiles.proofs.TileRowLemmas.{clear_rows}
use Rattle.cam_tiles.proofs.masks.mask.Mask.blank.Goals as goal

-- a row that is 0 has no bit
not_set : (row i : ℕ) → row ≡ 0 → IsBitSet row i → ⊥
not_set row i clear set = grind (arith, set_is_one, bit_at-zero, set)

no_mark : (i row : ℕ) → IsBitSet (slice_index (replicate 64 0) row) i → ⊥
no_mark i row = not_set _ i (clear_rows row)

blank_mask : (g : Grid) → IsGrid g → IsMask (record { grid = g; rows = replicate 64 0 })
blank_mask g grid = record {
  grid = grid;
  whole = refl;
  fit = λ row. omega (arith, clear_rows row);
  inside = λ i row near low set. absurd (no_mark i row set);
}

pub invariant_of-result : goal.invariant_of-result
invariant_of-result c = grind (arith, blank_mask)

pub returns-clause-marks : goal.returns-clause-marks
returns-clause-marks c = λ column row inside. no_mark column row
