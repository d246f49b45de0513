-- One row of up to 64 centres: the bits of its run, and those of several shapes.
use Rattle.std.proofs.Common.{◌↔◌, ◌⊎◌, ℕ, ◌+◌, ◌^◌, ◌<◌, arith, bit_and, bit_or}
use Rattle.std.specs.Int.{IsBitSet, bit_not, w64}
use Rattle.cam_units.specs.declared.point.Spot.{Spot}
use Rattle.cam_rows.specs.declared.centres.Centres.{Centres}
use Rattle.cam_rows.specs.Rows.{Marks, centre_at, row_below}
use Rattle.cam_rows.specs.Runs.{IsInRun}
use Rattle.cam_rows.proofs.SetBits.{set_in_or, set_in_rest}
use Rattle.cam_rows.proofs.Slopes.{top_row}

-- the bits of a run are those of the shape whose run it is
pub marks_run : (row first end : ℕ) (c : Centres) (IsIn : Spot → Type 0)
    → ((i : ℕ) → i < 64 → IsBitSet row i ↔ ((i < c.n) × IsInRun first end (0 + i)))
    → ((i : ℕ) → i < c.n → IsInRun first end i ↔ IsIn (centre_at (row_below c 0) i)) → Marks row c IsIn
marks_run row first end c IsIn bits run i small = grind (arith, top_row)

-- bits that are joined: what either of two shapes holds
pub in_either : (a b i : ℕ) (K P Q : Type 0) → IsBitSet a i ↔ (K × P) → IsBitSet b i ↔ (K × Q)
    → IsBitSet (bit_or a b) i ↔ (K × (P ⊎ Q))
in_either a b i K P Q first second = grind (arith, set_in_or a b i, first, second)

-- and what one of them holds without the other
pub in_rest : (a b i : ℕ) (K P Q : Type 0) → b < 2 ^ 64 → i < 64 → IsBitSet a i ↔ (K × P) → IsBitSet b i ↔ (K × Q)
    → IsBitSet (bit_and a (bit_not w64 b)) i ↔ (K × (P × (Q → ⊥)))
in_rest a b i K P Q fits small first second = grind (arith, set_in_rest a b i fits small, first, second)
