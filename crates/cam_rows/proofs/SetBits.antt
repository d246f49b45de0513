-- Which bits are set in rows that are joined, and in runs of bits.
use Rattle.std.proofs.Common.{◌≡◌, ℕ, ◌+◌, ◌*◌, ◌-◌, ◌/◌, ◌%◌, ◌^◌, ◌<◌, ◌≤◌, ◌↔◌, ◌⊎◌}
use Rattle.std.proofs.Common.{refl, ap, sym, inl, inr, add-zero, ◌∙◌, arith, bit_and, bit_or}
use Rattle.std.specs.Int.{IsBitSet, bit_at, bit_not, w64}
use Rattle.std.specs.Int.RustNames.{bit_xor}
use Rattle.std.proofs.lemmas.Bool.{cases_lt}
use Rattle.std.proofs.lemmas.Nat.{bit_set_by_shift, pow_pos, shr_split, shr-shr}
use Rattle.std.proofs.lemmas.Nat.Bits.{bit_at-lt, bit_at_and, bit_at_not, bit_at_ones, bit_at_ones_above, bit_at_or}
use Rattle.std.proofs.lemmas.Nat.Bits.{bit_at_cat_high, bit_at_cat_low, bit_at_xor, bit_at-zero, shr_and_one}

-- a set bit is 1
pub set_is_one : (n i : ℕ) → IsBitSet n i ↔ (bit_at n i ≡ 1)
set_is_one n i = rw (← shr_and_one n i) ((bit_set_by_shift n i).1, (bit_set_by_shift n i).0)

-- what tells of a set bit by its value
ruleset bit_values = (set_is_one, bit_at-lt)

-- no bit is set in 0
pub none_set : (row i : ℕ) → row ≡ 0 → IsBitSet row i → ⊥
none_set row i e set = (rw e at set) refl

-- masks
pub set_in_and : (a b i : ℕ) → IsBitSet (bit_and a b) i ↔ (IsBitSet a i × IsBitSet b i)
set_in_and a b i = grind (arith, bit_values, bit_at_and)

pub set_in_or : (a b i : ℕ) → IsBitSet (bit_or a b) i ↔ (IsBitSet a i ⊎ IsBitSet b i)
set_in_or a b i = grind (arith, bit_values, bit_at_or)

pub set_in_xor : (a b i : ℕ)
    → IsBitSet (bit_xor a b) i ↔ ((IsBitSet a i × (IsBitSet b i → ⊥)) ⊎ ((IsBitSet a i → ⊥) × IsBitSet b i))
set_in_xor a b i = grind (arith, bit_values, bit_at_xor)

set_in_not : (a i : ℕ) → a < 2 ^ 64 → i < 64 → IsBitSet (bit_not w64 a) i ↔ (IsBitSet a i → ⊥)
set_in_not a i fits within = grind (arith, bit_values, bit_at_not w64 a i fits within)

-- the bits of one row without those of another
pub set_in_rest : (a b i : ℕ) → b < 2 ^ 64 → i < 64
    → IsBitSet (bit_and a (bit_not w64 b)) i ↔ (IsBitSet a i × (IsBitSet b i → ⊥))
set_in_rest a b i fits within = grind (arith, set_in_and, set_in_not b i fits within)

-- a row that is shifted down
pub set_in_shr : (n places i : ℕ) → IsBitSet (n / 2 ^ places) i ↔ IsBitSet n (i + places)
set_in_shr n places i =
    let same : bit_at (n / 2 ^ places) i ≡ bit_at n (i + places) =
    ap (λ m. m % 2) (shr-shr n places i) ∙ ap (bit_at n) (omega arith) in
    grind (arith, set_is_one, same)

-- the low bits of a number
pub low_bits : (n width i : ℕ) → i < width → bit_at (n % 2 ^ width) i ≡ bit_at n i
low_bits n width i within =
    sym (bit_at_cat_low (n / 2 ^ width) width (n % 2 ^ width) i within) ∙ ap (λ m. bit_at m i) (shr_split n width)

-- a row that is shifted up
moved_up : (n places i : ℕ) → places ≤ i → bit_at (n * 2 ^ places) i ≡ bit_at n (i - places)
moved_up n places i past =
    ap (λ m. bit_at m i) (sym (add-zero (n * 2 ^ places))) ∙ bit_at_cat_high n places 0 i (pow_pos places) past

clear_below : (n places i : ℕ) → i < places → bit_at (n * 2 ^ places) i ≡ 0
clear_below n places i below =
    ap (λ m. bit_at m i) (sym (add-zero (n * 2 ^ places))) ∙ bit_at_cat_low n places 0 i below ∙ bit_at-zero i

pub set_in_shl : (n places i : ℕ) → i < 64
    → IsBitSet (n * 2 ^ places % 2 ^ 64) i ↔ ((places ≤ i) × IsBitSet n (i - places))
set_in_shl n places i within =
    let low = low_bits (n * 2 ^ places) 64 i within in
    let shifted = set_is_one (n * 2 ^ places % 2 ^ 64) i in
    let kept = set_is_one n (i - places) in
    elim (cases_lt i places) [
      | inl below ↦ (
        (λ h. absurd (omega (arith, shifted.0 h, low, clear_below n places i below))),
        (λ h. absurd (omega (arith, h.0))),
      )
      | inr past ↦ (
        (λ h. (past, kept.1 (sym (moved_up n places i past) ∙ sym low ∙ shifted.0 h))),
        (λ h. shifted.1 (low ∙ moved_up n places i past ∙ kept.0 h.1)),
      )
    ]

-- the run of bits below an end, as shifts compute it
run_below : (end i : ℕ) → IsBitSet (2 ^ end - 1) i ↔ (i < end)
run_below end i = grind (arith, bit_values, bit_at_ones, bit_at_ones_above)

pub whole_run : (end i : ℕ) → end ≡ 64 → IsBitSet (2 ^ 64 - 1) i ↔ (i < end)
whole_run end i whole = rw whole (run_below 64 i)

-- the bits from a first one on and below an end, as shifts of all bits compute them
pub between_shifts : (first end i : ℕ) → end ≤ 64 → i < 64
    → IsBitSet (bit_and ((2 ^ 64 - 1) * 2 ^ first % 2 ^ 64) ((2 ^ 64 - 1) / 2 ^ (64 - end))) i
    ↔ ((first ≤ i) × (i < end))
between_shifts first end i fits within = grind (arith, set_in_and, set_in_shl, set_in_shr, whole_run)
