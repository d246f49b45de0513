-- Rows that are joined lane by lane.
use Rattle.std.proofs.Common.{◌≡◌, ℕ, ◌<◌, ◌↔◌, List, length, arith, bit_and}
use Rattle.std.proofs.lemmas.Simd.{get_or-zip2, length-zip2}
use Rattle.std.specs.Int.{IsBitSet}
use Rattle.std.specs.Int.RustNames.{bit_xor}
use Rattle.std.specs.Simd.Lanes.{zip2}
use Rattle.cam_rows.specs.Lanes.{AreJoined}
use Rattle.cam_rows.proofs.SetBits.{set_in_and, set_in_xor}

without : (a b i : ℕ) → IsBitSet (bit_xor a (bit_and a b)) i ↔ (IsBitSet a i × (IsBitSet b i → ⊥))
without a b i = grind (arith, set_in_and a b i, set_in_xor a (bit_and a b) i)

module _ (old other : List ℕ) (whole : length old ≡ 64) (same : length other ≡ 64) where
  pub lanes_joined : (how : Type 0 → Type 0 → Type 0) (f : ℕ → ℕ → ℕ)
      → ((x y i : ℕ) → IsBitSet (f x y) i ↔ how (IsBitSet x i) (IsBitSet y i)) → AreJoined how old other (zip2 f old other)
  lanes_joined how f each k i lane small = grind (arith, get_or-zip2)

  pub lanes_cleared : AreJoined (λ P Q. P × (Q → ⊥)) old other (zip2 bit_xor old (zip2 bit_and old other))
  lanes_cleared k i lane small =
      let here : k < length old = omega (arith, whole) in
      let there : k < length other = omega (arith, same) in
      rw (
        get_or-zip2 bit_xor old (zip2 bit_and old other) k 0 0 0 here
            (omega (arith, length-zip2 bit_and old other (omega (arith, whole, same)), here)),
        get_or-zip2 bit_and old other k 0 0 0 here there,
      ) (without _ _ i)
