-- runs of copies, each so far ahead of the one before
use Rattle.std.proofs.lemmas.Grind.{common_steps}
use Rattle.std.proofs.Common.{◌≡◌, ◌↔◌, ℕ, suc, ◌+◌, ◌*◌, ◌/◌, ◌^◌, ◌<◌, ℤ, pos, negsuc, ◌+ℤ◌, ◌-ℤ◌, ◌*ℤ◌, ◌≤ℤ◌, ◌<ℤ◌, FitsSigned, w64, inl, inr, subst, sym, arith}
use Rattle.std.specs.Int.{saturate_signed}
use Rattle.std.specs.Int.RustNames.{unsigned_abs}
use Rattle.std.proofs.Math.Nat.{le-div_iff_mul-le}
use Rattle.std.proofs.lemmas.Int.{by_lt_z, ints}
use Rattle.std.proofs.lemmas.Bool.{cases_lt}
use Rattle.std.proofs.lemmas.Nat.{mul-le}
use Rattle.cam_objects.specs.declared.paint.run.Run.{Run}
use Rattle.cam_objects.specs.Machinery.Runs.{IsInRun}

-- those at most so far ahead are those up to the quotient
pub up_to_quotient : (k stride : ℕ) (way : ℤ) → 0 < stride → pos 0 ≤ℤ way
    → (k < unsigned_abs way / stride + 1) ↔ (pos (k * stride) ≤ℤ way)
up_to_quotient k stride way some ahead = grind (arith, le-div_iff_mul-le, ints)

-- ---- differences that are cut to 64 bits

-- a number under the greatest is at most the cut one where it is at most the other
cut_above : (n : ℕ) (z : ℤ) → n < 2 ^ 63 → (pos n ≤ℤ saturate_signed w64 z) ↔ (pos n ≤ℤ z)
cut_above n z small = grind (arith, ints)

cut_below : (n : ℕ) (z : ℤ) → n + 1 < 2 ^ 63 → (saturate_signed w64 z ≤ℤ pos n) ↔ (z ≤ℤ pos n)
cut_below n z small = grind (arith, ints)

-- and a cut one that cannot be cut above
cut_before : (n : ℕ) (z : ℤ) → z <ℤ pos (2 ^ 63) → (pos n ≤ℤ saturate_signed w64 z) ↔ (pos n ≤ℤ z)
cut_before n z small = grind (arith, ints)

-- what is not before the least is at least that
pub not_before : (n : ℕ) (least before : ℤ) → FitsSigned w64 least → before ≡ saturate_signed w64 (least -ℤ pos 1)
    → (pos n ≤ℤ before → ⊥) ↔ (least ≤ℤ pos n)
not_before n least before fits e = grind (arith, cut_before, ints, by_lt_z)

-- the copies that lie from the least to the most ahead of the first
pub between : (run : Run) (count stride k : ℕ) (least most before : ℤ) → k < count → FitsSigned w64 least
    → before ≡ saturate_signed w64 (least -ℤ pos 1)
    → ((j : ℕ) → j < count → (j < run.first) ↔ (pos (j * stride) ≤ℤ before))
    → ((j : ℕ) → j < count → (j < run.end) ↔ (pos (j * stride) ≤ℤ most))
    → IsInRun run k ↔ ((least ≤ℤ pos (k * stride)) × (pos (k * stride) ≤ℤ most))
between run count stride k least most before here fits e first end =
    let after = not_before (k * stride) least before fits e in (
      λ h. (
        after.0 (λ early. let bad : k < run.first = (first k here).1 early in omega (arith, h.from)),
        (end k here).0 h.below,
      ),
      λ h. record {
        from = elim (cases_lt k run.first) [
          | inl early ↦ absurd (after.1 h.0 ((first k here).0 early))
          | inr late ↦ late
        ];
        below = (end k here).1 h.1;
      },
    )

-- ---- spans, each moved by a step from the one before

-- how far ahead a copy lies, in half nm
abbrev pub moves : ℕ → ℤ → ℤ
moves k step = pos 2 *ℤ (pos k *ℤ step)

way_is : (k s : ℕ) → moves k (pos s) ≡ pos (k * (2 * s))
way_is k s = omega (arith, ints)

way_back : (k s : ℕ) → moves k (negsuc s) +ℤ pos (k * (2 * suc s)) ≡ pos 0
way_back k s = omega (arith, ints)

-- it is no greater than the greatest number
short_way : (k s : ℕ) → k < 2 ^ 32 → s < 1000000000 → k * (2 * s) + 1 < 2 ^ 63
short_way k s few short = grind (arith, mul-le)

-- between the least and the most ahead of the first, a copy is moved so far that both spans have a coordinate
ahead : (k s : ℕ) (low high left right least most : ℤ) → k < 2 ^ 32 → s < 1000000000
    → least ≡ saturate_signed w64 (left -ℤ high) → most ≡ saturate_signed w64 (right -ℤ low)
    → ((least ≤ℤ pos (k * (2 * s))) × (pos (k * (2 * s)) ≤ℤ most))
    ↔ (((low +ℤ moves k (pos s)) ≤ℤ right) × (left ≤ℤ (high +ℤ moves k (pos s))))
ahead k s low high left right least most few short e f =
    let small = short_way k s few short in
    let n = k * (2 * s) in
    let there = cut_above n (right -ℤ low) (omega arith) in
    let here = cut_below n (left -ℤ high) small in
    let way = way_is k s in (
      λ h.
          let l : (left -ℤ high) ≤ℤ pos n = here.0 (subst (λ z. z ≤ℤ pos n) e h.0) in
          let m : pos n ≤ℤ (right -ℤ low) = there.0 (subst (λ z. pos n ≤ℤ z) f h.1) in
          (omega (arith, ints), omega (arith, ints)),
      λ h. (
        subst (λ z. z ≤ℤ pos n) (sym e) (here.1 (omega (arith, ints, h.1))),
        subst (λ z. pos n ≤ℤ z) (sym f) (there.1 (omega (arith, ints, h.0))),
      ),
    )

back : (k s : ℕ) (low high left right least most : ℤ) → k < 2 ^ 32 → suc s < 1000000000
    → least ≡ saturate_signed w64 (low -ℤ right) → most ≡ saturate_signed w64 (high -ℤ left)
    → ((least ≤ℤ pos (k * (2 * suc s))) × (pos (k * (2 * suc s)) ≤ℤ most))
    ↔ (((low +ℤ moves k (negsuc s)) ≤ℤ right) × (left ≤ℤ (high +ℤ moves k (negsuc s))))
back k s low high left right least most few short e f =
    let small = short_way k (suc s) few short in
    let n = k * (2 * suc s) in
    let there = cut_above n (high -ℤ left) (omega arith) in
    let here = cut_below n (low -ℤ right) small in
    let way = way_back k s in (
      λ h.
          let l : (low -ℤ right) ≤ℤ pos n = here.0 (subst (λ z. z ≤ℤ pos n) e h.0) in
          let m : pos n ≤ℤ (high -ℤ left) = there.0 (subst (λ z. pos n ≤ℤ z) f h.1) in
          (omega (arith, ints), omega (arith, ints)),
      λ h. (
        subst (λ z. z ≤ℤ pos n) (sym e) (here.1 (omega (arith, ints, h.0))),
        subst (λ z. pos n ≤ℤ z) (sym f) (there.1 (omega (arith, ints, h.1))),
      ),
    )

-- a copy of the run lies between the least and the most ahead of the first
abbrev pub LiesBetween : Run → ℕ → ℕ → ℤ → ℤ → Type 0
LiesBetween run k stride least most =
    IsInRun run k ↔ ((least ≤ℤ pos (k * (2 * stride))) × (pos (k * (2 * stride)) ≤ℤ most))

-- or has a coordinate with the other span, once it is moved
abbrev pub LiesOver : Run → ℕ → ℤ → ℤ → ℤ → ℤ → ℤ → Type 0
LiesOver run k step low high left right =
    IsInRun run k ↔ (((low +ℤ moves k step) ≤ℤ right) × (left ≤ℤ (high +ℤ moves k step)))

followed : {P Q R : Type 0} → P ↔ Q → Q ↔ R → P ↔ R
followed f g = (λ p. g.0 (f.0 p), λ r. f.1 (g.1 r))

module _ (run : Run) (k stride : ℕ) where
  pub over_ahead : (step low high left right least most : ℤ) → k < 2 ^ 32 → unsigned_abs step < 1000000000
      → pos 0 ≤ℤ step → stride ≡ unsigned_abs step
      → least ≡ saturate_signed w64 (left -ℤ high) → most ≡ saturate_signed w64 (right -ℤ low)
      → LiesBetween run k stride least most → LiesOver run k step low high left right
  over_ahead step low high left right least most few short on e first last each =
      grind (arith, common_steps, followed, ahead, ints)

  pub over_back : (step low high left right least most : ℤ) → k < 2 ^ 32 → unsigned_abs step < 1000000000
      → step <ℤ pos 0 → stride ≡ unsigned_abs step
      → least ≡ saturate_signed w64 (low -ℤ right) → most ≡ saturate_signed w64 (high -ℤ left)
      → LiesBetween run k stride least most → LiesOver run k step low high left right
  over_back (pos s) low high left right least most few short on e first last each = absurd (omega (arith, ints))
  over_back (negsuc s) low high left right least most few short on e first last each =
      followed (subst (λ n. LiesBetween run k n least most) e each)
      (back k s low high left right least most few short first last)
