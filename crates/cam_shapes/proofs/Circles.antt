-- Sweeps, and distances from a circle.
use Rattle.std.proofs.Common.{◌≡◌, ◌↔◌, ◌<◌, ◌^◌, Bool, IsTrue, ℤ, pos, ◌+ℤ◌, ◌-ℤ◌, ◌*ℤ◌, ◌≤ℤ◌, ◌<ℤ◌, inl, inr}
use Rattle.std.proofs.Common.{◌⊎◌, ◌&&◌, false, of_z, arith}
use Rattle.std.specs.Int.{w128}
use Rattle.std.specs.Ordering.{int_eq}
use Rattle.std.proofs.lemmas.Bool.{eqb-true, false≢true}
use Rattle.std.proofs.lemmas.Bool.Decides.{Decides-and, Decides-int_eq}
use lib.Dec.{eqb}
use lib.Signed.{lt_z}
use Rattle.std.proofs.lemmas.Int.{ints}
use Rattle.std.specs.Int.RustNames.{unsigned_abs}
use Rattle.cam_units.proofs.Ring.{Polynomial, Atom, Sum, Difference, Product, equal}
use Rattle.cam_shapes.specs.declared.vector.Vector.{Vector}
use Rattle.cam_shapes.specs.Plane.{cross, square}
use Rattle.cam_shapes.specs.Arc.{IsBetweenCircles, IsInSweep, IsNarrow}
use Rattle.cam_shapes.proofs.Widths.{kept, less_is, passed_less, wide}

apart : {z : ℤ} → pos 0 <ℤ z → z <ℤ pos 0 → ⊥
apart p n = omega (arith, ints)

level : {z : ℤ} → z ≡ pos 0 → z <ℤ pos 0 → ⊥
level p n = omega (arith, ints)

pub narrow_not_wide : (s e : Vector) → cross s e <ℤ pos 0 → IsNarrow s e → ⊥
narrow_not_wide s e wide narrow = elim narrow [ inl h ↦ apart h wide | inr h ↦ level h.0 wide ]

-- the two forms of the inequality differ by nothing
pub same_difference : (p q s : ℤ)
    → square (p +ℤ q -ℤ s) -ℤ pos 4 *ℤ p *ℤ q ≡ square (p -ℤ q -ℤ s) -ℤ pos 4 *ℤ s *ℤ q
same_difference p q s =
    let a = Difference (Sum (Atom p) (Atom q)) (Atom s) in
    let b = Difference (Difference (Atom p) (Atom q)) (Atom s) in
    let times : ℤ → ℤ → Polynomial = λ m n. Product (Product (Atom (pos 4)) (Atom m)) (Atom n) in
    equal (Difference (Product a a) (times p q)) (Difference (Product b b) (times s q)) (omega arith)

at_most_same : (a b c d : ℤ) → a -ℤ b ≡ c -ℤ d → a ≤ℤ b ↔ c ≤ℤ d
at_most_same a b c d e = ((λ h. omega (arith, ints)), (λ h. omega (arith, ints)))

pub same_inequality : (p q s : ℤ)
    → (square (p +ℤ q -ℤ s) ≤ℤ (pos 4 *ℤ p *ℤ q)) ↔ (square (p -ℤ q -ℤ s) ≤ℤ (pos 4 *ℤ s *ℤ q))
same_inequality p q s = grind (arith, at_most_same, same_difference)

through : {A B C : Type 0} → (A ↔ B) → (C ↔ B) → A ↔ C
through f g = ((λ a. g.1 (f.0 a)), (λ c. f.1 (g.0 c)))

times_four : (s q : ℤ) → pos 4 *ℤ (s *ℤ q) ≡ pos 4 *ℤ s *ℤ q
times_four s q = equal
    (Product (Atom (pos 4)) (Product (Atom s) (Atom q)))
    (Product (Product (Atom (pos 4)) (Atom s)) (Atom q))
    (omega arith)

-- the second form is the first
pub told_circle : (b : Bool) (p q r : ℤ) → (IsTrue b ↔ square (p -ℤ q -ℤ square r) ≤ℤ (pos 4 *ℤ (square r *ℤ q)))
    → (IsTrue b ↔ IsBetweenCircles p q r)
told_circle b p q r told = through (rw (times_four (square r) q) at told) (same_inequality p q (square r))

-- a cross product r and a dot product d that were passed on in 128 bits: where r is 0, d tells whether the sweep is narrow
module _ (r u : ℤ) (short : unsigned_abs r < 2 ^ 67) (is : r ≡ u) where
  pub narrow_by_dot : (d v : ℤ) → unsigned_abs d < 2 ^ 67 → d ≡ v → of_z w128 r ≡ 0
      → IsTrue (lt_z (wide d) (pos 0)) ↔ ((pos 0 <ℤ u) ⊎ ((u ≡ pos 0) × (v <ℤ pos 0)))
  narrow_by_dot d v p e none = grind (arith, level, kept, passed_less, ints)

  pub not_narrow : (v : ℤ) → (of_z w128 r ≡ 0 → ⊥) → lt_z (pos 0) (wide r) ≡ false
      → IsTrue (eqb (of_z w128 r) 0) ↔ ((pos 0 <ℤ u) ⊎ ((u ≡ pos 0) × (v <ℤ pos 0)))
  not_narrow v some right = grind (arith, eqb-true, false≢true, less_is, wide, kept)

-- the sweep from s to e where it is narrow
pub in_narrow : (s e v : Vector) (b : Bool) → false ≡ (int_eq s.x e.x && int_eq s.y e.y) → IsNarrow s e
    → (IsTrue b ↔ (pos 0 ≤ℤ cross s v) × (pos 0 ≤ℤ cross v e)) → IsTrue b ↔ IsInSweep s e v
in_narrow s e v b unlike narrow told = grind (arith, false≢true, Decides-and, Decides-int_eq, narrow_not_wide)
