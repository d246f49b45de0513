-- Strips along lines, by where they begin and end in each row.
use Rattle.std.proofs.Common.{◌≡◌, ◌↔◌, ◌⊎◌, ℕ, ℤ, pos, negsuc, ◌+ℤ◌, ◌-ℤ◌, ◌≤ℤ◌, List, None, length}
use Rattle.std.proofs.Common.{inl, inr, ap, refl, ◌∙◌, arith}
use Rattle.std.proofs.lemmas.Bool.{cases_lt}
use Rattle.std.proofs.lemmas.Int.{by_lt_z, ints}
use Rattle.cam_units.specs.declared.point.Spot.{Spot}
use Rattle.cam_rows.specs.declared.centres.Centres.{Centres}
use Rattle.cam_rows.specs.declared.half_plane.HalfPlane.{HalfPlane}
use Rattle.cam_rows.specs.declared.slope.Crossing.{Crossing}
use Rattle.cam_rows.specs.declared.slope.Steps.{Steps}
use Rattle.cam_rows.specs.Machinery.Beside.{IsWithinReach}
use Rattle.cam_rows.specs.Machinery.HalfPlanes.{IsStripIn}
use Rattle.cam_rows.specs.Machinery.Narrowing.{AreCounted, IsUp}
use Rattle.cam_rows.specs.Machinery.Slopes.{falling, lacking, lowered, number_on}
use Rattle.cam_rows.specs.Rows.{centre_at, row_below}
use Rattle.cam_rows.specs.Runs.{AreRuns, end_in}
use Rattle.cam_rows.proofs.HalfPlanes.{raised_number}
use Rattle.cam_rows.proofs.SlopeBits.{lacking_sloped}

-- a number y that is z or what z lacks, and e, how much the opposite of z is more than that
abbrev IsTaken : ℤ → ℤ → ℤ → Type 0
IsTaken y e z = ((y ≡ z) × (e ≡ pos 0)) ⊎ ((y ≡ negsuc 0 -ℤ z) × (e ≡ pos 1))

within_by : (z y e low high reach : ℤ) → low ≡ y +ℤ (e -ℤ reach -ℤ pos 1) → high ≡ y +ℤ (e +ℤ reach) → IsTaken y e z
    → IsWithinReach z reach ↔ ((pos 0 ≤ℤ low → ⊥) × (pos 0 ≤ℤ high))
within_by z y e low high reach is_low is_high (inl same) = (
  (λ near. (
    (λ up. absurd (omega (arith, ints, is_low, same.0, same.1, near.right, up))),
    omega (arith, ints, is_high, same.0, same.1, near.left),
  )),
  (λ both. record {
    left = omega (arith, ints, is_high, same.0, same.1, both.1);
    right = by_lt_z low (pos 0)
        (λ down. omega (arith, ints, is_low, same.0, same.1, down))
        (λ up. absurd (both.0 up));
  }),
)
within_by z y e low high reach is_low is_high (inr lacks) = (
  (λ near. (
    (λ up. absurd (omega (arith, ints, is_low, lacks.0, lacks.1, near.left, up))),
    omega (arith, ints, is_high, lacks.0, lacks.1, near.right),
  )),
  (λ both. record {
    left = by_lt_z low (pos 0)
        (λ down. omega (arith, ints, is_low, lacks.0, lacks.1, down))
        (λ up. absurd (both.0 up));
    right = omega (arith, ints, is_high, lacks.0, lacks.1, both.1);
  }),
)

module _ (h f : HalfPlane) (low high : HalfPlane) (reach e : ℤ)
    (is_low : low ≡ record { first = f.first +ℤ (e -ℤ reach -ℤ pos 1); step = f.step; down = f.down })
    (is_high : high ≡ record { first = f.first +ℤ (e +ℤ reach); step = f.step; down = f.down }) where
  taken : (k i : ℕ) → ((f ≡ h) × (e ≡ pos 0))
      ⊎ ((f ≡ lacking h) × (e ≡ pos 1))
      → IsTaken (number_on (lowered k f) i) e (number_on (lowered k h) i)
  taken k i it = grind (arith, lacking_sloped)

  pub strip_within : (k i : ℕ) → ((f ≡ h) × (e ≡ pos 0))
      ⊎ ((f ≡ lacking h) × (e ≡ pos 1))
      → IsWithinReach (number_on (lowered k h) i) reach ↔ ((IsUp low k i → ⊥) × IsUp high k i)
  strip_within k i how =
      let y = number_on (lowered k f) i in
      within_by (number_on (lowered k h) i) y e (number_on (lowered k low) i) (number_on (lowered k high) i)
      reach
      (ap (λ (s : HalfPlane). number_on (lowered k s) i) is_low
      ∙ raised_number f.first f.step (e -ℤ reach -ℤ pos 1) f.down y k i refl)
      (ap (λ (s : HalfPlane). number_on (lowered k s) i) is_high
      ∙ raised_number f.first f.step (e +ℤ reach) f.down y k i refl)
      (taken k i how)

-- the runs of a strip
pub strip_runs : (firsts ends : List ℕ) (n : ℕ) (top : Centres) (h : HalfPlane) (low high : Crossing) (t : Steps)
    (reach : ℤ) (number : Spot → ℤ)
    → ((k i : ℕ) → number_on (lowered k h) i ≡ number (centre_at (row_below top k) i))
    → IsStripIn n low high t reach h → length firsts ≡ n → AreCounted top.n (IsUp (falling low t)) n (end_in None firsts)
    → AreCounted top.n (IsUp (falling high t)) n (end_in None ends) → AreRuns firsts ends top (λ s. IsWithinReach (number s) reach)
strip_runs firsts ends n top h low high t reach number told strip size starts stops = grind (arith, cases_lt)
