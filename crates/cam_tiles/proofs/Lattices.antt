-- Places at equal distances: how many of them lie up to a place, and the columns of a grid.
use Rattle.std.proofs.Common.{◌≡◌, ◌↔◌, ℕ, ◌+◌, ◌/◌, ◌^◌, ◌<◌, ◌≤◌, ◌-◌, ℤ, pos, ◌+ℤ◌, ◌-ℤ◌, ◌*ℤ◌, ◌≤ℤ◌, ◌<ℤ◌}
use Rattle.std.proofs.Common.{ap, ◌∙◌, FitsSigned, w64, arith}
use Rattle.std.specs.Int.{int_max}
use Rattle.std.specs.Int.RustNames.{unsigned_abs}
use Rattle.std.proofs.Math.Nat.{le-div_iff_mul-le}
use Rattle.std.proofs.lemmas.Bool.{cases_lt}
use Rattle.std.proofs.lemmas.Int.{by_lt_z, clamps, ints, to_z-of_z}
use Rattle.std.proofs.lemmas.Nat.{mul-le}
use Rattle.cam_units.specs.declared.point.Spot.{Spot}
use Rattle.cam_tiles.specs.declared.grid.Grid.{Grid}
use Rattle.cam_tiles.specs.declared.lattice.Lattice.{Lattice}
use Rattle.cam_tiles.specs.declared.span.Span.{Span}
use Rattle.cam_tiles.specs.Machinery.Lattices.{AreReachedBy, IsLattice, place_at}
use Rattle.cam_tiles.specs.Tiles.{centre_in}
use Rattle.cam_tiles.proofs.GridLemmas.{long}
use Rattle.cam_tiles.proofs.StepLemmas.{no_step, way_kept}

-- so many steps lead on, and no fewer do further
pub some_steps : (step : ℤ) (n : ℕ) → pos 1 ≤ℤ step → pos 0 ≤ℤ (pos n *ℤ step)
some_steps step n some = grind (arith, ints)

pub further : (step : ℤ) (pitch n last : ℕ) → step ≡ pos pitch → n ≤ last → (pos n *ℤ step) ≤ℤ (pos last *ℤ step)
further step pitch n last is_step within = grind (arith, mul-le, ints)

-- ---- so many steps on and back, as code of 64 bits computes them

short_on : (x d : ℤ) → unsigned_abs x < 8000000000 → unsigned_abs (x +ℤ d) < 8000000000 → unsigned_abs d < 16000000000
short_on x d here there = omega (arith, ints)

short_back : (x d : ℤ) → unsigned_abs x < 8000000000 → unsigned_abs (x -ℤ d) < 8000000000 → unsigned_abs d < 16000000000
short_back x d here there = omega (arith, ints)

fits_short : (d e : ℤ) → d ≡ e → unsigned_abs e < 16000000000 → FitsSigned w64 d
fits_short d e same short = omega (arith, ints, ap unsigned_abs same)

on_is : (x d e : ℤ) → d ≡ e → unsigned_abs x < 8000000000 → unsigned_abs e < 16000000000 → long x +ℤ long d ≡ x +ℤ e
on_is x d e same here short = omega (arith, ints)

back_is : (x d e : ℤ) → d ≡ e → unsigned_abs x < 8000000000 → unsigned_abs e < 16000000000 → long x -ℤ long d ≡ x -ℤ e
back_is x d e same here short = omega (arith, ints)

module _ (x s n : ℤ) (k : ℕ) (is_n : n ≡ pos k) (few : k < 2 ^ 32) (fits : FitsSigned w64 s)
    (here : unsigned_abs x < 8000000000) where
  way_is : long n *ℤ long s ≡ pos k *ℤ s
  way_is = way_kept n s k is_n few fits

  module _ (there : unsigned_abs (x +ℤ pos k *ℤ s) < 8000000000) where
    pub way_on_fits : FitsSigned w64 (long n *ℤ long s)
    way_on_fits = fits_short _ _ way_is (short_on x (pos k *ℤ s) here there)

    pub on_fits : FitsSigned w64 (long x +ℤ long (long n *ℤ long s))
    on_fits = fits_short _ _ (on_is x _ _ way_is here (short_on x (pos k *ℤ s) here there)) (omega (arith, there))

    pub on_kept : long (long x +ℤ long (long n *ℤ long s)) ≡ x +ℤ pos k *ℤ s
    on_kept = to_z-of_z w64 _ on_fits ∙ on_is x _ _ way_is here (short_on x (pos k *ℤ s) here there)

  module _ (there : unsigned_abs (x -ℤ pos k *ℤ s) < 8000000000) where
    pub way_back_fits : FitsSigned w64 (long n *ℤ long s)
    way_back_fits = fits_short _ _ way_is (short_back x (pos k *ℤ s) here there)

    pub back_fits : FitsSigned w64 (long x -ℤ long (long n *ℤ long s))
    back_fits = fits_short _ _ (back_is x _ _ way_is here (short_back x (pos k *ℤ s) here there)) (omega (arith, there))

    pub back_kept : long (long x -ℤ long (long n *ℤ long s)) ≡ x -ℤ pos k *ℤ s
    back_kept = to_z-of_z w64 _ back_fits ∙ back_is x _ _ way_is here (short_back x (pos k *ℤ s) here there)

pub first_short : (l : Lattice) → IsLattice l → 0 < l.count → unsigned_abs l.first < 8000000000
first_short l lattice some = grind (arith, no_step)

module _ (l : Lattice) (pitch distance : ℕ) (place : ℤ) (some : pos 1 ≤ℤ l.step) (is_step : l.step ≡ pos pitch)
    (is_place : place ≡ l.first +ℤ pos distance) where
  -- how many lie up to a place, by division
  pub counted : (n : ℕ) → (n < distance / pitch + 1) ↔ (place_at l n ≤ℤ place)
  counted n = grind (arith, le-div_iff_mul-le, ints)

  -- and not all of them, if it lies before the last
  pub few_counted : (count : ℕ) → 0 < count → place <ℤ place_at l (count - 1) → distance / pitch + 1 < count
  few_counted count there before = grind (arith, cases_lt, counted, ints)

-- from those before the one place on, up to the other
pub between_counts : (n first end : ℕ) (x start low high before : ℤ) → start ≤ℤ x → before ≡ int_max low start -ℤ pos 1
    → (n < first) ↔ (x ≤ℤ before) → (n < end) ↔ (x ≤ℤ high)
    → ((first ≤ n) × (n < end)) ↔ ((low ≤ℤ x) × (x ≤ℤ high))
between_counts n first end x start low high before after is_before early until = grind (arith, cases_lt, ints, clamps, by_lt_z)

-- the columns and the rows that a box reaches
pub reached : (low high : Spot) (g : Grid) (count : ℕ) (columns rows : Span) → columns.end ≤ count → rows.end ≤ g.rows
    → ((column : ℕ) → column < count → ((columns.first ≤ column) × (column < columns.end))
    ↔ ((low.x ≤ℤ (centre_in g column 0).x) × ((centre_in g column 0).x ≤ℤ high.x)))
    → ((row : ℕ) → row < g.rows → ((rows.first ≤ row) × (row < rows.end))
    ↔ ((low.y ≤ℤ (centre_in g 0 row).y) × ((centre_in g 0 row).y ≤ℤ high.y)))
    → AreReachedBy low high g count columns rows
reached low high g count columns rows few low_rows across down = grind arith
