-- Rows whose centres lie near a point, by their first and last centres.
use Rattle.std.proofs.Common.{◌≡◌, ℕ, ◌+◌, ◌-◌, ◌*◌, ◌%◌, ◌^◌, ◌<◌, ◌≤◌, ℤ, pos, ◌+ℤ◌, ◌-ℤ◌, ◌*ℤ◌, ◌≤ℤ◌}
use Rattle.std.proofs.Common.{of_z, refl, to_z, w64, arith}
use Rattle.std.specs.Int.RustNames.{unsigned_abs}
use Rattle.std.proofs.lemmas.Int.{int_wrap_fits, ints, wrapping_sub_onto}
use Rattle.std.proofs.lemmas.Nat.{mul-le}
use Rattle.cam_units.specs.Board.{IsOnBoard}
use Rattle.cam_units.specs.declared.point.Point.{Point}
use Rattle.cam_units.proofs.Ring.{Atom, Difference, Product, Sum, equal}
use Rattle.cam_shapes.specs.Plane.{square}
use Rattle.cam_shapes.proofs.Widths.{narrow}
use Rattle.cam_rows.specs.declared.centres.Centres.{Centres}
use Rattle.cam_rows.specs.declared.chord.Offsets.{Offsets}
use Rattle.cam_rows.specs.Machinery.Chords.{AreOffsetsFrom, AreWithin, offset}
use Rattle.cam_rows.specs.Runs.{AreWideRows, IsWideRow}
use Rattle.cam_rows.proofs.Circling.{square_of}
use Rattle.cam_rows.proofs.Columns.{goes_right}
use Rattle.cam_rows.proofs.WideRows.{top_is_wide}

-- a number of steps, by that of the last row
rising : (step : ℤ) (k last : ℕ) → k ≤ last → pos 1 ≤ℤ step
    → (pos 0 ≤ℤ (pos k *ℤ step)) × ((pos k *ℤ step) ≤ℤ (pos last *ℤ step))
rising step k last within some = grind (arith, ints, mul-le)

pub near_rows : (p : Point) (top : Centres) (n most : ℕ) (o : Offsets) → IsWideRow top → AreOffsetsFrom top p o
    → most < 2 ^ 64 → unsigned_abs o.first < 2 ^ 32 → unsigned_abs (offset o.first o.step (top.n - 1)) < 2 ^ 32
    → unsigned_abs ((top.y -ℤ pos (n - 1) *ℤ top.step) -ℤ pos 2 *ℤ p.y) < 2 ^ 32
    → unsigned_abs ((top.y -ℤ pos 0 *ℤ top.step) -ℤ pos 2 *ℤ p.y) < 2 ^ 32 → AreWithin (2 ^ 32) p most top n
near_rows p top n most o wide columns fits left right low high = grind (arith, goes_right, ints, rising)

-- all wide rows lie within the longer reach
pub far_rows : (p : Point) (top : Centres) (n most : ℕ) → IsOnBoard p → AreWideRows top n → 0 < n → most < 2 ^ 68
    → AreWithin (2 ^ 34) p most top n
far_rows p top n most on rows some fits = record {
  columns = λ i within. omega (arith, ints, on.x, ((top_is_wide top n some rows).centres i within).x);
  rows = λ k within.
      let row = rows k within in omega (arith, ints, on.y, (row.centres 0 (omega (arith, row.count))).y);
  bound = fits;
  far = omega arith;
}

-- the height of a row within a reach, as 64 bits pass it
pub height_passed : (reach : ℕ) (h y : ℤ) → reach ≤ 2 ^ 34 → unsigned_abs y < reach → h ≡ y → narrow h ≡ y
height_passed reach h y far near is = omega (arith, ints, near, is)

pub height_within : (reach : ℕ) (h y : ℤ) → reach ≤ 2 ^ 34 → unsigned_abs y < reach → h ≡ y
    → unsigned_abs (narrow h) < reach
height_within reach h y far near is = rw (height_passed reach h y far near is) near

-- and its square
pub height_square : (h y : ℤ) → h ≡ y → pos (unsigned_abs h * unsigned_abs h) ≡ square y
height_square h y is = rw is (square_of _ y refl)

-- the height of the next row, as 64 bits step to it
next_bits : (bits : ℕ) (h step next : ℤ) → bits < 2 ^ 64 → to_z w64 bits ≡ h → next ≡ h -ℤ step
    → unsigned_abs h < 2 ^ 34 → unsigned_abs next < 2 ^ 34
    → to_z w64 ((bits + (2 ^ 64 - of_z w64 step)) % 2 ^ 64) ≡ next
next_bits bits h step next fits is e near near_next = grind (arith, ints, wrapping_sub_onto, int_wrap_fits)

pub next_height : (reach bits k : ℕ) (y step away : ℤ) → bits < 2 ^ 64 → reach ≤ 2 ^ 34
    → to_z w64 bits ≡ y -ℤ pos k *ℤ step -ℤ pos 2 *ℤ away
    → unsigned_abs (y -ℤ pos k *ℤ step -ℤ pos 2 *ℤ away) < reach
    → unsigned_abs (y -ℤ pos (k + 1) *ℤ step -ℤ pos 2 *ℤ away) < reach
    → to_z w64 ((bits + (2 ^ 64 - of_z w64 step)) % 2 ^ 64) ≡ y -ℤ pos (k + 1) *ℤ step -ℤ pos 2 *ℤ away
next_height reach bits k y step away fits far is near near_next =
    let next : pos (k + 1) ≡ pos k +ℤ pos 1 = omega (arith, ints) in
    let other = Product (Atom (pos 2)) (Atom away) in
    let below : y -ℤ pos (k + 1) *ℤ step -ℤ pos 2 *ℤ away ≡ (y -ℤ pos k *ℤ step -ℤ pos 2 *ℤ away) -ℤ step =
    rw next (equal
    (Difference (Difference (Atom y) (Product (Sum (Atom (pos k)) (Atom (pos 1))) (Atom step))) other)
    (Difference (Difference (Difference (Atom y) (Product (Atom (pos k)) (Atom step))) other) (Atom step))
    (omega arith)) in
    next_bits bits (y -ℤ pos k *ℤ step -ℤ pos 2 *ℤ away) step _ fits is below (omega (arith, near, far)) (omega (arith, near_next, far))
