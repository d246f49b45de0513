-- Half planes, by the numbers at the centres of their rows.
use Rattle.std.proofs.Common.{◌≡◌, ℕ, ◌^◌, ◌<◌, ◌≤◌, ℤ, pos, negsuc, ◌+ℤ◌, ◌-ℤ◌, ◌*ℤ◌, ◌≤ℤ◌, ◌↔◌, FitsSigned, ap, arith}
use Rattle.std.specs.Int.{w128}
use Rattle.std.specs.Int.RustNames.{unsigned_abs}
use Rattle.std.proofs.lemmas.Int.{ints}
use Rattle.cam_units.specs.declared.point.Point.{Point}
use Rattle.cam_units.specs.declared.point.Spot.{Spot}
use Rattle.cam_units.specs.Board.{IsInReach, IsOnBoard}
use Rattle.cam_units.proofs.Ring.{Atom, Difference, Product, Sum, equal}
use Rattle.cam_shapes.specs.declared.vector.Vector.{Vector}
use Rattle.cam_shapes.specs.Plane.{IsShort, cross, dot, seen_from}
use Rattle.cam_shapes.proofs.Widths.{dot_bound, narrow, wide}
use Rattle.cam_rows.specs.declared.centres.Centres.{Centres}
use Rattle.cam_rows.specs.declared.half_plane.HalfPlane.{HalfPlane}
use Rattle.cam_rows.specs.declared.slope.Crossing.{Crossing}
use Rattle.cam_rows.specs.declared.slope.Steps.{Steps}
use Rattle.cam_rows.specs.Machinery.HalfPlanes.{IsHalfPlaneOf, IsShortPlane}
use Rattle.cam_rows.specs.Machinery.Narrowing.{IsUp}
use Rattle.cam_rows.specs.Machinery.Slopes.{AreStepsOf, IsTopOf, falling, lowered, number_on}
use Rattle.cam_rows.specs.Rows.{centre_at, row_below}
use Rattle.cam_rows.specs.Runs.{IsWideRow}
use Rattle.cam_rows.proofs.SlopeBits.{lacking_in_row}
use Rattle.cam_rows.proofs.Slopes.{first_is}

-- the numbers of a half plane are those of the places, and short where a row's first place is
pub by_numbers : (top : Centres) (number : Spot → ℤ) (h : HalfPlane)
    → ((k i : ℕ) → number_on (lowered k h) i ≡ number (centre_at (row_below top k) i)) → IsShortPlane h
    → ((k : ℕ) → IsWideRow (row_below top k) → unsigned_abs (number (centre_at (row_below top k) 0)) < 2 ^ 100)
    → IsHalfPlaneOf top (λ s. pos 0 ≤ℤ number s) h
by_numbers top number h value short fits = record {
  tells = λ k i. rw (value k i) ((λ held. held), (λ held. held));
  short = λ n rows. record {
    plane = short;
    rows = λ k small. rw (first_is h k _ (value k 0)) (fits k (rows k small));
  };
}

-- how far the numbers of a row go
pub raised_short : (z r : ℤ) → unsigned_abs z < 2 ^ 67 → unsigned_abs r < 2 ^ 64 → unsigned_abs (z +ℤ r) < 2 ^ 100
raised_short z r h k = omega (arith, ints)

pub dot_fits : (w : Vector) (p : Point) (s : Spot) (r : ℤ) → IsShort w → IsOnBoard p → IsInReach s → unsigned_abs r < 2 ^ 64
    → unsigned_abs (dot w (seen_from p s) +ℤ r) < 2 ^ 100
dot_fits w p s r short h k small =
    let seen = seen_from p s in
    raised_short (dot w seen) r
    (dot_bound w seen short
    (record { x = omega (arith, ints, h.x, k.x); y = omega (arith, ints, h.y, k.y) }))
    small

-- a dot product with the way that is turned to the left is a cross product
pub turned_x : (a b : Vector) → b ≡ a → IsShort b → narrow (pos 0 -ℤ narrow b.y) ≡ pos 0 -ℤ a.y
turned_x a b is short = let same = ap (λ v. v.y) is in omega (arith, ints, short.y, same)

pub turned : (a b v : Vector) → b ≡ a → IsShort b
    → dot (record { x = narrow (pos 0 -ℤ narrow b.y); y = narrow b.x }) v ≡ cross a v
turned a b v is short =
    let along : narrow b.x ≡ a.x = let same = ap (λ v. v.x) is in omega (arith, ints, short.x, same) in
    rw (turned_x a b is short, along) (equal
    (Sum (Product (Difference (Atom (pos 0)) (Atom a.y)) (Atom v.x)) (Product (Atom a.x) (Atom v.y)))
    (Difference (Product (Atom a.x) (Atom v.y)) (Product (Atom a.y) (Atom v.x)))
    (omega arith))

-- numbers that are greater by the same in each row
pub raised_number : (f t r d z : ℤ) (k i : ℕ) → (f +ℤ pos k *ℤ d) +ℤ pos i *ℤ t ≡ z
    → ((f +ℤ r) +ℤ pos k *ℤ d) +ℤ pos i *ℤ t ≡ z +ℤ r
raised_number f t r d z k i e =
    let steps = Product (Atom (pos i)) (Atom t) in
    let fall = Product (Atom (pos k)) (Atom d) in
    rw (← e) (equal
    (Sum (Sum (Sum (Atom f) (Atom r)) fall) steps)
    (Sum (Sum (Sum (Atom f) fall) steps) (Atom r))
    (omega arith))

-- where the line of a half plane crosses its rows
opposite_twice : (z : ℤ) → unsigned_abs z < 2 ^ 100 → pos 0 -ℤ wide (pos 0 -ℤ wide z) ≡ z
opposite_twice z h = omega (arith, ints)

opposite : (z : ℤ) → unsigned_abs z < 2 ^ 100 → wide (pos 0 -ℤ wide z) ≡ pos 0 -ℤ z
opposite z h = omega (arith, ints)

lacked : (z : ℤ) → unsigned_abs z < 2 ^ 100 → wide (negsuc 0 -ℤ wide z) ≡ negsuc 0 -ℤ z
lacked z h = omega (arith, ints)

kept : (z : ℤ) → unsigned_abs z < 2 ^ 100 → wide z ≡ z
kept z h = omega (arith, ints)

-- what a crossing and its steps stand for
pub falling_is : (c : Crossing) (t : Steps) (n m d : ℤ) → AreStepsOf t m (pos 0 -ℤ d) → IsTopOf c t n
    → falling c t ≡ record { first = n; step = d; down = m }
falling_is c t n m d steps top = grind (arith, ints)

-- the columns of a row up to the last number that is not negative, where they fall, or what they lack does
module _ (h : HalfPlane) (k i n : ℕ) (number : ℤ) (is : number ≡ (lowered k h).first)
    (short : unsigned_abs number < 2 ^ 100) (step : unsigned_abs h.step < 2 ^ 100) where
  pub falling_told : (i < n) ↔ (pos 0 ≤ℤ (wide number +ℤ pos i *ℤ (pos 0 -ℤ wide (pos 0 -ℤ wide h.step))))
      → (i < n) ↔ IsUp h k i
  falling_told told = rw (kept number short, opposite_twice h.step step, is) at told

  pub rising_told : (i < n) ↔ (pos 0 ≤ℤ (wide (negsuc 0 -ℤ wide number) +ℤ pos i *ℤ (pos 0 -ℤ wide h.step)))
      → IsUp h k i ↔ (i < n → ⊥)
  rising_told told = grind (arith, lacked, kept, lacking_in_row)

pub fell : (f : HalfPlane) (c : Crossing) (t : Steps) (n : ℤ) → unsigned_abs f.step < 2 ^ 100
    → unsigned_abs f.down < 2 ^ 100 → AreStepsOf t (wide f.down) (wide (pos 0 -ℤ wide f.step)) → IsTopOf c t n
    → falling c t ≡ record { first = n; step = f.step; down = f.down }
fell f c t n step down steps top = grind (arith, falling_is, kept, opposite)

-- the sides of a strip, as 128 bits compute them
pub kept_low : (f e r : ℤ) → unsigned_abs f ≤ 2 ^ 100 → unsigned_abs e ≤ 1 → unsigned_abs r < 2 ^ 64
    → wide (wide (wide (wide f +ℤ wide e) -ℤ wide r) -ℤ pos 1) ≡ f +ℤ (e -ℤ r -ℤ pos 1)
kept_low f e r h k m = omega (arith, ints)

pub kept_high : (f e r : ℤ) → unsigned_abs f ≤ 2 ^ 100 → unsigned_abs e ≤ 1 → unsigned_abs r < 2 ^ 64
    → wide (wide (wide f +ℤ wide e) +ℤ wide r) ≡ f +ℤ (e +ℤ r)
kept_high f e r h k m = omega (arith, ints)

pub low_fits : (f e r : ℤ) → unsigned_abs f ≤ 2 ^ 100 → unsigned_abs e ≤ 1 → unsigned_abs r < 2 ^ 64
    → FitsSigned w128 (wide (wide (wide f +ℤ wide e) -ℤ wide r) -ℤ pos 1)
low_fits f e r h k m = omega (arith, ints)

pub high_fits : (f e r : ℤ) → unsigned_abs f ≤ 2 ^ 100 → unsigned_abs e ≤ 1 → unsigned_abs r < 2 ^ 64
    → FitsSigned w128 (wide (wide f +ℤ wide e) +ℤ wide r)
high_fits f e r h k m = omega (arith, ints)
