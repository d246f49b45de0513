-- Windows: the centres between the first and the last, and the test of the limits.
use Rattle.std.proofs.Common.{rules, ◌≡◌, ℕ, ◌+◌, ◌*◌, ◌-◌, ◌^◌, ◌<◌, ◌≤◌, ℤ, pos, ◌+ℤ◌, ◌*ℤ◌, ◌≤ℤ◌, true, ap, subst, FitsSigned}
use Rattle.std.proofs.Common.{w64, arith}
use Rattle.std.specs.Int.{w128, cast_signed, cast_unsigned}
use Rattle.std.specs.Int.RustNames.{unsigned_abs, int_le}
use Rattle.std.proofs.lemmas.Bool.{and_parts, and_from, ltb-true, lt-ltb, leb-true, le-leb}
use Rattle.std.proofs.lemmas.Int.{ints, to_z-of_z, fits_signed_from_abs, unsigned_abs-mul}
use Rattle.std.proofs.lemmas.Nat.{mul-le}
use Rattle.cam_units.specs.Board.{IsPlace, place_limit}
use Rattle.cam_units.specs.declared.point.Spot.{Spot}
use Rattle.cam_tiles.specs.declared.window.Window.{Window}
use Rattle.cam_tiles.specs.Picture.{IsAcceptedWindow, AcceptLaw, accepts, middle, centre_of}
use Rattle.cam_tiles.specs.Picture.{is_side, is_pitch, are_near, longest_side}

-- a coordinate of a place of the board
abbrev pub IsNear : ℤ → Type 0
IsNear n = unsigned_abs n < place_limit

-- the middles between two that are near are near
between : (e : ℤ) (a b c : ℕ) → a ≤ b → b ≤ c → IsNear (pos 2 *ℤ e +ℤ pos a) → IsNear (pos 2 *ℤ e +ℤ pos c)
    → IsNear (pos 2 *ℤ e +ℤ pos b)
between e a b c h k first last = omega (arith, ints)

middle_between : (e p : ℤ) (n m : ℕ) → pos 1 ≤ℤ p → n ≤ m → IsNear (middle e p 0) → IsNear (middle e p m)
    → IsNear (middle e p n)
middle_between e p n m h k first last = grind (arith, mul-le, between, ints)

pub le_of : (a b : ℤ) → int_le a b ≡ true → a ≤ℤ b
le_of a b h = grind (arith, ints)

pub from_le : (a b : ℤ) → a ≤ℤ b → int_le a b ≡ true
from_le a b h = grind (arith, ints)

side : (n : ℕ) → is_side n ≡ true → (1 ≤ n) × (n ≤ longest_side)
side n h = let both = and_parts _ _ h in (leb-true _ _ both.0, leb-true _ _ both.1)

from_side : (n : ℕ) → (1 ≤ n) × (n ≤ longest_side) → is_side n ≡ true
from_side n h = and_from _ _ (le-leb _ _ h.0) (le-leb _ _ h.1)

near : (e p : ℤ) (n m : ℕ) → pos 1 ≤ℤ p → n < m → are_near e p m ≡ true → IsNear (middle e p n)
near e p n m some within h = grind (arith, and_parts, middle_between, ltb-true)

pub accepted : (w : Window) → accepts w ≡ true → IsAcceptedWindow w
unfolding accepts
accepted w h =
    let one = and_parts _ _ h in
    let two = and_parts _ _ one.1 in
    let three = and_parts _ _ two.1 in
    let four = and_parts _ _ three.1 in
    let pitch = and_parts _ _ three.0 in
    let some : pos 1 ≤ℤ w.pitch = le_of _ _ pitch.0 in
    record {
      width = side w.width one.0;
      height = side w.height two.0;
      pitch = (some, le_of _ _ pitch.1);
      centres = λ column row c r. record {
        x = near w.x w.pitch column w.width some c four.0;
        y = near w.y w.pitch (w.height - 1 - row) w.height some (omega arith) four.1;
      };
    }

from_accepted : (w : Window) → IsAcceptedWindow w → accepts w ≡ true
unfolding accepts
from_accepted w h =
    let wide : 0 < w.width = h.width.0 in
    let tall : 0 < w.height = h.height.0 in
    let upper : IsPlace (centre_of w 0 0) = h.centres 0 0 wide tall in
    let lower : IsPlace (centre_of w (w.width - 1) (w.height - 1)) =
    h.centres (w.width - 1) (w.height - 1) (omega arith) (omega arith) in
    let top : w.height - 1 - 0 ≡ w.height - 1 = omega arith in
    let bottom : w.height - 1 - (w.height - 1) ≡ 0 = omega arith in
    let P : ℕ → Type 0 = λ n. IsNear (middle w.y w.pitch n) in
    and_from _ _ (from_side w.width h.width)
    (and_from _ _ (from_side w.height h.height)
    (and_from _ _ (and_from _ _ (from_le _ _ h.pitch.0) (from_le _ _ h.pitch.1))
    (and_from _ _
    (and_from _ _ (lt-ltb _ _ upper.x) (lt-ltb _ _ lower.x))
    (and_from _ _ (lt-ltb _ _ (subst P bottom lower.y)) (lt-ltb _ _ (subst P top upper.y))))))

pub accept_law : AcceptLaw
accept_law w = (accepted w, from_accepted w)

-- a signed number as code of 128 bits keeps it
abbrev pub kept : ℤ → ℤ
kept z = cast_signed w128 (cast_unsigned w128 z)

kept-is : (z : ℤ) → unsigned_abs z < 2 ^ 127 → kept z ≡ z
kept-is z h = to_z-of_z w128 z (fits_signed_from_abs w128 z h)

sum_bound : (e z : ℤ) → unsigned_abs e ≤ 2 ^ 63 → unsigned_abs z ≤ 2 ^ 97 → unsigned_abs (pos 2 *ℤ e +ℤ z) < 2 ^ 127
sum_bound e z h k = omega (arith, ints)

twice_bound : (e : ℤ) → unsigned_abs e ≤ 2 ^ 63 → unsigned_abs (pos 2 *ℤ e) < 2 ^ 127
twice_bound e h = omega (arith, ints)

product_bound : (n p : ℤ) → unsigned_abs n ≤ 2 ^ 34 → unsigned_abs p ≤ 2 ^ 63 → unsigned_abs (n *ℤ p) ≤ 2 ^ 97
product_bound n p h k = grind (arith, unsigned_abs-mul, mul-le)

-- the middle of a pixel as the code computes it
pub middle_kept : (e n p edge pitch : ℤ) (pixel : ℕ) → e ≡ edge → n ≡ pos (2 * pixel + 1) → p ≡ pitch
    → FitsSigned w64 edge → pixel < 2 ^ 32 → FitsSigned w64 pitch
    → kept (pos 2 *ℤ kept e) +ℤ kept (kept n *ℤ kept p) ≡ middle edge pitch pixel
middle_kept e n p edge pitch pixel is_edge is_count is_pitch edge_fits few pitch_fits =
    grind (arith, ints, product_bound, kept-is, twice_bound)

middle_bound : (edge pitch : ℤ) (pixel : ℕ) → FitsSigned w64 edge → pixel < 2 ^ 32 → FitsSigned w64 pitch
    → unsigned_abs (middle edge pitch pixel) < 2 ^ 127
middle_bound edge pitch pixel edge_fits few pitch_fits = search (rules, ints, sum_bound, product_bound)

pub middle_fits : (z edge pitch : ℤ) (pixel : ℕ) → z ≡ middle edge pitch pixel
    → FitsSigned w64 edge → pixel < 2 ^ 32 → FitsSigned w64 pitch → FitsSigned w128 z
middle_fits z edge pitch pixel e edge_fits few pitch_fits =
    let bound = middle_bound edge pitch pixel edge_fits few pitch_fits in
    fits_signed_from_abs w128 z (omega (arith, ap unsigned_abs e, bound))

pub kept_middle : (z edge pitch : ℤ) (pixel : ℕ) → z ≡ middle edge pitch pixel
    → FitsSigned w64 edge → pixel < 2 ^ 32 → FitsSigned w64 pitch → kept z ≡ middle edge pitch pixel
kept_middle z edge pitch pixel e edge_fits few pitch_fits = grind (arith, to_z-of_z, middle_fits)

-- a centre of an accepted window, as the code casts it
cast_near : (z m : ℤ) → z ≡ m → IsNear m → cast_signed w64 (cast_unsigned w64 (kept z)) ≡ m
cast_near z m e h = grind (arith, kept-is, to_z-of_z, fits_signed_from_abs)

pub near_fits : (z m : ℤ) → z ≡ m → IsNear m → FitsSigned w64 (kept z)
near_fits z m e h = grind (arith, kept-is, fits_signed_from_abs)

-- a spot as the code casts it
abbrev pub spot_cast : ℤ → ℤ → Spot
spot_cast x y =
    record { x = cast_signed w64 (cast_unsigned w64 (kept x)); y = cast_signed w64 (cast_unsigned w64 (kept y)) }

pub centre_cast : (w : Window) (column row : ℕ) (x y : ℤ)
    → x ≡ middle w.x w.pitch column → y ≡ middle w.y w.pitch (w.height - 1 - row)
    → IsPlace (centre_of w column row) → spot_cast x y ≡ centre_of w column row
centre_cast w column row x y e e' h = grind (arith, cast_near)
