-- How far a place lies from a point, that is in a disc about the point or beside a way from it.
use Rattle.std.proofs.Common.{◌≡◌, ℕ, ◌*◌, ◌≤◌, ℤ, pos, ◌+ℤ◌, ◌-ℤ◌, ◌*ℤ◌, ◌≤ℤ◌, ◌<ℤ◌, ap, sym, arith}
use Rattle.std.specs.Int.RustNames.{unsigned_abs}
use Rattle.std.proofs.lemmas.Int.{ints, by_lt_z, unsigned_abs-mul}
use Rattle.std.proofs.lemmas.Nat.{mul-le}
use Rattle.cam_units.proofs.Ring.{Polynomial, Atom, Sum, Difference, Product, equal}
use Rattle.cam_shapes.specs.declared.vector.Vector.{Vector}
use Rattle.cam_shapes.specs.Bar.{IsBeside}
use Rattle.cam_shapes.specs.Plane.{IsNoLonger, cross, dot, square}
use Rattle.cam_shapes.proofs.Crossings.{product_above}
use Rattle.cam_shapes.proofs.Strokes.{squares_order}
use Rattle.cam_shapes.proofs.Widths.{square_is}

-- a way of at most d leads at most d along each axis
pub leg : (v : Vector) (d : ℤ) → IsNoLonger v d → unsigned_abs v.x ≤ unsigned_abs d
leg v d h = grind (arith, squares_order, ints, square_is)

pub other_leg : (v : Vector) (d : ℤ) → IsNoLonger v d → unsigned_abs v.y ≤ unsigned_abs d
other_leg v d h = grind (arith, squares_order, ints, square_is)

-- products of numbers that are not negative
least : (w r : ℤ) → pos 0 ≤ℤ w → pos 0 ≤ℤ r → pos 0 ≤ℤ (w *ℤ r)
least w r p q = grind (arith, ints)

pub gap : (u v : ℤ) → u ≤ℤ v → pos 0 ≤ℤ (v -ℤ u)
gap u v h = omega (arith, ints)

more : (u v : ℤ) → u <ℤ v → pos 0 <ℤ (v -ℤ u)
more u v h = omega (arith, ints)

-- m * l - a * d, where l - d and m - a are not negative
share : (m a l d : ℤ) → m *ℤ l -ℤ a *ℤ d ≡ m *ℤ (l -ℤ d) +ℤ (m -ℤ a) *ℤ d
share m a l d =
    equal
    (Difference (Product (Atom m) (Atom l)) (Product (Atom a) (Atom d)))
    (Sum (Product (Atom m) (Difference (Atom l) (Atom d))) (Product (Difference (Atom m) (Atom a)) (Atom d)))
    (omega arith)

past : (x m w l : ℤ) → (x -ℤ (m +ℤ w)) *ℤ l ≡ x *ℤ l -ℤ m *ℤ l -ℤ w *ℤ l
past x m w l =
    equal
    (Product (Difference (Atom x) (Sum (Atom m) (Atom w))) (Atom l))
    (Difference (Difference (Product (Atom x) (Atom l)) (Product (Atom m) (Atom l))) (Product (Atom w) (Atom l)))
    (omega arith)

at_most_part : (u v p q : ℤ) → u -ℤ v ≡ p +ℤ q → pos 0 ≤ℤ p → pos 0 ≤ℤ q → v ≤ℤ u
at_most_part u v p q e a b = omega (arith, ints)

too_far : (xl ml wl ad e : ℤ) → xl ≡ ad +ℤ e → ad ≤ℤ ml → e ≤ℤ wl → pos 0 <ℤ (xl -ℤ ml -ℤ wl) → ⊥
too_far xl ml wl ad e f g h k = omega (arith, ints)

-- x * l is a * d and at most w * l more, where d is from 0 to l: x is at most w past the greater of a and 0
pub reach : (x a d l e w m : ℤ) → pos 0 <ℤ l → pos 0 ≤ℤ d → d ≤ℤ l → a ≤ℤ m → pos 0 ≤ℤ m → x *ℤ l ≡ a *ℤ d +ℤ e
    → e ≤ℤ (w *ℤ l) → x ≤ℤ (m +ℤ w)
reach x a d l e w m long from to over some is small =
    by_lt_z (m +ℤ w) x
    (λ less. absurd (too_far (x *ℤ l) (m *ℤ l) (w *ℤ l) (a *ℤ d) e is
    (at_most_part (m *ℤ l) (a *ℤ d) (m *ℤ (l -ℤ d)) ((m -ℤ a) *ℤ d) (share m a l d)
    (least m (l -ℤ d) some (gap d l to)) (least (m -ℤ a) d (gap a m over) from))
    small (rw (sym (past x m w l)) (product_above (x -ℤ (m +ℤ w)) l (more (m +ℤ w) x less) long))))
    (λ most. most)

-- a product by the squares of its factors
squares : (a c w l ac wl : ℕ) → ac ≡ a * c → wl ≡ w * l → a * a ≤ l → c * c ≤ w * w * l → ac * ac ≤ wl * wl
squares a c w l ac wl e f h k =
    omega (arith, ap (λ n. n * n) e, ap (λ n. n * n) f, mul-le (a * a) (c * c) l (w * w * l) h k)

natural_product : (n : ℕ) (l : ℤ) → pos 0 ≤ℤ l → pos n *ℤ l ≡ pos (n * unsigned_abs l)
natural_product n l h = grind (arith, ints)

natural_squares : (c w l : ℤ) → pos 0 ≤ℤ l → square c ≤ℤ (square w *ℤ l)
    → unsigned_abs c * unsigned_abs c ≤ unsigned_abs w * unsigned_abs w * unsigned_abs l
natural_squares c w l some h = grind (arith, square_is, natural_product, ints)

pub product_root : (a c w l : ℤ) → square a ≤ℤ l → square c ≤ℤ (square w *ℤ l)
    → unsigned_abs (a *ℤ c) ≤ unsigned_abs (w *ℤ l)
product_root a c w l h k =
    let some : pos 0 ≤ℤ l = omega (arith, ints, h, square_is a) in
    squares_order (unsigned_abs (a *ℤ c)) (unsigned_abs (w *ℤ l))
    (squares (unsigned_abs a) (unsigned_abs c) (unsigned_abs w) (unsigned_abs l)
    (unsigned_abs (a *ℤ c)) (unsigned_abs (w *ℤ l)) (unsigned_abs-mul a c) (unsigned_abs-mul w l)
    (omega (arith, ints, h, square_is a)) (natural_squares c w l some k))

-- a way v by how far it leads along a way a and across it, times the square of that way's length
abbrev two : ℤ → ℤ → Polynomial
two a b = Product (Atom a) (Atom b)

right : (a v : Vector) → v.x *ℤ dot a a ≡ a.x *ℤ dot a v +ℤ (pos 0 -ℤ a.y *ℤ cross a v)
right a v =
    equal
    (Product (Atom v.x) (Sum (two a.x a.x) (two a.y a.y)))
    (Sum (Product (Atom a.x) (Sum (two a.x v.x) (two a.y v.y)))
    (Difference (Atom (pos 0)) (Product (Atom a.y) (Difference (two a.x v.y) (two a.y v.x)))))
    (omega arith)

left : (a v : Vector) → (pos 0 -ℤ v.x) *ℤ dot a a ≡ (pos 0 -ℤ a.x) *ℤ dot a v +ℤ a.y *ℤ cross a v
left a v =
    equal
    (Product (Difference (Atom (pos 0)) (Atom v.x)) (Sum (two a.x a.x) (two a.y a.y)))
    (Sum (Product (Difference (Atom (pos 0)) (Atom a.x)) (Sum (two a.x v.x) (two a.y v.y)))
    (Product (Atom a.y) (Difference (two a.x v.y) (two a.y v.x))))
    (omega arith)

pub over : (a v : Vector) → v.y *ℤ dot a a ≡ a.y *ℤ dot a v +ℤ a.x *ℤ cross a v
over a v =
    equal
    (Product (Atom v.y) (Sum (two a.x a.x) (two a.y a.y)))
    (Sum (Product (Atom a.y) (Sum (two a.x v.x) (two a.y v.y)))
    (Product (Atom a.x) (Difference (two a.x v.y) (two a.y v.x))))
    (omega arith)

under : (a v : Vector) → (pos 0 -ℤ v.y) *ℤ dot a a ≡ (pos 0 -ℤ a.y) *ℤ dot a v +ℤ (pos 0 -ℤ a.x *ℤ cross a v)
under a v =
    equal
    (Product (Difference (Atom (pos 0)) (Atom v.y)) (Sum (two a.x a.x) (two a.y a.y)))
    (Sum (Product (Difference (Atom (pos 0)) (Atom a.y)) (Sum (two a.x v.x) (two a.y v.y)))
    (Difference (Atom (pos 0)) (Product (Atom a.x) (Difference (two a.x v.y) (two a.y v.x)))))
    (omega arith)

pub first_square : (a : Vector) → square a.x ≤ℤ dot a a
first_square a = omega (arith, ints, square_is a.x, square_is a.y)

second_square : (a : Vector) → square a.y ≤ℤ dot a a
second_square a = omega (arith, ints, square_is a.x, square_is a.y)

pub up_to : (z t : ℤ) → unsigned_abs z ≤ unsigned_abs t → pos 0 ≤ℤ t → (z ≤ℤ t) × ((pos 0 -ℤ z) ≤ℤ t)
up_to z t h some = (omega (arith, ints), omega (arith, ints))

at_least : (z : ℤ) → pos 0 <ℤ z → pos 0 ≤ℤ z
at_least z h = omega (arith, ints)

-- a place beside a way a, seen from its start, lies at most w past what is to that side: the start, or the end
pub record IsReached (a v : Vector) (w : ℤ) : Type 0 where
  pub right : (m : ℤ) → a.x ≤ℤ m → pos 0 ≤ℤ m → v.x ≤ℤ (m +ℤ w)
  pub left : (m : ℤ) → (pos 0 -ℤ a.x) ≤ℤ m → pos 0 ≤ℤ m → (pos 0 -ℤ v.x) ≤ℤ (m +ℤ w)
  pub above : (m : ℤ) → a.y ≤ℤ m → pos 0 ≤ℤ m → v.y ≤ℤ (m +ℤ w)
  pub below : (m : ℤ) → (pos 0 -ℤ a.y) ≤ℤ m → pos 0 ≤ℤ m → (pos 0 -ℤ v.y) ≤ℤ (m +ℤ w)

pub reached : (a v : Vector) (w : ℤ) → pos 0 ≤ℤ w → IsBeside a v w → IsReached a v w
reached a v w wide beside =
    let l = dot a a in
    let d = dot a v in
    let c = cross a v in
    let between = beside.between in
    let most : pos 0 ≤ℤ (w *ℤ l) = least w l wide (at_least l between.long) in
    let by_x = up_to (a.x *ℤ c) (w *ℤ l) (product_root a.x c w l (first_square a) beside.near) most in
    let by_y = up_to (a.y *ℤ c) (w *ℤ l) (product_root a.y c w l (second_square a) beside.near) most in
    record {
      right = λ m h k. reach v.x a.x d l (pos 0 -ℤ a.y *ℤ c) w m between.long between.after_start between.before_end
          h k (right a v) by_y.1;
      left = λ m h k. reach (pos 0 -ℤ v.x) (pos 0 -ℤ a.x) d l (a.y *ℤ c) w m between.long between.after_start
          between.before_end h k (left a v) by_y.0;
      above = λ m h k. reach v.y a.y d l (a.x *ℤ c) w m between.long between.after_start between.before_end
          h k (over a v) by_x.0;
      below = λ m h k. reach (pos 0 -ℤ v.y) (pos 0 -ℤ a.y) d l (pos 0 -ℤ a.x *ℤ c) w m between.long
          between.after_start between.before_end h k (under a v) by_x.1;
    }
