-- A turn of an obround is a turn of its places: an axis that is reversed does not change it, and a
-- quarter turn exchanges the axes and the sides.
use Rattle.std.proofs.Common.{◌≡◌, ◌↔◌, ◌*◌, ◌≤◌, ℤ, pos, neg_ℤ, ◌+ℤ◌, ◌-ℤ◌, ◌*ℤ◌, ◌≤ℤ◌, ◌<ℤ◌, ◌⊎◌, inl, inr, refl, ap, sym, ◌∙◌, arith}
use Rattle.std.specs.Int.RustNames.{unsigned_abs}
use Rattle.std.proofs.lemmas.Int.{ints, by_lt_z}
use Rattle.std.proofs.lemmas.Nat.{mul-le}
use Rattle.cam_units.specs.declared.length.Nm.{Nm}
use Rattle.cam_units.specs.declared.point.Point.{Point}
use Rattle.cam_units.specs.declared.point.Spot.{Spot}
use Rattle.cam_units.specs.declared.turn.Turn.{Turn}
use Rattle.cam_units.specs.declared.turn.Turn.TheVariants.{R0, R90, R180, R270, M0, M90, M180, M270}
use Rattle.cam_units.specs.Turns.{matrix_of}
use Rattle.cam_shapes.specs.declared.vector.Vector.{Vector}
use Rattle.cam_shapes.specs.Box.{swapped, IsAlong, IsInObround, IsRounded}
use Rattle.cam_shapes.specs.Plane.{seen_from, square, IsNoLonger}
use Rattle.cam_apertures.specs.Laws.{turned_spot}
use Rattle.cam_apertures.specs.Turned.{turned_height, turned_point, turned_width}

-- a coordinate, kept or negated
abbrev IsLike : ℤ → ℤ → Type 0
IsLike a b = (a ≡ b) ⊎ (a ≡ neg_ℤ b)

like_back : (a b : ℤ) → IsLike a b → IsLike b a
like_back a b it = grind (arith, ints)

like_size : (a b : ℤ) → IsLike a b → unsigned_abs a ≡ unsigned_abs b
like_size a b it = grind (arith, ints)

square_is : (z : ℤ) → z *ℤ z ≡ pos (unsigned_abs z * unsigned_abs z)
square_is z = grind arith

size_square : (a b : ℤ) → unsigned_abs a ≡ unsigned_abs b → a *ℤ a ≡ b *ℤ b
size_square a b e = square_is a ∙ ap (λ n. pos (n * n)) e ∙ sym (square_is b)

within_by : (a b c d r : ℤ) → unsigned_abs a ≡ unsigned_abs c → unsigned_abs b ≡ unsigned_abs d → (a *ℤ a +ℤ b *ℤ b) ≤ℤ square r → (c *ℤ c +ℤ d *ℤ d) ≤ℤ square r
within_by a b c d r e f h = rw (sym (size_square a c e), sym (size_square b d f)) h

-- an obround along the x axis does not change where an axis is reversed
along_like : (v w : Vector) (n r : ℤ) → IsLike v.x w.x → IsLike v.y w.y → IsAlong v n r → IsAlong w n r
along_like v w n r x y (inl h) = inl (record {
  across = rw (sym (like_size v.x w.x x)) h.across;
  along = rw (sym (like_size v.y w.y y)) h.along;
})
along_like v w n r (inl x) y (inr (inl h)) = inr (inl (within_by (v.x +ℤ n) v.y (w.x +ℤ n) w.y r (ap (λ z. unsigned_abs (z +ℤ n)) x) (like_size v.y w.y y) h))
along_like v w n r (inr x) y (inr (inl h)) = inr (inr (within_by (v.x +ℤ n) v.y (w.x -ℤ n) w.y r (omega (arith, ints)) (like_size v.y w.y y) h))
along_like v w n r (inl x) y (inr (inr h)) = inr (inr (within_by (v.x -ℤ n) v.y (w.x -ℤ n) w.y r (ap (λ z. unsigned_abs (z -ℤ n)) x) (like_size v.y w.y y) h))
along_like v w n r (inr x) y (inr (inr h)) = inr (inl (within_by (v.x -ℤ n) v.y (w.x +ℤ n) w.y r (omega (arith, ints)) (like_size v.y w.y y) h))

rounded_like : (v w : Vector) (a b : ℤ) → IsLike v.x w.x → IsLike v.y w.y → IsRounded v a b → IsRounded w a b
rounded_like v w a b x y (inl h) = inl (h.0, along_like v w (a -ℤ b) b x y h.1)
rounded_like v w a b x y (inr h) = inr (h.0, along_like (swapped v) (swapped w) (b -ℤ a) a y x h.1)

-- where both sides are the same, an obround is a disc
in_disc_between : (x y n r : ℤ) → n ≡ pos 0 → pos 0 <ℤ r → pos (unsigned_abs x) ≤ℤ n → pos (unsigned_abs y) ≤ℤ r → (x *ℤ x +ℤ y *ℤ y) ≤ℤ square r
in_disc_between x y n r e some a b =
    let none : unsigned_abs x ≡ 0 = omega (arith, ints) in
    let low : unsigned_abs y ≤ unsigned_abs r = omega (arith, ints) in
    omega (arith, ints, square_is x, square_is y, square_is r, ap (λ k. k * k) none, mul-le (unsigned_abs y) (unsigned_abs y) (unsigned_abs r) (unsigned_abs r) low low)

to_disc : (v : Vector) (n r : ℤ) → n ≡ pos 0 → pos 0 <ℤ r → IsAlong v n r → IsNoLonger v r
to_disc v n r e some (inl h) = in_disc_between v.x v.y n r e some h.across h.along
to_disc v n r e some (inr (inl h)) = within_by (v.x +ℤ n) v.y v.x v.y r (omega (arith, ints)) refl h
to_disc v n r e some (inr (inr h)) = within_by (v.x -ℤ n) v.y v.x v.y r (omega (arith, ints)) refl h

from_disc : (v : Vector) (n r : ℤ) → n ≡ pos 0 → IsNoLonger v r → IsAlong v n r
from_disc v n r e h = inr (inl (within_by v.x v.y (v.x +ℤ n) v.y r (omega (arith, ints)) refl h))

sum_exchanged : (a b : ℤ) → a +ℤ b ≡ b +ℤ a
sum_exchanged a b = omega (arith, ints)

within_exchanged : (v w : Vector) (r q : ℤ) → IsLike v.x w.y → IsLike v.y w.x → r ≡ q → IsNoLonger v r → IsNoLonger w q
within_exchanged v w r q x y e h = grind (arith, within_by, like_size, sum_exchanged)

less_at_most : (a b : ℤ) → a <ℤ b → a ≤ℤ b
less_at_most a b h = omega (arith, ints)

-- the axes and the sides exchanged
rounded_exchanged : (v w : Vector) (a b : ℤ) → pos 0 <ℤ a → pos 0 <ℤ b → IsLike v.x w.y → IsLike v.y w.x → IsRounded v a b → IsRounded w b a
rounded_exchanged v w a b some any x y (inl h) =
    by_lt_z b a
    (λ less. inr (less, along_like v (swapped w) (a -ℤ b) b x y h.1))
    (λ most. inl (most, from_disc w (b -ℤ a) a (omega (arith, ints, h.0, most)) (within_exchanged v w b a x y (omega (arith, ints, h.0, most)) (to_disc v (a -ℤ b) b (omega (arith, ints, h.0, most)) any h.1))))
rounded_exchanged v w a b some any x y (inr h) = inl (less_at_most a b h.0, along_like (swapped v) w (b -ℤ a) a y x h.1)

pub obround_turned : (t : Turn) (p : Point) (w h : Nm) (s : Spot)
    → IsInObround (turned_spot (matrix_of t) s) (record { centre = turned_point t p; width = turned_width t w h; height = turned_height t w h }) ↔ IsInObround s (record { centre = p; width = w; height = h })
obround_turned R0 p w h s =
    let v = seen_from (turned_point R0 p) (turned_spot (matrix_of R0) s) in
    let u = seen_from p s in
    let x : IsLike v.x u.x = (inl (omega (arith, ints))) in
    let y : IsLike v.y u.y = (inl (omega (arith, ints))) in (
      (λ k. record { wide = k.wide; high = k.high; rounded = rounded_like v u w.0 h.0 x y k.rounded }),
      (λ k. record { wide = k.wide; high = k.high; rounded = rounded_like u v w.0 h.0 (like_back v.x u.x x) (like_back v.y u.y y) k.rounded }),
    )
obround_turned R90 p w h s =
    let v = seen_from (turned_point R90 p) (turned_spot (matrix_of R90) s) in
    let u = seen_from p s in
    let x : IsLike v.x u.y = (inr (omega (arith, ints))) in
    let y : IsLike v.y u.x = (inl (omega (arith, ints))) in (
      (λ k. record { wide = k.high; high = k.wide; rounded = rounded_exchanged v u h.0 w.0 k.wide k.high x y k.rounded }),
      (λ k. record { wide = k.high; high = k.wide; rounded = rounded_exchanged u v w.0 h.0 k.wide k.high (like_back v.y u.x y) (like_back v.x u.y x) k.rounded }),
    )
obround_turned R180 p w h s =
    let v = seen_from (turned_point R180 p) (turned_spot (matrix_of R180) s) in
    let u = seen_from p s in
    let x : IsLike v.x u.x = (inr (omega (arith, ints))) in
    let y : IsLike v.y u.y = (inr (omega (arith, ints))) in (
      (λ k. record { wide = k.wide; high = k.high; rounded = rounded_like v u w.0 h.0 x y k.rounded }),
      (λ k. record { wide = k.wide; high = k.high; rounded = rounded_like u v w.0 h.0 (like_back v.x u.x x) (like_back v.y u.y y) k.rounded }),
    )
obround_turned R270 p w h s =
    let v = seen_from (turned_point R270 p) (turned_spot (matrix_of R270) s) in
    let u = seen_from p s in
    let x : IsLike v.x u.y = (inl (omega (arith, ints))) in
    let y : IsLike v.y u.x = (inr (omega (arith, ints))) in (
      (λ k. record { wide = k.high; high = k.wide; rounded = rounded_exchanged v u h.0 w.0 k.wide k.high x y k.rounded }),
      (λ k. record { wide = k.high; high = k.wide; rounded = rounded_exchanged u v w.0 h.0 k.wide k.high (like_back v.y u.x y) (like_back v.x u.y x) k.rounded }),
    )
obround_turned M0 p w h s =
    let v = seen_from (turned_point M0 p) (turned_spot (matrix_of M0) s) in
    let u = seen_from p s in
    let x : IsLike v.x u.x = (inr (omega (arith, ints))) in
    let y : IsLike v.y u.y = (inl (omega (arith, ints))) in (
      (λ k. record { wide = k.wide; high = k.high; rounded = rounded_like v u w.0 h.0 x y k.rounded }),
      (λ k. record { wide = k.wide; high = k.high; rounded = rounded_like u v w.0 h.0 (like_back v.x u.x x) (like_back v.y u.y y) k.rounded }),
    )
obround_turned M90 p w h s =
    let v = seen_from (turned_point M90 p) (turned_spot (matrix_of M90) s) in
    let u = seen_from p s in
    let x : IsLike v.x u.y = (inr (omega (arith, ints))) in
    let y : IsLike v.y u.x = (inr (omega (arith, ints))) in (
      (λ k. record { wide = k.high; high = k.wide; rounded = rounded_exchanged v u h.0 w.0 k.wide k.high x y k.rounded }),
      (λ k. record { wide = k.high; high = k.wide; rounded = rounded_exchanged u v w.0 h.0 k.wide k.high (like_back v.y u.x y) (like_back v.x u.y x) k.rounded }),
    )
obround_turned M180 p w h s =
    let v = seen_from (turned_point M180 p) (turned_spot (matrix_of M180) s) in
    let u = seen_from p s in
    let x : IsLike v.x u.x = (inl (omega (arith, ints))) in
    let y : IsLike v.y u.y = (inr (omega (arith, ints))) in (
      (λ k. record { wide = k.wide; high = k.high; rounded = rounded_like v u w.0 h.0 x y k.rounded }),
      (λ k. record { wide = k.wide; high = k.high; rounded = rounded_like u v w.0 h.0 (like_back v.x u.x x) (like_back v.y u.y y) k.rounded }),
    )
obround_turned M270 p w h s =
    let v = seen_from (turned_point M270 p) (turned_spot (matrix_of M270) s) in
    let u = seen_from p s in
    let x : IsLike v.x u.y = (inl (omega (arith, ints))) in
    let y : IsLike v.y u.x = (inl (omega (arith, ints))) in (
      (λ k. record { wide = k.high; high = k.wide; rounded = rounded_exchanged v u h.0 w.0 k.wide k.high x y k.rounded }),
      (λ k. record { wide = k.high; high = k.wide; rounded = rounded_exchanged u v w.0 h.0 k.wide k.high (like_back v.y u.x y) (like_back v.x u.y x) k.rounded }),
    )
