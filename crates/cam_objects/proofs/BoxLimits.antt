-- boxes whose corners stand in order, at most n from the origin
use Rattle.std.proofs.Common.{◌≡◌, ℕ, ◌+◌, ◌*◌, ◌^◌, ◌<◌, ◌≤◌, false, ◌||◌, ℤ, pos, neg_ℤ, ◌+ℤ◌, ◌-ℤ◌, ◌*ℤ◌, ◌≤ℤ◌, List, [], ◌∷◌, arith}
use Rattle.std.specs.Prelude.{fold, ⊤}
use Rattle.std.specs.List.{All}
use Rattle.std.specs.Int.{int_min, int_max}
use Rattle.std.specs.Int.RustNames.{int_lt, unsigned_abs}
use Rattle.std.proofs.lemmas.Int.{ints, clamps}
use Rattle.std.proofs.lemmas.List.Elements.{All-head, All-tail}
use Rattle.cam_units.specs.declared.bounds.Bounds.{Bounds}
use Rattle.cam_units.specs.declared.bounds.Bounds.TheVariants.{Empty, Closed}
use Rattle.cam_units.specs.declared.point.Point.{Point}
use Rattle.cam_units.specs.declared.point.Spot.{Spot}
use Rattle.cam_units.specs.declared.turn.Turn.{Turn}
use Rattle.cam_units.specs.Boxes.{has_no_place, join_of}
use Rattle.cam_shapes.specs.Plane.{place_of}
use Rattle.cam_apertures.specs.Primitives.{box_about, box_of_point}
use Rattle.cam_apertures.specs.Turned.{turned_box}
use Rattle.cam_objects.specs.Bounds.{box_of_all, moved, widened}
use Rattle.cam_objects.specs.Machinery.Boxes.{IsNearBox, IsUncrossed}
use Rattle.cam_objects.proofs.BoxJoins.{joined}

-- so many half nm from left to right
pub record IsSpan (n : ℕ) (low high : ℤ) : Type 0 where
  pub order : low ≤ℤ high
  pub least : neg_ℤ (pos n) ≤ℤ low
  pub most : high ≤ℤ pos n

abbrev pub IsBoxWithin : ℕ → Bounds → Type 0
IsBoxWithin n Empty = ⊤
IsBoxWithin n (Closed low high) = IsSpan n low.x high.x × IsSpan n low.y high.y

not_less : (a b : ℤ) → b ≤ℤ a → int_lt a b ≡ false
not_less a b h = grind (arith, ints)

pub has_place : (n : ℕ) (low high : Spot) → IsBoxWithin n (Closed low high) → has_no_place (Closed low high) ≡ false
has_place n low high h = λ i. not_less high.x low.x h.0.order i || not_less high.y low.y h.1.order i

pub within_uncrossed : (n : ℕ) (b : Bounds) → IsBoxWithin n b → IsUncrossed b
within_uncrossed n b h none = grind (arith, has_place)

span_near : (n : ℕ) (low high : ℤ) → n < 2 ^ 33 → IsSpan n low high → (unsigned_abs low < 2 ^ 33) × (unsigned_abs high < 2 ^ 33)
span_near n low high few h = (omega (arith, ints, h.order, h.least, h.most), omega (arith, ints, h.order, h.least, h.most))

pub within_near : (n : ℕ) (b : Bounds) → n < 2 ^ 33 → IsBoxWithin n b → IsNearBox b
within_near n b few h = grind (arith, span_near)

span_both : (n : ℕ) (a b c d : ℤ) → IsSpan n a b → IsSpan n c d → IsSpan n (int_min a c) (int_max b d)
span_both n a b c d h k = grind (arith, ints, clamps)

pub within_join : (n : ℕ) (a b : Bounds) → IsBoxWithin n a → IsBoxWithin n b → IsBoxWithin n (join_of a b)
within_join n a b h k = grind (arith, joined, has_place, span_both)

pub within_from : {X : Type 0} (n : ℕ) (f : X → Bounds) (z : Bounds) (xs : List X) → IsBoxWithin n z → All (λ x. IsBoxWithin n (f x)) xs
    → IsBoxWithin n (fold (λ all x. join_of all (f x)) z xs)
within_from n f z [] h all = h
within_from n f z (x ∷ xs) h all =
    within_from n f (join_of z (f x)) xs (within_join n z (f x) h (All-head (λ x. IsBoxWithin n (f x)) x xs all))
    (All-tail (λ x. IsBoxWithin n (f x)) x xs all)

pub within_all : {X : Type 0} (n : ℕ) (f : X → Bounds) (xs : List X) → All (λ x. IsBoxWithin n (f x)) xs → IsBoxWithin n (box_of_all f xs)
within_all n f xs all = within_from n f Empty xs tt all

span_less : (m n : ℕ) (low high : ℤ) → m ≤ n → IsSpan m low high → IsSpan n low high
span_less m n low high few h = record { order = h.order; least = omega (arith, ints, h.least); most = omega (arith, ints, h.most) }

pub within_less : (m n : ℕ) (b : Bounds) → m ≤ n → IsBoxWithin m b → IsBoxWithin n b
within_less m n b few h = grind (arith, span_less)

span_minus : (n : ℕ) (low high : ℤ) → IsSpan n low high → IsSpan n (neg_ℤ high) (neg_ℤ low)
span_minus n low high h = grind (arith, ints)

pub within_turned : (n : ℕ) (t : Turn) (b : Bounds) → IsBoxWithin n b → IsBoxWithin n (turned_box t b)
within_turned n t b h = grind (arith, span_minus)

span_moved : (m n : ℕ) (low high by : ℤ) → unsigned_abs by ≤ m → IsSpan n low high
    → IsSpan (n + 2 * m) (low +ℤ pos 2 *ℤ by) (high +ℤ pos 2 *ℤ by)
span_moved m n low high by far h = grind (arith, ints)

pub within_moved : (m n : ℕ) (by : Point) (b : Bounds) → unsigned_abs by.x ≤ m → unsigned_abs by.y ≤ m → IsBoxWithin n b
    → IsBoxWithin (n + 2 * m) (moved by b)
within_moved m n by b x y h = grind (arith, span_moved)

span_widened : (m n : ℕ) (low high by : ℤ) → pos 0 ≤ℤ by → by ≤ℤ pos m → IsSpan n low high → IsSpan (n + m) (low -ℤ by) (high +ℤ by)
span_widened m n low high by some few h = grind (arith, ints)

pub within_widened : (m n : ℕ) (by : ℤ) (b : Bounds) → pos 0 ≤ℤ by → by ≤ℤ pos m → IsBoxWithin n b → IsBoxWithin (n + m) (widened by b)
within_widened m n by b some few h = grind (arith, span_widened)

-- boxes about a point that is at most k nm from the origin along each axis
span_about : (k m : ℕ) (p by : ℤ) → unsigned_abs p ≤ k → pos 0 ≤ℤ by → by ≤ℤ pos m
    → IsSpan (2 * k + m) (pos 2 *ℤ p -ℤ by) (pos 2 *ℤ p +ℤ by)
span_about k m p by far some few = grind (arith, ints)

pub within_about : (k m : ℕ) (p : Point) (w h : ℤ) → unsigned_abs p.x ≤ k → unsigned_abs p.y ≤ k
    → pos 0 ≤ℤ w → w ≤ℤ pos m → pos 0 ≤ℤ h → h ≤ℤ pos m → IsBoxWithin (2 * k + m) (box_about (place_of p) w h)
within_about k m p w h x y a b c d = (span_about k m p.x w x a b, span_about k m p.y h y c d)

span_point : (k : ℕ) (p : ℤ) → unsigned_abs p ≤ k → IsSpan (2 * k) (pos 2 *ℤ p) (pos 2 *ℤ p)
span_point k p far = record { order = omega (arith, ints); least = omega (arith, ints); most = omega (arith, ints) }

pub within_point : (k : ℕ) (p : Point) → unsigned_abs p.x ≤ k → unsigned_abs p.y ≤ k → IsBoxWithin (2 * k) (box_of_point p)
within_point k p x y = (span_point k p.x x, span_point k p.y y)
