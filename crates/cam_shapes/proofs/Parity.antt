-- Odd counts, and tests that change a side.
use Rattle.std.proofs.Common.{◌≡◌, ◌↔◌, ℕ, ◌+◌, ◌%◌, Bool, cond, IsTrue, List, [], ◌∷◌, count_by, ap, ◌∙◌, sym, arith}
use Rattle.std.proofs.lemmas.Bool.{false≢true}
use Rattle.std.proofs.lemmas.List.Sums.{sum_by-cons}
use Rattle.cam_units.specs.declared.point.Point.{Point}
use Rattle.cam_units.specs.declared.point.Spot.{Spot}
use Rattle.cam_shapes.specs.declared.segments.Seg.{Seg}
use Rattle.cam_shapes.specs.declared.segments.Seg.TheVariants.{Line, Curve}
use Rattle.cam_shapes.specs.declared.cap.Cap.{Cap}
use Rattle.cam_shapes.specs.declared.contour.Contour.{Contour}
use Rattle.cam_shapes.specs.Edge.{edge, crosses_ray}
use Rattle.cam_shapes.specs.Cap.{is_in_cap}
use Rattle.cam_shapes.specs.Contour.{caps_from, edges_from, IsInContour}
use Rattle.cam_shapes.specs.Sides.{change_side, differ}

abbrev pub one_if : Bool → ℕ
one_if b = cond b 1 0

pub count_by-cons : {X : Type 0} (p : X → Bool) (x : X) (xs : List X)
    → count_by p (x ∷ xs) ≡ one_if (p x) + count_by p xs
count_by-cons p x xs = sum_by-cons (λ y. one_if (p y)) x xs

one_more : (b t : Bool) (k m n : ℕ) → k ≡ one_if b + m → (m + n) % 2 ≡ one_if t → (k + n) % 2 ≡ one_if (differ b t)
one_more b t k m n e f = grind arith

two_more : (b d t : Bool) (k j m n : ℕ) → k ≡ one_if b + m → j ≡ one_if d + n → (m + n) % 2 ≡ one_if t
    → (k + j) % 2 ≡ one_if (differ (differ b d) t)
two_more b d t k j m n e f g = grind arith

alone : (b : Bool) (k : ℕ) → k ≡ one_if b + 0 → (k + 0) % 2 ≡ one_if b
alone b k e = grind arith

parity : (s : Spot) (start here : Point) (segs : List Seg)
    → (count_by (crosses_ray s) (edges_from start here segs) + count_by (is_in_cap s) (caps_from here segs)) % 2
    ≡ one_if (change_side s start here segs)
parity s start here [] =
    alone (crosses_ray s (edge here start)) (count_by (crosses_ray s) (edges_from start here []))
    (count_by-cons (crosses_ray s) (edge here start) [])
parity s start here (Line to ∷ segs) =
    one_more (crosses_ray s (edge here to)) (change_side s start to segs)
    (count_by (crosses_ray s) (edges_from start here (Line to ∷ segs)))
    (count_by (crosses_ray s) (edges_from start to segs)) (count_by (is_in_cap s) (caps_from to segs))
    (count_by-cons (crosses_ray s) (edge here to) (edges_from start to segs))
    (parity s start to segs)
parity s start here (Curve to centre ccw ∷ segs) =
    let cap : Cap = record { from = here; to = to; centre = centre; ccw = ccw } in
    two_more (crosses_ray s (edge here to)) (is_in_cap s cap) (change_side s start to segs)
    (count_by (crosses_ray s) (edge here to ∷ edges_from start to segs))
    (count_by (is_in_cap s) (cap ∷ caps_from to segs))
    (count_by (crosses_ray s) (edges_from start to segs)) (count_by (is_in_cap s) (caps_from to segs))
    (count_by-cons (crosses_ray s) (edge here to) (edges_from start to segs))
    (count_by-cons (is_in_cap s) cap (caps_from to segs))
    (parity s start to segs)

odd_is : (n : ℕ) (b : Bool) → n % 2 ≡ one_if b → IsTrue b ↔ (n % 2 ≡ 1)
odd_is n b e = grind (arith, false≢true)

pub sides_are_parity : (s : Spot) (c : Contour) (b : Bool) → b ≡ change_side s c.start c.start c.segs
    → IsTrue b ↔ IsInContour s c
sides_are_parity s c b e =
    odd_is
    (count_by (crosses_ray s) (edges_from c.start c.start c.segs) + count_by (is_in_cap s) (caps_from c.start c.segs)) b
    (parity s c.start c.start c.segs ∙ ap (λ t. one_if t) (sym e))
