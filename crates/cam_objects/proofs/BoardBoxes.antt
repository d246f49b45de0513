-- points lie on the board where their box does
use Rattle.std.proofs.Common.{◌≡◌, ◌<◌, ◌^◌, false, ℤ, pos, ◌*ℤ◌, ◌≤ℤ◌, List, [], ◌∷◌, ◌↔◌, arith}
use Rattle.std.specs.Prelude.{◌||◌, fold}
use Rattle.std.specs.Int.{int_min, int_max}
use Rattle.std.specs.Int.RustNames.{int_lt, unsigned_abs}
use Rattle.std.specs.List.{All}
use Rattle.std.proofs.lemmas.Int.{ints, clamps}
use Rattle.std.proofs.lemmas.List.Elements.{All-cons, All-head, All-nil, All-tail}
use Rattle.cam_units.specs.Board.{IsOnBoard}
use Rattle.cam_units.specs.Boxes.{has_no_place, join_of}
use Rattle.cam_units.specs.declared.bounds.Bounds.{Bounds}
use Rattle.cam_units.specs.declared.bounds.Bounds.TheVariants.{Empty, Closed}
use Rattle.cam_units.specs.declared.point.Point.{Point}
use Rattle.cam_units.specs.declared.point.Spot.{Spot}
use Rattle.cam_apertures.specs.Primitives.{box_of_point}
use Rattle.cam_objects.specs.Bounds.{box_of_all}
use Rattle.cam_objects.specs.Leaves.{Leaf}
use Rattle.cam_objects.specs.Machinery.Boxes.{IsNearBox}
use Rattle.cam_objects.specs.Machinery.Facts.{points_bounds_of, points_box}
use Rattle.cam_objects.specs.Machinery.Inside.{IsBoxOnBoard}
use Rattle.cam_objects.specs.Soundness.{AreOnBoard, points_of_shape}

-- the corners are in order
abbrev pub IsOrdered : Bounds → Type 0
IsOrdered Empty = Unit {0}
IsOrdered (Closed low high) = (low.x ≤ℤ high.x) × (low.y ≤ℤ high.y)

not_before : (a b : ℤ) → a ≤ℤ b → int_lt b a ≡ false
not_before a b h = grind (arith, ints)

pub ordered_some : (low high : Spot) → IsOrdered (Closed low high) → has_no_place (Closed low high) ≡ false
ordered_some low high h = λ i. not_before low.x high.x h.0 i || not_before low.y high.y h.1 i

least_high : (a b c d : ℤ) → a ≤ℤ b → c ≤ℤ d → int_min a c ≤ℤ int_max b d
least_high a b c d h k = omega (arith, ints, clamps)

both : (a b c d : ℤ) → a ≤ℤ b → c ≤ℤ d → unsigned_abs (int_min a c) < 2000000000 → unsigned_abs (int_max b d) < 2000000000
    → (unsigned_abs a < 2000000000) × (unsigned_abs b < 2000000000) × (unsigned_abs c < 2000000000) × (unsigned_abs d < 2000000000)
both a b c d h k l m = (omega (arith, ints, clamps), omega (arith, ints, clamps), omega (arith, ints, clamps), omega (arith, ints, clamps))

least_near : (a c : ℤ) → unsigned_abs a < 2000000000 → unsigned_abs c < 2000000000 → unsigned_abs (int_min a c) < 2000000000
least_near a c h k = omega (arith, ints, clamps)

greatest_near : (a c : ℤ) → unsigned_abs a < 2000000000 → unsigned_abs c < 2000000000 → unsigned_abs (int_max a c) < 2000000000
greatest_near a c h k = omega (arith, ints, clamps)

-- ---- two boxes

pub ordered_join : (a b : Bounds) → IsOrdered a → IsOrdered b → IsOrdered (join_of a b)
ordered_join a b h k = grind (arith, ordered_some, least_high)

pub board_join : (a b : Bounds) → IsOrdered a → IsOrdered b → IsBoxOnBoard (join_of a b) ↔ (IsBoxOnBoard a × IsBoxOnBoard b)
board_join Empty b h k = ((λ x. (tt, x)), (λ x. x.1))
board_join (Closed low high) Empty h k = rw (ordered_some low high h) ((λ x. (x, tt)), (λ x. x.0))
board_join (Closed low high) (Closed low' high') h k =
    rw (ordered_some low high h, ordered_some low' high' k) (
      (λ x.
          let across = both low.x high.x low'.x high'.x h.0 k.0 x.0.x x.1.x in
          let up = both low.y high.y low'.y high'.y h.1 k.1 x.0.y x.1.y in (
            (record { x = across.0; y = up.0 }, record { x = across.1; y = up.1 }),
            (record { x = across.2; y = up.2 }, record { x = across.3; y = up.3 }),
          )),
      (λ x. (
        record { x = least_near low.x low'.x x.0.0.x x.1.0.x; y = least_near low.y low'.y x.0.0.y x.1.0.y },
        record { x = greatest_near high.x high'.x x.0.1.x x.1.1.x; y = greatest_near high.y high'.y x.0.1.y x.1.1.y },
      )),
    )

-- ---- many boxes

module _ {X : Type 0} (f : X → Bounds) (ok : (x : X) → IsOrdered (f x)) where
  pub ordered_from : (z : Bounds) (xs : List X) → IsOrdered z → IsOrdered (fold (λ all x. join_of all (f x)) z xs)
  ordered_from z [] h = h
  ordered_from z (x ∷ xs) h = ordered_from (join_of z (f x)) xs (ordered_join z (f x) h (ok x))

  pub board_from : (z : Bounds) (xs : List X) → IsOrdered z
      → IsBoxOnBoard (fold (λ all x. join_of all (f x)) z xs) ↔ (IsBoxOnBoard z × All (λ x. IsBoxOnBoard (f x)) xs)
  board_from z [] h = ((λ k. (k, All-nil (λ x. IsBoxOnBoard (f x)))), (λ k. k.0))
  board_from z (x ∷ xs) h =
      let rest = board_from (join_of z (f x)) xs (ordered_join z (f x) h (ok x)) in
      let here = board_join z (f x) h (ok x) in (
        (λ k. let all = rest.0 k in let two = here.0 all.0 in (two.0, All-cons (λ y. IsBoxOnBoard (f y)) x xs two.1 all.1)),
        (λ k. rest.1 (here.1 (k.0, All-head (λ y. IsBoxOnBoard (f y)) x xs k.1), All-tail (λ y. IsBoxOnBoard (f y)) x xs k.1)),
      )

  pub board_of_all : (xs : List X) → IsBoxOnBoard (box_of_all f xs) ↔ All (λ x. IsBoxOnBoard (f x)) xs
  board_of_all xs = let from = board_from Empty xs tt in ((λ k. (from.0 k).1), (λ k. from.1 (tt, k)))

-- what holds of each where what it says holds
pub All_same : {X : Type 0} (P Q : X → Type 0) → ((x : X) → P x ↔ Q x) → (xs : List X) → All P xs ↔ All Q xs
All_same P Q e [] = ((λ h. All-nil Q), (λ h. All-nil P))
All_same P Q e (x ∷ xs) = grind (arith, All-cons, All-head, All-tail, All_same P Q e xs)

pub through : {A B C : Type 0} → (A ↔ B) → (B ↔ C) → A ↔ C
through f g = ((λ a. g.0 (f.0 a)), (λ c. f.1 (g.1 c)))

-- ---- points and leaves

same_order : (a : ℤ) → a ≤ℤ a
same_order a = omega (arith, ints)

pub ordered_point : (p : Point) → IsOrdered (box_of_point p)
ordered_point p = (same_order _, same_order _)

twice_near : (a : ℤ) → unsigned_abs (pos 2 *ℤ a) < 2000000000 → unsigned_abs a < 1000000000
twice_near a h = omega (arith, ints)

near_twice : (a : ℤ) → unsigned_abs a < 1000000000 → unsigned_abs (pos 2 *ℤ a) < 2000000000
near_twice a h = omega (arith, ints)

pub board_point : (p : Point) → IsBoxOnBoard (box_of_point p) ↔ IsOnBoard p
board_point p = grind (arith, twice_near, near_twice)

pub board_points : (ps : List Point) → IsBoxOnBoard (box_of_all box_of_point ps) ↔ All IsOnBoard ps
board_points ps =
    through (board_of_all box_of_point ordered_point ps) (All_same (λ p. IsBoxOnBoard (box_of_point p)) IsOnBoard board_point ps)

pub ordered_leaf : (l : Leaf) → IsOrdered (points_box l)
ordered_leaf l = ordered_from box_of_point ordered_point Empty (points_of_shape l.shape) tt

pub ordered_leaves : (leaves : List Leaf) → IsOrdered (points_bounds_of leaves)
ordered_leaves leaves = ordered_from points_box ordered_leaf Empty leaves tt

pub board_leaves : (leaves : List Leaf) → IsBoxOnBoard (points_bounds_of leaves) ↔ AreOnBoard leaves
board_leaves leaves =
    through (board_of_all points_box ordered_leaf leaves)
    (All_same (λ l. IsBoxOnBoard (points_box l)) (λ l. All IsOnBoard (points_of_shape l.shape))
    (λ l. board_points (points_of_shape l.shape)) leaves)

-- a box on the board is near
near_board : (a : ℤ) → unsigned_abs a < 2000000000 → unsigned_abs a < 2 ^ 33
near_board a h = omega arith

pub near_from_board : (b : Bounds) → IsBoxOnBoard b → IsNearBox b
near_from_board b h = grind (arith, near_board)
