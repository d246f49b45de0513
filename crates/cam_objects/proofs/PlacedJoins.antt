-- boxes that are turned and moved, one after the other
use Rattle.std.proofs.lemmas.Grind.{common_steps}
use Rattle.std.proofs.Common.{rules}
use Rattle.std.proofs.Common.{◌≡◌, ◌^◌, ◌<◌, Bool, cond, ℤ, pos, neg_ℤ, ◌+ℤ◌, ◌*ℤ◌, List, [], ◌∷◌, map, refl, ap, sym, ◌∙◌, arith}
use Rattle.std.specs.Prelude.{fold}
use Rattle.std.specs.Int.{int_min, int_max}
use Rattle.std.specs.Int.RustNames.{int_lt, unsigned_abs}
use Rattle.std.proofs.lemmas.Int.{ints, clamps}
use Rattle.cam_units.specs.declared.bounds.Bounds.{Bounds}
use Rattle.cam_units.specs.declared.bounds.Bounds.TheVariants.{Empty, Closed}
use Rattle.cam_units.specs.declared.point.Point.{Point}
use Rattle.cam_units.specs.declared.turn.Turn.{Turn}
use Rattle.cam_units.specs.Boxes.{has_no_place, join_of, span_of}
use Rattle.cam_units.specs.Turns.{applied, matrix_of, minus}
use Rattle.cam_apertures.specs.Turned.{IsTurnableBox, turned_box}
use Rattle.cam_apertures.proofs.Corners.{same_box}
use Rattle.cam_apertures.proofs.TurnedBoxes.{empty_turned, join_turned}
use Rattle.cam_objects.specs.declared.placing.place.Place.{Place}
use Rattle.cam_objects.specs.Bounds.{moved}
use Rattle.cam_objects.specs.Leaves.{flashed, origin}
use Rattle.cam_objects.specs.Machinery.Boxes.{IsNearBox, IsUncrossed, placed_bounds}
use Rattle.cam_objects.specs.Turning.{after}

-- ---- moves

pub moved_nowhere : (b : Bounds) → moved (record { x = pos 0; y = pos 0 }) b ≡ b
moved_nowhere b = grind (arith, common_steps, same_box, ints)

pub moved_twice : (o q : Point) (b : Bounds) → moved o (moved q b) ≡ moved (record { x = q.x +ℤ o.x; y = q.y +ℤ o.y }) b
moved_twice o q Empty = refl
moved_twice o q (Closed low high) =
    same_box _ _ _ _ _ _ _ _ (omega (arith, ints)) (omega (arith, ints)) (omega (arith, ints)) (omega (arith, ints))

-- an edge that is moved and turned
right_on : (z a b : ℤ) → z +ℤ pos 2 *ℤ a ≡ z +ℤ pos 2 *ℤ (pos 1 *ℤ a +ℤ pos 0 *ℤ b)
right_on z a b = omega (arith, ints)

up_on : (z a b : ℤ) → z +ℤ pos 2 *ℤ b ≡ z +ℤ pos 2 *ℤ (pos 0 *ℤ a +ℤ pos 1 *ℤ b)
up_on z a b = omega (arith, ints)

right_back : (z a b : ℤ) → neg_ℤ (z +ℤ pos 2 *ℤ a) ≡ neg_ℤ z +ℤ pos 2 *ℤ (minus *ℤ a +ℤ pos 0 *ℤ b)
right_back z a b = omega (arith, ints)

up_back : (z a b : ℤ) → neg_ℤ (z +ℤ pos 2 *ℤ b) ≡ neg_ℤ z +ℤ pos 2 *ℤ (pos 0 *ℤ a +ℤ minus *ℤ b)
up_back z a b = omega (arith, ints)

-- a box that is moved and then turned is one that is turned and then moved, by the turned way
turned_moved : (t : Turn) (o : Point) (b : Bounds) → turned_box t (moved o b) ≡ moved (applied (matrix_of t) o) (turned_box t b)
turned_moved t o b = grind (arith, same_box, right_on, up_on, up_back, right_back)

lt_moved : (a b c : ℤ) → int_lt (a +ℤ c) (b +ℤ c) ≡ int_lt a b
lt_moved a b c = grind (arith, ints)

min_moved : (a b c : ℤ) → int_min a b +ℤ c ≡ int_min (a +ℤ c) (b +ℤ c)
min_moved a b c = omega (arith, ints, clamps)

max_moved : (a b c : ℤ) → int_max a b +ℤ c ≡ int_max (a +ℤ c) (b +ℤ c)
max_moved a b c = omega (arith, ints, clamps)

pub empty_moved : (o : Point) (b : Bounds) → has_no_place (moved o b) ≡ has_no_place b
empty_moved o b = grind (arith, lt_moved)

span_moved : (o : Point) (a b : Bounds) → moved o (span_of a b) ≡ span_of (moved o a) (moved o b)
span_moved o a b = grind (arith, same_box, min_moved, max_moved)

either_by : (f : Bounds → Bounds) (v : Bool) (x y : Bounds) → f (cond v x y) ≡ cond v (f x) (f y)
either_by f v x y = grind arith

-- a change of boxes that keeps which are empty and what they span keeps their joins
pub join_kept_by : (f : Bounds → Bounds) → ((b : Bounds) → has_no_place (f b) ≡ has_no_place b)
    → ((a b : Bounds) → f (span_of a b) ≡ span_of (f a) (f b)) → (a b : Bounds) → f (join_of a b) ≡ join_of (f a) (f b)
join_kept_by f empty span a b = grind (arith, either_by)

pub join_moved : (o : Point) (a b : Bounds) → moved o (join_of a b) ≡ join_of (moved o a) (moved o b)
join_moved o = join_kept_by (moved o) (empty_moved o) (span_moved o)

-- ---- one turn after another

minus_twice : (z : ℤ) → neg_ℤ (neg_ℤ z) ≡ z
minus_twice z = omega (arith, ints)

pub turned_twice : (t u : Turn) (b : Bounds) → turned_box u (turned_box t b) ≡ turned_box (after t u) b
unfolding after
turned_twice t u b = grind (arith, same_box, minus_twice)

-- ---- places

pub placed_nowhere : (b : Bounds) → placed_bounds origin b ≡ b
placed_nowhere b = grind (arith, moved_nowhere)

pub placed_join : (p : Place) (a b : Bounds) → placed_bounds p (join_of a b) ≡ join_of (placed_bounds p a) (placed_bounds p b)
placed_join p a b = ap (moved p.offset) (join_turned p.turn a b) ∙ join_moved p.offset (turned_box p.turn a) (turned_box p.turn b)

-- the place of a flash: turned and moved with the flash, and then with the place
pub placed_flash : (p : Place) (at : Point) (t : Turn) (dark : Bool) (b : Bounds)
    → placed_bounds (flashed p at t dark) b ≡ placed_bounds p (moved at (turned_box t b))
placed_flash p at t dark b = grind (arith, turned_twice, moved_twice, turned_moved)

pub placed_flashed : (p : Place) (at : Point) (t : Turn) (dark : Bool) (b : Bounds)
    → placed_bounds (flashed p at t dark) b ≡ placed_bounds p (placed_bounds (flashed origin at t dark) b)
placed_flashed p at t dark b = search (rules, placed_flash, placed_nowhere)

-- the join of many boxes is placed with them
pub joins_placed : {X Y : Type 0} (p : Place) (f : X → Bounds) (g : Y → Bounds) (h : Y → X) → ((y : Y) → f (h y) ≡ placed_bounds p (g y))
    → (z : Bounds) (ys : List Y)
    → fold (λ all x. join_of all (f x)) (placed_bounds p z) (map h ys) ≡ placed_bounds p (fold (λ all y. join_of all (g y)) z ys)
joins_placed p f g h same z [] = refl
joins_placed p f g h same z (y ∷ ys) =
    ap (λ b. fold (λ all x. join_of all (f x)) b (map h ys)) (ap (join_of (placed_bounds p z)) (same y) ∙ sym (placed_join p z (g y)))
    ∙ joins_placed p f g h same (join_of z (g y)) ys

-- ---- boxes of the board

minus_near : (z : ℤ) → unsigned_abs z < 2 ^ 33 → unsigned_abs (neg_ℤ z) < 2 ^ 33
minus_near z h = omega (arith, ints)

pub near_turnable : (b : Bounds) → IsNearBox b → IsTurnableBox b
near_turnable b h = grind arith

pub near_turned : (t : Turn) (b : Bounds) → IsNearBox b → IsNearBox (turned_box t b)
near_turned t b h = grind (arith, minus_near)

-- ---- boxes that are not crossed

pub uncrossed_moved : (o : Point) (b : Bounds) → IsUncrossed b → IsUncrossed (moved o b)
uncrossed_moved o b h none = ap (moved o) (h (sym (empty_moved o b) ∙ none))

pub uncrossed_placed : (p : Place) (b : Bounds) → IsUncrossed b → IsUncrossed (placed_bounds p b)
uncrossed_placed p b h = grind (arith, uncrossed_moved, empty_turned)
