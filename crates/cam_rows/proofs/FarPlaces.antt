-- Places near the line of a way, so far above or below its start that they are ahead of it.
use Rattle.std.proofs.Common.{rules, ◌≡◌, ◌↔◌, ℕ, ◌<◌, ℤ, pos, ◌+ℤ◌, ◌-ℤ◌, ◌*ℤ◌, ◌≤ℤ◌, ◌<ℤ◌, inl, inr, arith}
use Rattle.std.proofs.lemmas.Bool.{cases_lt}
use Rattle.std.proofs.lemmas.Int.{ints, by_lt_z}
use Rattle.cam_units.specs.declared.point.Point.{Point}
use Rattle.cam_units.specs.declared.point.Spot.{Spot}
use Rattle.cam_units.proofs.Ring.{Polynomial, Atom, Sum, Difference, Product, equal}
use Rattle.cam_shapes.specs.declared.vector.Vector.{Vector}
use Rattle.cam_shapes.specs.Plane.{cross, dot, seen_from, square, way}
use Rattle.cam_shapes.proofs.Crossings.{product_above, product_least}
use Rattle.cam_shapes.proofs.Reaches.{first_square, over, product_root, up_to}
use Rattle.cam_rows.specs.declared.centres.Centres.{Centres}
use Rattle.cam_rows.specs.Machinery.Beside.{IsFar, IsFarOrAhead, IsInside}
use Rattle.cam_rows.specs.Rows.{centre_at, first_centre, row_below}
use Rattle.cam_rows.specs.Runs.{IsInRun}
use Rattle.cam_rows.proofs.BesideWays.{IsAhead, from_the_right}

abbrev two : ℤ → ℤ → Polynomial
two a b = Product (Atom a) (Atom b)

more_product : (x w l : ℤ) → (x -ℤ w) *ℤ l ≡ x *ℤ l -ℤ w *ℤ l
more_product x w l =
    equal (Product (Difference (Atom x) (Atom w)) (Atom l)) (Difference (two x l) (two w l)) (omega arith)

less_product : (x w l : ℤ) → (pos 0 -ℤ w -ℤ x) *ℤ l ≡ pos 0 -ℤ w *ℤ l -ℤ x *ℤ l
less_product x w l =
    equal
    (Product (Difference (Difference (Atom (pos 0)) (Atom w)) (Atom x)) (Atom l))
    (Difference (Difference (Atom (pos 0)) (two w l)) (two x l))
    (omega arith)

opposite_product : (a d : ℤ) → a *ℤ (pos 0 -ℤ d) ≡ pos 0 -ℤ a *ℤ d
opposite_product a d = grind (arith, equal, Product, Atom, Difference)

opposites_product : (a d : ℤ) → (pos 0 -ℤ a) *ℤ (pos 0 -ℤ d) ≡ a *ℤ d
opposites_product a d = grind (arith, equal, Product, Difference, Atom)

-- x * l is a * d and at most w * l more or less, where d is less than 0
not_above : (xl wl ad e less more : ℤ) → xl ≡ ad +ℤ e → e ≤ℤ wl → less ≡ pos 0 -ℤ ad → pos 0 <ℤ less
    → more ≡ xl -ℤ wl → pos 0 ≤ℤ more → ⊥
not_above xl wl ad e less more f g h some k most = omega (arith, ints)

not_below : (xl wl ad e more less : ℤ) → xl ≡ ad +ℤ e → (pos 0 -ℤ e) ≤ℤ wl → more ≡ ad → pos 0 <ℤ more
    → less ≡ pos 0 -ℤ wl -ℤ xl → pos 0 ≤ℤ less → ⊥
not_below xl wl ad e more less f g h some k most = omega (arith, ints)

module _ (a v : Vector) (w : ℤ) (inside : IsInside (cross a v) w (dot a a)) where
  bounds : ((a.x *ℤ cross a v) ≤ℤ (w *ℤ dot a a)) × ((pos 0 -ℤ a.x *ℤ cross a v) ≤ℤ (w *ℤ dot a a))
  bounds =
      let some = product_above w (dot a a) inside.wide inside.long in
      up_to (a.x *ℤ cross a v) (w *ℤ dot a a) (product_root a.x (cross a v) w (dot a a) (first_square a) inside.near)
      (omega (arith, ints, some))

  ahead_above : pos 0 <ℤ a.y → w ≤ℤ v.y → pos 0 ≤ℤ dot a v
  ahead_above up far =
      by_lt_z (dot a v) (pos 0)
      (λ behind. absurd (not_above (v.y *ℤ dot a a) (w *ℤ dot a a) (a.y *ℤ dot a v) (a.x *ℤ cross a v)
      (a.y *ℤ (pos 0 -ℤ dot a v)) ((v.y -ℤ w) *ℤ dot a a) (over a v) bounds.0
      (opposite_product a.y (dot a v)) (product_above a.y (pos 0 -ℤ dot a v) up (omega (arith, ints, behind)))
      (more_product v.y w (dot a a))
      (product_least (v.y -ℤ w) (dot a a) (omega (arith, ints, far)) inside.long)))
      (λ ahead. ahead)

  ahead_below : a.y <ℤ pos 0 → v.y ≤ℤ (pos 0 -ℤ w) → pos 0 ≤ℤ dot a v
  ahead_below down far =
      by_lt_z (dot a v) (pos 0)
      (λ behind. absurd (not_below (v.y *ℤ dot a a) (w *ℤ dot a a) (a.y *ℤ dot a v) (a.x *ℤ cross a v)
      ((pos 0 -ℤ a.y) *ℤ (pos 0 -ℤ dot a v)) ((pos 0 -ℤ w -ℤ v.y) *ℤ dot a a) (over a v) bounds.1
      (opposites_product a.y (dot a v))
      (product_above (pos 0 -ℤ a.y) (pos 0 -ℤ dot a v) (omega (arith, ints, down)) (omega (arith, ints, behind)))
      (less_product v.y w (dot a a))
      (product_least (pos 0 -ℤ w -ℤ v.y) (dot a a) (omega (arith, ints, far)) inside.long)))
      (λ ahead. ahead)

-- inside of a bar's sides, what is far from the start is ahead of it
pub far_is_ahead : (p q : Point) (w : ℤ) (s : Spot)
    → IsInside (cross (way p q) (seen_from p s)) w (dot (way p q) (way p q)) → IsFarOrAhead p q w s → IsAhead p q s
far_is_ahead p q w s inside (inl (inl far)) = ahead_above (way p q) (seen_from p s) w inside far.0 far.1
far_is_ahead p q w s inside (inl (inr far)) = ahead_below (way p q) (seen_from p s) w inside far.0 far.1
far_is_ahead p q w s inside (inr ahead) = ahead

-- a way and the way back have the same length, and as far from the one line as from the other
same_length : (p q : Point) → dot (way q p) (way q p) ≡ dot (way p q) (way p q)
same_length p q =
    let twice : ℤ → Polynomial = λ z. Product (Atom (pos 2)) (Atom z) in
    let squared : ℤ → ℤ → Polynomial = λ z w. Product (Difference (twice z) (twice w)) (Difference (twice z) (twice w)) in
    equal (Sum (squared p.x q.x) (squared p.y q.y)) (Sum (squared q.x p.x) (squared q.y p.y)) (omega arith)

same_square : (z t : ℤ) → t ≡ pos 0 -ℤ z → square t ≡ square z
same_square z t e = rw e (opposites_product z z)

inside_back : (z t w l m : ℤ) → square t ≡ square z → m ≡ l → IsInside z w l → IsInside t w m
inside_back z t w l m e f inside = rw f (record { wide = inside.wide; long = inside.long; near = rw e inside.near })

pub far_is_before : (p q : Point) (w : ℤ) (s : Spot)
    → IsInside (cross (way p q) (seen_from p s)) w (dot (way p q) (way p q)) → IsFarOrAhead q p w s → IsAhead q p s
far_is_before p q w s inside = search (rules, far_is_ahead, inside_back, same_square, from_the_right, same_length)

-- the rows in which a place is not far
not_far_up : (p q : Point) (s : Spot) (w : ℤ) → p.y <ℤ q.y → (IsFar p q w s → ⊥) ↔ ((pos 2 *ℤ p.y +ℤ w) ≤ℤ s.y → ⊥)
not_far_up p q s w up = (
  (λ near far. near (inl (omega (arith, ints, up), omega (arith, ints, far)))),
  (λ near far. elim far [
    | inl above ↦ near (omega (arith, ints, above.1))
    | inr below ↦ absurd (omega (arith, ints, up, below.0))
  ]),
)

not_far_down : (p q : Point) (s : Spot) (w : ℤ) → q.y <ℤ p.y
    → (IsFar p q w s → ⊥) ↔ ((pos 2 *ℤ p.y -ℤ w +ℤ pos 1) ≤ℤ s.y)
not_far_down p q s w down = (
  (λ near. by_lt_z (pos 2 *ℤ p.y -ℤ w) s.y
      (λ above. omega (arith, ints, above))
      (λ below. absurd (near (inr (omega (arith, ints, down), omega (arith, ints, below)))))),
  (λ above far. elim far [
    | inl high ↦ absurd (omega (arith, ints, down, high.0))
    | inr low ↦ absurd (omega (arith, ints, above, low.1))
  ]),
)

pub run_up : (p q : Point) (s : Spot) (w height : ℤ) (k first rows : ℕ) → p.y <ℤ q.y → height ≡ pos 2 *ℤ p.y +ℤ w
    → k < rows → (k < first) ↔ (height ≤ℤ s.y) → IsInRun first rows k ↔ (IsFar p q w s → ⊥)
run_up p q s w height k first rows up e within told =
    let here = not_far_up p q s w up in
    let above = rw e at told in (
      (λ on. here.1 (λ far. absurd (omega (arith, on.0, above.1 far)))),
      (λ near. (
        elim (cases_lt k first) [
          | inl early ↦ absurd (here.0 near (above.0 early))
          | inr late ↦ late
        ],
        within,
      )),
    )

pub run_down : (p q : Point) (s : Spot) (w height : ℤ) (k end : ℕ) → q.y <ℤ p.y
    → height ≡ pos 2 *ℤ p.y -ℤ w +ℤ pos 1 → (k < end) ↔ (height ≤ℤ s.y) → IsInRun 0 end k ↔ (IsFar p q w s → ⊥)
run_down p q s w height k end down e told =
    let here = not_far_down p q s w down in
    let above = rw e at told in (
      (λ on. here.1 (above.0 on.1)),
      (λ near. (omega arith, above.1 (here.0 near))),
    )

-- of the places of a row, by whether its leftmost one is far
decided : (p q : Point) (w : ℤ) (s : Spot) → ((IsFar p q w s → ⊥) → ⊥) → IsFar p q w s
decided p q w s not_near =
    by_lt_z (pos 0) (way p q).y
    (λ up. by_lt_z (seen_from p s).y w
    (λ low. absurd (not_near (λ far. elim far [
      | inl above ↦ omega (arith, ints, above.1, low)
      | inr below ↦ omega (arith, ints, below.0, up)
    ])))
    (λ high. inl (up, high)))
    (λ not_up. by_lt_z (way p q).y (pos 0)
    (λ down. by_lt_z (pos 0 -ℤ w) (seen_from p s).y
    (λ high. absurd (not_near (λ far. elim far [
      | inl above ↦ omega (arith, ints, above.0, down)
      | inr below ↦ omega (arith, ints, below.1, high)
    ])))
    (λ low. inr (down, low)))
    (λ level. absurd (not_near (λ far. elim far [
      | inl above ↦ omega (arith, ints, above.0, not_up)
      | inr below ↦ omega (arith, ints, below.0, level)
    ]))))

pub far_by_row : (p q : Point) (w : ℤ) (top : Centres) (k i first end : ℕ)
    → IsInRun first end k ↔ (IsFar p q w (first_centre (row_below top k)) → ⊥) → (IsInRun first end k → ⊥)
    → IsFarOrAhead p q w (centre_at (row_below top k) i)
far_by_row p q w top k i first end told off = grind (arith, decided)

pub ahead_by_row : (p q : Point) (w : ℤ) (top : Centres) (k i first end : ℕ) (B : Type 0)
    → IsInRun first end k ↔ (IsFar p q w (first_centre (row_below top k)) → ⊥) → IsInRun first end k
    → B ↔ IsAhead p q (centre_at (row_below top k) i) → B ↔ IsFarOrAhead p q w (centre_at (row_below top k) i)
ahead_by_row p q w top k i first end B told on ahead = grind arith
