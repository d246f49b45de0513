-- Bars along an axis: each is a box.
use Rattle.std.proofs.Common.{◌≡◌, ◌≢◌, ℕ, ◌+◌, ◌*◌, ◌<◌, ◌≤◌, ◌↔◌, ℤ, pos, ◌+ℤ◌, ◌-ℤ◌, ◌*ℤ◌, ◌≤ℤ◌, ◌<ℤ◌}
use Rattle.std.proofs.Common.{inl, inr, ap, refl, sym, ◌∙◌, arith}
use Rattle.std.specs.Int.{int_max, int_min}
use Rattle.std.specs.Int.RustNames.{unsigned_abs}
use Rattle.std.proofs.lemmas.Bool.{cases_lt}
use Rattle.std.proofs.lemmas.Int.{by_lt_z, clamps, ints, unsigned_abs-mul}
use Rattle.std.proofs.lemmas.Nat.{mul-le}
use Rattle.cam_units.specs.declared.point.Spot.{Spot}
use Rattle.cam_units.specs.Boxes.{IsInBox}
use Rattle.cam_units.proofs.Ring.{Polynomial, Atom, Difference, Product, equal}
use Rattle.cam_shapes.specs.declared.vector.Vector.{Vector}
use Rattle.cam_shapes.specs.declared.bar.Bar.{Bar}
use Rattle.cam_shapes.specs.Bar.{IsBeside, IsInBar}
use Rattle.cam_shapes.specs.Plane.{cross, dot, seen_from, square, way}
use Rattle.cam_shapes.proofs.Crossings.{product_above, product_least}
use Rattle.cam_shapes.proofs.Strokes.{squares_order}
use Rattle.cam_shapes.proofs.Widths.{square_is}

abbrev two : ℤ → ℤ → Polynomial
two a b = Product (Atom a) (Atom b)

-- ---- products with a number, by its sign

swapped : (d x : ℤ) → d *ℤ x ≡ x *ℤ d
swapped d x = equal (two d x) (two x d) (omega arith)

turned : (d x : ℤ) → d *ℤ (pos 0 -ℤ x) ≡ pos 0 -ℤ d *ℤ x
turned d x = equal (Product (Atom d) (Difference (Atom (pos 0)) (Atom x))) (Difference (Atom (pos 0)) (two d x)) (omega arith)

turned_twice : (d x : ℤ) → (pos 0 -ℤ d) *ℤ (pos 0 -ℤ x) ≡ d *ℤ x
turned_twice d x =
    equal (Product (Difference (Atom (pos 0)) (Atom d)) (Difference (Atom (pos 0)) (Atom x))) (two d x) (omega arith)

shorter : (d x : ℤ) → d *ℤ (d -ℤ x) ≡ d *ℤ d -ℤ d *ℤ x
shorter d x = equal (Product (Atom d) (Difference (Atom d) (Atom x))) (Difference (two d d) (two d x)) (omega arith)

not_both : (m n : ℤ) → m ≡ pos 0 -ℤ n → pos 0 <ℤ m → pos 0 ≤ℤ n → ⊥
not_both m n e h k = omega (arith, ints)

ahead_up : (d x : ℤ) → pos 0 <ℤ d → (pos 0 ≤ℤ (d *ℤ x)) ↔ (pos 0 ≤ℤ x)
ahead_up d x up = (
  (λ h. by_lt_z x (pos 0)
      (λ behind. absurd (not_both (d *ℤ (pos 0 -ℤ x)) (d *ℤ x) (turned d x)
      (product_above d (pos 0 -ℤ x) up (omega (arith, ints, behind))) h))
      (λ ahead. ahead)),
  (λ h. rw (swapped d x) (product_least x d h up)),
)

least_difference : (d l m : ℤ) → d ≡ l -ℤ m → (m ≤ℤ l) ↔ (pos 0 ≤ℤ d)
least_difference d l m e = ((λ h. omega (arith, ints)), (λ h. omega (arith, ints)))

before_up : (d x : ℤ) → pos 0 <ℤ d → ((d *ℤ x) ≤ℤ (d *ℤ d)) ↔ (x ≤ℤ d)
before_up d x up =
    let told = ahead_up d (d -ℤ x) up in
    let apart = least_difference (d *ℤ (d -ℤ x)) (d *ℤ d) (d *ℤ x) (shorter d x) in (
      (λ h. let left = told.0 (apart.0 h) in omega (arith, ints, left)),
      (λ h. apart.1 (told.1 (omega (arith, ints, h)))),
    )

-- ---- the distance from the line, by sizes

by_sizes : (m n k : ℕ) → 0 < m → (m * n * (m * n) ≤ k * m * (k * m)) ↔ (n ≤ k)
by_sizes m n k some = (
  (λ h. let order = squares_order (m * n) (k * m) h in
      elim (cases_lt k n) [
        | inl far ↦ absurd (omega (arith, order, mul-le m (k + 1) m n (omega arith) (omega (arith, far))))
        | inr near ↦ near
      ]),
  (λ h. let order = mul-le n m k m h (omega arith) in
      let same : m * n ≤ k * m = omega (arith, order) in mul-le (m * n) (m * n) (k * m) (k * m) same same),
)

square_of_product : (r d : ℤ) → square r *ℤ square d ≡ square (r *ℤ d)
square_of_product r d =
    equal (Product (two r r) (two d d)) (Product (two r d) (two r d)) (omega arith)

sizes : (d y : ℤ) → square (d *ℤ y) ≡ pos (unsigned_abs d * unsigned_abs y * (unsigned_abs d * unsigned_abs y))
sizes d y = square_is (d *ℤ y) ∙ ap (λ n. pos (n * n)) (unsigned_abs-mul d y)

near_by_size : (d y r : ℤ) → d ≢ pos 0 → pos 0 <ℤ r
    → (square (d *ℤ y) ≤ℤ (square r *ℤ square d)) ↔ (pos (unsigned_abs y) ≤ℤ r)
near_by_size d y r some wide =
    let m = unsigned_abs d in
    let n = unsigned_abs y in
    let k = unsigned_abs r in
    let told = by_sizes m n k (omega (arith, ints, some)) in
    let left = sizes d y in
    let right = square_of_product r d ∙ sizes r d in (
      (λ h. let few = told.0 (omega (arith, ints, h, left, right)) in omega (arith, ints, few, wide)),
      (λ h. let order = told.1 (omega (arith, ints, h, wide)) in omega (arith, ints, order, left, right)),
    )

-- ---- beside a way of which only one part counts: d along it, and x and y of the place along it and across it

module _ (a v : Vector) (w d x y : ℤ) (along : dot a v ≡ d *ℤ x) (length : dot a a ≡ d *ℤ d)
    (across : square (cross a v) ≡ square (d *ℤ y)) (wide : pos 0 <ℤ w) where
  near : d ≢ pos 0 → (square (cross a v) ≤ℤ (square w *ℤ dot a a)) ↔ (pos (unsigned_abs y) ≤ℤ w)
  near some = rw (across, length) (near_by_size d y w some wide)

  pub beside_up : pos 0 <ℤ d → IsBeside a v w ↔ ((pos 0 ≤ℤ x) × (x ≤ℤ d) × (pos (unsigned_abs y) ≤ℤ w))
  beside_up up =
      let start = ahead_up d x up in
      let finish = before_up d x up in
      let side = near (λ none. omega (arith, ints, none, up)) in (
        (λ b. (start.0 (rw along at b.between.after_start), finish.0 (rw (along, length) at b.between.before_end), side.0 b.near)),
        (λ h. record {
          between = record {
            long = rw length (product_above d d up up);
            after_start = rw along (start.1 h.0);
            before_end = rw (along, length) (finish.1 h.1);
          };
          near = side.1 h.2;
        }),
      )

-- ---- level ways, and upright ones

level_dot : (a v : Vector) → a.y ≡ pos 0 → dot a v ≡ a.x *ℤ v.x
level_dot a v e = rw e (omega (arith, ints))

level_length : (a : Vector) → a.y ≡ pos 0 → dot a a ≡ a.x *ℤ a.x
level_length a e = rw e (omega (arith, ints))

level_cross : (a v : Vector) → a.y ≡ pos 0 → cross a v ≡ a.x *ℤ v.y
level_cross a v e = rw e (omega (arith, ints))

upright_dot : (a v : Vector) → a.x ≡ pos 0 → dot a v ≡ a.y *ℤ v.y
upright_dot a v e = rw e (omega (arith, ints))

upright_length : (a : Vector) → a.x ≡ pos 0 → dot a a ≡ a.y *ℤ a.y
upright_length a e = rw e (omega (arith, ints))

upright_cross : (a v : Vector) → a.x ≡ pos 0 → cross a v ≡ pos 0 -ℤ a.y *ℤ v.x
upright_cross a v e = rw e (omega (arith, ints))

upright_square : (a v : Vector) → a.x ≡ pos 0 → square (cross a v) ≡ square (a.y *ℤ v.x)
upright_square a v e = ap square (upright_cross a v e) ∙ turned_twice (a.y *ℤ v.x) (a.y *ℤ v.x)

-- ---- one side of the box, of the ends p and q of a way of length d along it, and its other side

abbrev IsBetweenEnds : ℤ → ℤ → ℤ → Type 0
IsBetweenEnds p q s = (int_min p q ≤ℤ s) × (s ≤ℤ int_max p q)

up_between : (p q s : ℤ) → pos 0 <ℤ (q -ℤ p)
    → IsBetweenEnds p q s ↔ ((pos 0 ≤ℤ (s -ℤ p)) × ((s -ℤ p) ≤ℤ (q -ℤ p)))
up_between p q s up = (
  (λ h. (omega (arith, ints, clamps, h.0), omega (arith, ints, clamps, h.1))),
  (λ h. (omega (arith, ints, clamps, h.0), omega (arith, ints, clamps, h.1))),
)

down_between : (p q s : ℤ) → (q -ℤ p) <ℤ pos 0
    → IsBetweenEnds p q s ↔ (((s -ℤ p) ≤ℤ pos 0) × ((q -ℤ p) ≤ℤ (s -ℤ p)))
down_between p q s down = (
  (λ h. (omega (arith, ints, clamps, h.0), omega (arith, ints, clamps, h.1))),
  (λ h. (omega (arith, ints, clamps, h.0), omega (arith, ints, clamps, h.1))),
)

near_both : (p q s w : ℤ) → p ≡ q
    → (pos (unsigned_abs (s -ℤ p)) ≤ℤ w) ↔ (((int_min p q -ℤ w) ≤ℤ s) × (s ≤ℤ (int_max p q +ℤ w)))
near_both p q s w e = (
  (λ h. (omega (arith, ints, clamps), omega (arith, ints, clamps))),
  (λ h. omega (arith, ints, clamps, h.0, h.1)),
)

-- a place beside a way, by whether the way leads up or down along its axis
beside : (a v : Vector) (w d x y p q s : ℤ) → dot a v ≡ d *ℤ x → dot a a ≡ d *ℤ d
    → square (cross a v) ≡ square (d *ℤ y) → pos 0 <ℤ w → d ≡ q -ℤ p → x ≡ s -ℤ p → p ≢ q
    → IsBeside a v w ↔ (IsBetweenEnds p q s × (pos (unsigned_abs y) ≤ℤ w))
beside a v w d x y p q s along length across wide e f apart =
    by_lt_z d (pos 0)
    (λ down.
    -- it leads up as one looks the other way
    let told = beside_up a v w (pos 0 -ℤ d) (pos 0 -ℤ x) (pos 0 -ℤ y) (along ∙ sym (turned_twice d x))
    (length ∙ sym (turned_twice d d)) (across ∙ ap square (sym (turned_twice d y))) wide (omega (arith, ints, down)) in
    let sides = down_between p q s (rw e at down) in (
      (λ b.
          let h = told.0 b in
          (sides.1 (omega (arith, ints, h.0, f), omega (arith, ints, h.1, e, f)), omega (arith, ints, h.2))),
      (λ h.
          let both = sides.0 h.0 in
          told.1 (omega (arith, ints, both.0, f), omega (arith, ints, both.1, e, f), omega (arith, ints, h.1))),
    ))
    (λ not_down.
    let up : pos 0 <ℤ d = omega (arith, ints, not_down, e, apart) in
    let told = beside_up a v w d x y along length across wide up in
    let sides = up_between p q s (rw e at up) in (
      (λ b. let h = rw (e, f) at (told.0 b) in (sides.1 (h.0, h.1), h.2)),
      (λ h. let both = sides.0 h.0 in told.1 (rw (e, f) ((both.0, both.1, h.1)))),
    ))

-- ---- the laws

abbrev IsWidened : Bar → ℤ → ℤ → Spot → Spot → Type 0
IsWidened b across along low high =
    (low.x ≡ int_min (pos 2 *ℤ b.from.x) (pos 2 *ℤ b.to.x) -ℤ across)
    × (low.y ≡ int_min (pos 2 *ℤ b.from.y) (pos 2 *ℤ b.to.y) -ℤ along)
    × (high.x ≡ int_max (pos 2 *ℤ b.from.x) (pos 2 *ℤ b.to.x) +ℤ across)
    × (high.y ≡ int_max (pos 2 *ℤ b.from.y) (pos 2 *ℤ b.to.y) +ℤ along)

pub level_box : (b : Bar) (low high s : Spot) → pos 0 <ℤ b.width.0 → b.from.y ≡ b.to.y → b.from.x ≢ b.to.x
    → IsWidened b (pos 0) b.width.0 low high → IsInBox low high s ↔ IsInBar s b
level_box b low high s wide level apart is =
    let a = way b.from b.to in
    let v = seen_from b.from s in
    let flat : a.y ≡ pos 0 = omega (arith, ints, level) in
    let told = beside a v b.width.0 a.x v.x v.y (pos 2 *ℤ b.from.x) (pos 2 *ℤ b.to.x) s.x (level_dot a v flat)
    (level_length a flat) (ap square (level_cross a v flat)) wide refl refl
    (λ same. apart (omega (arith, ints, same))) in
    let near = near_both (pos 2 *ℤ b.from.y) (pos 2 *ℤ b.to.y) s.y b.width.0 (ap (λ z. pos 2 *ℤ z) level) in (
      (λ box. record {
        wide = wide;
        beside = told.1 (
          (omega (arith, ints, box.left, is.0), omega (arith, ints, box.right, is.2)),
          near.1 (omega (arith, ints, box.below, is.1), omega (arith, ints, box.above, is.3)),
        );
      }),
      (λ bar.
          let parts = told.0 bar.beside in
          let sides = near.0 parts.1 in record {
            left = omega (arith, ints, parts.0.0, is.0);
            right = omega (arith, ints, parts.0.1, is.2);
            below = omega (arith, ints, sides.0, is.1);
            above = omega (arith, ints, sides.1, is.3);
          }),
    )

pub upright_box : (b : Bar) (low high s : Spot) → pos 0 <ℤ b.width.0 → b.from.x ≡ b.to.x → b.from.y ≢ b.to.y
    → IsWidened b b.width.0 (pos 0) low high → IsInBox low high s ↔ IsInBar s b
upright_box b low high s wide upright apart is =
    let a = way b.from b.to in
    let v = seen_from b.from s in
    let flat : a.x ≡ pos 0 = omega (arith, ints, upright) in
    let told = beside a v b.width.0 a.y v.y v.x (pos 2 *ℤ b.from.y) (pos 2 *ℤ b.to.y) s.y (upright_dot a v flat)
    (upright_length a flat) (upright_square a v flat) wide refl refl
    (λ same. apart (omega (arith, ints, same))) in
    let near = near_both (pos 2 *ℤ b.from.x) (pos 2 *ℤ b.to.x) s.x b.width.0 (ap (λ z. pos 2 *ℤ z) upright) in (
      (λ box. record {
        wide = wide;
        beside = told.1 (
          (omega (arith, ints, box.below, is.1), omega (arith, ints, box.above, is.3)),
          near.1 (omega (arith, ints, box.left, is.0), omega (arith, ints, box.right, is.2)),
        );
      }),
      (λ bar.
          let parts = told.0 bar.beside in
          let sides = near.0 parts.1 in record {
            left = omega (arith, ints, sides.0, is.0);
            right = omega (arith, ints, sides.1, is.2);
            below = omega (arith, ints, parts.0.0, is.1);
            above = omega (arith, ints, parts.0.1, is.3);
          }),
    )
