-- An arc's stroke by its runs.
use Rattle.std.proofs.Common.{◌≡◌, ◌↔◌, ◌⊎◌, ℕ, ◌*◌, ◌<◌, ◌≤◌, Bool, true, false, ℤ, pos, negsuc, ◌+ℤ◌, ◌-ℤ◌}
use Rattle.std.proofs.Common.{◌≤ℤ◌, ◌<ℤ◌, if◌then◌else◌, inl, inr, ◌∙◌, arith}
use Rattle.std.specs.Int.RustNames.{unsigned_abs}
use Rattle.std.proofs.lemmas.Bool.{cases_lt}
use Rattle.std.proofs.lemmas.Int.{by_lt_z, ints}
use Rattle.std.proofs.lemmas.Nat.{mul-le}
use Rattle.cam_units.specs.declared.point.Point.{Point}
use Rattle.cam_units.specs.declared.point.Spot.{Spot}
use Rattle.cam_units.proofs.Ring.{Atom, Difference, Product, equal}
use Rattle.cam_shapes.specs.declared.arc.Arc.{Arc}
use Rattle.cam_shapes.specs.declared.vector.Vector.{Vector}
use Rattle.cam_shapes.specs.Arc.{IsInSweep, IsNarrow, IsNearCircle, IsSwept}
use Rattle.cam_shapes.specs.Plane.{cross, seen_from, square, way}
use Rattle.cam_shapes.proofs.Circles.{narrow_not_wide}
use Rattle.cam_shapes.proofs.Strokes.{dot_is}
use Rattle.cam_shapes.proofs.Widths.{square_is}
use Rattle.cam_rows.specs.Machinery.HalfPlanes.{IsLeft}
use Rattle.cam_rows.specs.declared.ring.Ring.{Ring}
use Rattle.cam_rows.specs.ArcRuns.{ArcRunsLaw, IsRingSquare, IsHollow, IsInHalf, IsInRing, IsLeftOut, IsRingOf, IsBeyond}
use Rattle.cam_rows.specs.ArcRuns.{IsPastHalf, IsWideArc, by_turn, distance_of, radius_of}
use Rattle.cam_rows.specs.Machinery.Narrowing.{IsNearer}
use Rattle.cam_rows.proofs.BesideWays.{from_the_right}
use Rattle.cam_rows.proofs.SweepRows.{beyond_end, no_more}
use Rattle.cam_rows.proofs.Sweeps.{narrow_sweep, same_way}

-- ---- circles

-- a circle is near itself
square_within : (z : ℤ) (n : ℕ) → unsigned_abs z ≤ n → square z ≤ℤ pos (n * n)
square_within z n h = grind (arith, mul-le, ints, square_is)

pub near_itself : (q : ℕ) (r : ℤ) → IsNearCircle (pos q) (pos q) r
near_itself q r =
    let w = unsigned_abs r * unsigned_abs r in
    let is = square_is r in
    elim (cases_lt w (2 * q)) [
      | inl less ↦
          let z = pos q +ℤ pos q -ℤ square r in
          let short : unsigned_abs z ≤ 2 * q = omega (arith, ints, is, less) in
          inr (omega (arith, ints, square_within z (2 * q) short))
      | inr wide ↦ inl (omega (arith, ints, is, wide))
    ]

near_or_far : (p q r : ℤ) → IsNearCircle p q r ⊎ (IsNearCircle p q r → ⊥)
near_or_far p q r = grind (arith, by_lt_z, ints)

-- the circles of an arc, by the square of its radius
module _ (r : Ring) (a : Arc) (q : ℕ) (ring : IsRingOf r a) (is : radius_of a ≡ pos q) where
  middle : IsRingSquare r q
  middle = (ring.near q).0 (rw is (near_itself q a.width.0))

  within_outer : (p : ℕ)
      → (p < r.outer) ↔ (IsNearCircle (pos p) (radius_of a) a.width.0 ⊎ (pos p ≤ℤ radius_of a))
  within_outer p = grind (arith, cases_lt, ints, middle)

  within_inner : (p : ℕ)
      → (p < r.inner) ↔ ((pos p ≤ℤ radius_of a) × (IsNearCircle (pos p) (radius_of a) a.width.0 → ⊥))
  within_inner p = grind (arith, ints, middle, cases_lt)

-- what lies in them
in_bound : (z : ℤ) (p bound : ℕ) → z ≡ pos p → (z <ℤ pos bound) ↔ (p < bound)
in_bound z p bound is = ((λ h. omega (arith, ints, is, h)), (λ h. omega (arith, ints, is, h)))

pub in_outer : (r : Ring) (a : Arc) (s : Spot) → IsRingOf r a
    → IsNearer a.centre r.outer s ↔ (IsInRing a s ⊎ (distance_of a s ≤ℤ radius_of a))
in_outer r a s ring =
    let is = dot_is (seen_from a.centre s) in
    let inside = in_bound (distance_of a s) _ r.outer is in
    let told = within_outer r a _ ring (dot_is (way a.centre a.from)) _ in
    ((λ near. rw is (told.0 (inside.0 near))), (λ near. inside.1 (told.1 (rw is at near))))

pub in_inner : (r : Ring) (a : Arc) (s : Spot) → IsRingOf r a → IsNearer a.centre r.inner s ↔ IsHollow a s
in_inner r a s ring =
    let is = dot_is (seen_from a.centre s) in
    let inside = in_bound (distance_of a s) _ r.inner is in
    let told = within_inner r a _ ring (dot_is (way a.centre a.from)) _ in (
      (λ near.
          let both = told.0 (inside.0 near) in record { near = rw is both.0; far = rw is both.1 }),
      (λ hollow. inside.1 (told.1 (rw is at hollow.near, rw is at hollow.far))),
    )

-- ---- sweeps

cross_self : (s : Vector) → cross s s ≡ pos 0
cross_self s = grind (arith, equal, Difference, Product, Atom)

same_not_wide : (s e : Vector) → s ≡ e → cross s e <ℤ pos 0 → ⊥
same_not_wide s e same wide = let own = rw (← same) at wide in omega (arith, ints, own, cross_self s)

not_left_out : (s e v : Vector) → IsInSweep s e v → IsLeftOut s e v → ⊥
not_left_out s e v on out = elim on [
  | inl same ↦ same_not_wide s e same out.0
  | inr rest ↦ elim rest [
    | inl both ↦ narrow_not_wide s e out.0 both.0
    | inr either ↦ elim either.1 [
      | inl after ↦ omega (arith, ints, after, out.1)
      | inr before ↦ omega (arith, ints, before, out.2)
    ]
  ]
]

in_sweep : (s e v : Vector) → IsInSweep s e v ↔ (IsInHalf s e v × (IsLeftOut s e v → ⊥))
in_sweep s e v = (
  (λ on. (inl on, not_left_out s e v on)),
  (λ both. elim both.0 [
    | inl on ↦ on
    | inr more ↦
        by_lt_z (cross s v) (pos 0)
        (λ right. by_lt_z (cross v e) (pos 0)
        (λ behind. absurd (both.1 (more, right, behind)))
        (λ before. inr (inr (more, inr before))))
        (λ after. inr (inr (more, inl after)))
  ]),
)

in_swept : (b : Bool) (s e v : Vector)
    → IsSwept b s e v ↔ (by_turn IsInHalf b s e v × (by_turn IsLeftOut b s e v → ⊥))
in_swept true s e v = in_sweep s e v
in_swept false s e v = in_sweep e s v

-- a sweep of at most a half turn lies between the lines through its ends
pub half_by_sides : (o p q : Point) (s : Spot) → (p ≡ q → ⊥) → IsNarrow (way o p) (way o q)
    → (IsLeft o p (pos 0) s × IsLeft q o (pos 0) s) ↔ IsInHalf (way o p) (way o q) (seen_from o s)
half_by_sides o p q s other narrow =
    let apart = λ (e : way o p ≡ way o q). other (same_way o p q e) in
    let start = no_more (cross (way o p) (seen_from o s)) in
    let end = no_more (cross (way q o) (seen_from q s)) ∙ beyond_end o q s in
    let sides = narrow_sweep (way o p) (way o q) (seen_from o s) _ _ start end apart narrow in (
      (λ held. inl (sides.1 held)),
      (λ half. elim half [
        | inl on ↦ sides.0 on
        | inr more ↦ absurd (narrow_not_wide (way o p) (way o q) more narrow)
      ]),
    )

-- and what a wider one leaves out lies behind both, and on neither
strictly : (d z : ℤ) → d ≡ pos 0 -ℤ z → (pos 0 ≤ℤ (d +ℤ negsuc 0)) ↔ (z <ℤ pos 0)
strictly d z e = ((λ h. omega (arith, ints)), (λ h. omega (arith, ints)))

opposite : (d z w : ℤ) → w ≡ pos 0 -ℤ d → w ≡ z → d ≡ pos 0 -ℤ z
opposite d z w e f = omega (arith, ints)

pub left_out_by_sides : (o p q : Point) (s : Spot) → cross (way o p) (way o q) <ℤ pos 0
    → (IsLeft p o (negsuc 0) s × IsLeft o q (negsuc 0) s) ↔ IsLeftOut (way o p) (way o q) (seen_from o s)
left_out_by_sides o p q s more =
    let v = seen_from o s in
    let start = strictly (cross (way p o) (seen_from p s)) (cross (way o p) v) (from_the_right o p s) in
    let back = opposite (cross (way o q) v) (cross v (way o q)) (cross (way q o) (seen_from q s))
    (from_the_right o q s) (beyond_end o q s) in
    let end = strictly (cross (way o q) v) (cross v (way o q)) back in (
      (λ held. (more, start.0 held.0, end.0 held.1)),
      (λ out. (start.1 out.1, end.1 out.2)),
    )

-- by the ends of a sweep, as it is passed counterclockwise
pub by_ends : (P : Vector → Vector → Vector → Type 0) (b : Bool) (o p q start end : Point) (v : Vector)
    → ◌≡◌ {A = Point × Point} (start, end) (if b then (p, q) else (q, p)) → by_turn P b (way o p) (way o q) v ↔ P (way o start) (way o end) v
by_ends P b o p q start end v is = grind arith

by_turn_first : (b : Bool) (s e v : Vector) → by_turn IsLeftOut b s e v → by_turn (λ p q _. IsPastHalf p q) b s e e
by_turn_first b s e v out = grind arith

-- only a wide sweep leaves something out
pub wide_where_beyond : (a : Arc) (s : Spot) → IsBeyond a s → IsWideArc a
wide_where_beyond a s = by_turn_first a.ccw (way a.centre a.from) (way a.centre a.to) (seen_from a.centre s)

-- ---- both

pub arc_is_its_runs : ArcRunsLaw
arc_is_its_runs s a =
    let turns = in_swept a.ccw (way a.centre a.from) (way a.centre a.to) (seen_from a.centre s) in (
      (λ inside. elim inside.near [
        | inl first ↦ inr (inl (record { some = inside.wide; near = first }))
        | inr other ↦ elim other [
          | inl last ↦ inr (inr (record { some = inside.wide; near = last }))
          | inr on ↦
              let turn = turns.0 on.0 in
              inl (
                record { wide = inside.wide; near = inl on.1; turn = turn.0 },
                (λ hollow. hollow.far on.1),
                turn.1,
              )
        ]
      ]),
      (λ part. elim part [
        | inl h ↦
            let near : IsInRing a s = elim h.0.near [
              | inl near ↦ near
              | inr less ↦ elim (near_or_far (distance_of a s) (radius_of a) a.width.0) [
                | inl near ↦ near
                | inr far ↦ absurd (h.1 (record { near = less; far = far }))
              ]
            ] in
            record { wide = h.0.wide; near = inr (inr (turns.1 (h.0.turn, h.2), near)) }
        | inr discs ↦ elim discs [
          | inl first ↦ record { wide = first.some; near = inl first.near }
          | inr last ↦ record { wide = last.some; near = inr (inl last.near) }
        ]
      ]),
    )
