-- Obrounds by their distance from the line between their ends.
use Rattle.std.proofs.Common.{◌≡◌, ℕ, ◌+◌, ◌-◌, ◌*◌, ◌<◌, ◌≤◌, ◌↔◌, ◌⊎◌, ℤ, pos, ◌-ℤ◌, ◌≤ℤ◌, ◌<ℤ◌, min, inl, inr, arith}
use Rattle.std.specs.Int.RustNames.{unsigned_abs}
use Rattle.std.proofs.lemmas.Bool.{cases_lt}
use Rattle.std.proofs.lemmas.Int.{ints, by_lt_z}
use Rattle.std.proofs.lemmas.Nat.{mul-le}
use Rattle.cam_units.specs.declared.point.Spot.{Spot}
use Rattle.cam_shapes.specs.declared.obround.Obround.{Obround}
use Rattle.cam_shapes.specs.declared.vector.Vector.{Vector}
use Rattle.cam_shapes.specs.Box.{IsAlong, IsInObround, IsRounded, from_left_end, from_right_end, swapped}
use Rattle.cam_shapes.specs.Plane.{IsNoLonger, seen_from}
use Rattle.cam_shapes.proofs.Strokes.{dot_is, squares_order}
use Rattle.cam_rows.specs.Machinery.Quarters.{IsInQuarter, past}
use Rattle.cam_rows.proofs.Circling.{below_root}

-- a place near a stretch of the line, by how far it is past the stretch and how far beside it
abbrev IsNearStretch : ℕ → ℕ → ℕ → ℕ → Type 0
IsNearStretch x y n r = past n x * past n x + y * y ≤ r * r

within_is : (v : Vector) (r x y : ℕ) → unsigned_abs v.x ≡ x → unsigned_abs v.y ≡ y
    → IsNoLonger v (pos r) ↔ (x * x + y * y ≤ r * r)
within_is v r x y e f = grind (arith, dot_is, ints)

within_by : (v : Vector) (r x y : ℕ) → x ≤ unsigned_abs v.x → unsigned_abs v.y ≡ y → IsNoLonger v (pos r)
    → x * x + y * y ≤ r * r
within_by v r x y least f near = grind (arith, within_is, mul-le)

beside_stretch : (x y n r : ℕ) → x ≤ n → y ≤ r → IsNearStretch x y n r
beside_stretch x y n r short near = grind (arith, mul-le)

near_stretch : (v : Vector) (n r : ℕ) → IsAlong v (pos n) (pos r)
    → IsNearStretch (unsigned_abs v.x) (unsigned_abs v.y) n r
near_stretch v n r (inl between) = grind (arith, beside_stretch, ints)
near_stretch v n r (inr (inl near)) =
    within_by (from_left_end v (pos n)) r (past n (unsigned_abs v.x)) (unsigned_abs v.y) (omega (arith, ints))
    (omega arith) near
near_stretch v n r (inr (inr near)) =
    within_by (from_right_end v (pos n)) r (past n (unsigned_abs v.x)) (unsigned_abs v.y) (omega (arith, ints))
    (omega arith) near

by_sign : (z : ℤ) → (z <ℤ pos 0) ⊎ (pos 0 ≤ℤ z)
by_sign z = by_lt_z z (pos 0) (λ less. inl less) (λ least. inr least)

-- past an end of the stretch, that end is near
past_end : (v : Vector) (n r : ℕ) → n < unsigned_abs v.x → IsNearStretch (unsigned_abs v.x) (unsigned_abs v.y) n r
    → IsAlong v (pos n) (pos r)
past_end v n r far near = grind (arith, by_sign, within_is, ints)

beside : (v : Vector) (n r : ℕ) → unsigned_abs v.x ≤ n → IsNearStretch (unsigned_abs v.x) (unsigned_abs v.y) n r
    → IsAlong v (pos n) (pos r)
beside v n r short near = grind (arith, squares_order, ints)

along_is : (v : Vector) (n r : ℕ)
    → IsAlong v (pos n) (pos r) ↔ IsNearStretch (unsigned_abs v.x) (unsigned_abs v.y) n r
along_is v n r = (
  (λ h. near_stretch v n r h),
  (λ h. elim (cases_lt n (unsigned_abs v.x)) [ inl far ↦ past_end v n r far h | inr short ↦ beside v n r short h ]),
)

-- the stretch of a wide obround lies along x, and that of a high one along y
wide_quarter : (x y w h : ℕ) → h ≤ w → IsInQuarter x y w h ↔ IsNearStretch x y (w - h) h
wide_quarter x y w h wide = grind arith

high_quarter : (x y w h : ℕ) → w < h → IsInQuarter x y w h ↔ IsNearStretch y x (h - w) w
high_quarter x y w h high = grind arith

wide_is : (v : Vector) (w h : ℕ) → h ≤ w → IsRounded v (pos w) (pos h) ↔ IsAlong v (pos (w - h)) (pos h)
wide_is v w h wide =
    let stretch : pos w -ℤ pos h ≡ pos (w - h) = omega (arith, ints) in
    rw stretch (
      (λ r. elim r [ inl p ↦ p.1 | inr p ↦ absurd (omega (arith, ints, p.0)) ]),
      (λ p. inl (omega (arith, ints), p)),
    )

high_is : (v : Vector) (w h : ℕ) → w < h → IsRounded v (pos w) (pos h) ↔ IsAlong (swapped v) (pos (h - w)) (pos w)
high_is v w h high =
    let stretch : pos h -ℤ pos w ≡ pos (h - w) = omega (arith, ints) in
    rw stretch (
      (λ r. elim r [ inl p ↦ absurd (omega (arith, ints, p.0)) | inr p ↦ p.1 ]),
      (λ p. inr (omega (arith, ints), p)),
    )

rounded_is : (v : Vector) (w h : ℕ)
    → IsRounded v (pos w) (pos h) ↔ IsInQuarter (unsigned_abs v.x) (unsigned_abs v.y) w h
rounded_is v w h = elim (cases_lt w h) [
  | inl high ↦
      let rounded = high_is v w h high in
      let along = along_is (swapped v) (h - w) w in
      let quarter = high_quarter (unsigned_abs v.x) (unsigned_abs v.y) w h high in
      ((λ p. quarter.1 (along.0 (rounded.0 p))), (λ p. rounded.1 (along.1 (quarter.0 p))))
  | inr wide ↦
      let rounded = wide_is v w h wide in
      let along = along_is v (w - h) h in
      let quarter = wide_quarter (unsigned_abs v.x) (unsigned_abs v.y) w h wide in
      ((λ p. quarter.1 (along.0 (rounded.0 p))), (λ p. rounded.1 (along.1 (quarter.0 p))))
]

pub obround_is : (s : Spot) (o : Obround) (w h over : ℕ) → pos 0 <ℤ o.width.0 → pos 0 <ℤ o.height.0
    → unsigned_abs o.width.0 ≡ w → unsigned_abs o.height.0 ≡ h → over ≡ unsigned_abs (seen_from o.centre s).y
    → IsInObround s o ↔ IsInQuarter (unsigned_abs (seen_from o.centre s).x) over w h
obround_is s o w h over wide high e f g =
    let width : o.width.0 ≡ pos w = omega (arith, ints) in
    let height : o.height.0 ≡ pos h = omega (arith, ints) in
    let v = seen_from o.centre s in
    let rounded : IsRounded v o.width.0 o.height.0 ↔ IsInQuarter (unsigned_abs v.x) over w h =
    rw (width, height, g) (rounded_is v w h) in (
      (λ inside. rounded.0 inside.rounded),
      (λ quarter. record { wide = wide; high = high; rounded = rounded.1 quarter }),
    )

-- a row above or below an obround holds none of it
pub over_obround : (x over w h : ℕ) → h < over → IsInQuarter x over w h → ⊥
over_obround x over w h far inside = grind (arith, mul-le)

-- the reach of an end
pub round_reach : (x over w h m p room half : ℕ) → m ≡ min w h → p ≡ over - (h - m) → room ≡ m * m - p * p → over ≤ h
    → half * half ≤ room → room < (half + 1) * (half + 1) → (x ≤ w - m + half) ↔ IsInQuarter x over w h
round_reach x over w h m p room half e f g low least greatest = grind (arith, mul-le, below_root)
