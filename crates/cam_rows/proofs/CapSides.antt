-- The sides of a cap's chord, as half planes.
use Rattle.std.proofs.Common.{◌≡◌, ◌↔◌, ◌⊎◌, ℤ, pos, ◌+ℤ◌, ◌-ℤ◌, ◌≤ℤ◌}
use Rattle.std.proofs.Common.{inl, inr, Bool, true, false, if◌then◌else◌, IsTrue, refl, arith}
use Rattle.std.proofs.lemmas.Bool.{false≢true}
use Rattle.std.proofs.lemmas.Int.{ints, by_lt_z}
use Rattle.cam_units.specs.declared.point.Spot.{Spot}
use Rattle.cam_shapes.specs.declared.cap.Cap.{Cap}
use Rattle.cam_shapes.specs.declared.vector.Vector.{Vector}
use Rattle.cam_shapes.specs.Cap.{is_left_of_chord, is_on_side}
use Rattle.cam_shapes.specs.Plane.{cross, seen_from, way}
use Rattle.cam_shapes.proofs.Widths.{wide}
use Rattle.cam_rows.specs.declared.centres.Centres.{Centres}
use Rattle.cam_rows.specs.declared.half_plane.HalfPlane.{HalfPlane}
use Rattle.cam_rows.specs.Machinery.HalfPlanes.{IsHalfPlaneOf}
use Rattle.cam_rows.specs.Machinery.Ties.{leads_down_or_right}
use Rattle.cam_rows.proofs.BesideWays.{from_the_right}
use Rattle.cam_rows.proofs.CapTies.{at_most_by_tie, less_by_tie}

-- what is added to the cross products with a chord, so that 0 is left of it where its line is
abbrev pub IsTie : Vector → ℤ → Type 0
IsTie d tie =
    ((leads_down_or_right d ≡ true) × (tie ≡ pos 0)) ⊎ ((leads_down_or_right d ≡ false) × (tie ≡ pos 0 -ℤ pos 1))

-- as 128 bits compute the other side's
pub other_tie : (d : Vector) (tie : ℤ) → IsTie d tie
    → wide ((pos 0 -ℤ pos 1) -ℤ tie) ≡ (pos 0 -ℤ pos 1) -ℤ tie
other_tie d tie it = grind arith

left_by_tie : (d v : Vector) (tie : ℤ) → IsTie d tie → IsTrue (is_left_of_chord d v) ↔ (pos 0 ≤ℤ (cross d v +ℤ tie))
left_by_tie d v tie (inl on) =
    let told = at_most_by_tie (pos 0) (cross d v) (leads_down_or_right d) on.0 in (
      (λ t. let most = told.0 t in omega (arith, ints, most, on.1)),
      (λ h. told.1 (omega (arith, ints, h, on.1))),
    )
left_by_tie d v tie (inr off) =
    let told = less_by_tie (pos 0) (cross d v) (leads_down_or_right d) off.0 in (
      (λ t. let less = told.0 t in omega (arith, ints, less, off.1)),
      (λ h. told.1 (omega (arith, ints, h, off.1))),
    )

not_left : (left : Bool) (z w tie other : ℤ) → IsTrue left ↔ (pos 0 ≤ℤ (z +ℤ tie)) → w ≡ pos 0 -ℤ z
    → other ≡ (pos 0 -ℤ pos 1) -ℤ tie → (pos 0 ≤ℤ (w +ℤ other)) ↔ IsTrue (if left then false else true)
not_left true z w tie other told back e = (
  (λ h. let most = told.0 refl in absurd (omega (arith, ints, most, h, back, e))),
  (λ t. absurd (false≢true t)),
)
not_left false z w tie other told back e = (
  (λ _. refl),
  (λ _. by_lt_z (z +ℤ tie) (pos 0)
      (λ less. omega (arith, ints, less, back, e))
      (λ most. absurd (false≢true (told.1 most)))),
)

-- the centres of a half plane, told in other words
same_centres : (top : Centres) (P Q : Spot → Type 0) (h : HalfPlane) → ((s : Spot) → P s ↔ Q s)
    → IsHalfPlaneOf top P h → IsHalfPlaneOf top Q h
same_centres top P Q h same half = grind arith

-- the side of a cap
pub left_side : (c : Cap) (top : Centres) (tie : ℤ) (h : HalfPlane) → c.ccw ≡ false → IsTie (way c.from c.to) tie
    → IsHalfPlaneOf top (λ s. pos 0 ≤ℤ (cross (way c.from c.to) (seen_from c.from s) +ℤ tie)) h
    → IsHalfPlaneOf top (λ s. IsTrue (is_on_side s c)) h
left_side c top tie h clockwise is_tie half =
    same_centres top (λ s. pos 0 ≤ℤ (cross (way c.from c.to) (seen_from c.from s) +ℤ tie))
    (λ s. IsTrue (is_on_side s c)) h
    (λ s.
    let told = left_by_tie (way c.from c.to) (seen_from c.from s) tie is_tie in
    rw clockwise (told.1, told.0)) half

pub right_side : (c : Cap) (top : Centres) (tie other : ℤ) (h : HalfPlane) → c.ccw ≡ true → IsTie (way c.from c.to) tie
    → other ≡ (pos 0 -ℤ pos 1) -ℤ tie
    → IsHalfPlaneOf top (λ s. pos 0 ≤ℤ (cross (way c.to c.from) (seen_from c.to s) +ℤ other)) h
    → IsHalfPlaneOf top (λ s. IsTrue (is_on_side s c)) h
right_side c top tie other h ccw is_tie e half =
    same_centres top (λ s. pos 0 ≤ℤ (cross (way c.to c.from) (seen_from c.to s) +ℤ other))
    (λ s. IsTrue (is_on_side s c)) h
    (λ s. rw ccw (not_left (is_left_of_chord (way c.from c.to) (seen_from c.from s))
    (cross (way c.from c.to) (seen_from c.from s)) (cross (way c.to c.from) (seen_from c.to s)) tie other
    (left_by_tie (way c.from c.to) (seen_from c.from s) tie is_tie) (from_the_right c.from c.to s) e)) half
