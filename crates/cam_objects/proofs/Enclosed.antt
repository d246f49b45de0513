-- boxes that lie in others
use Rattle.std.proofs.Common.{◌↔◌, ℕ, ◌+◌, ◌<◌, ◌≤◌, Bool, ◌&&◌, IsTrue, inl, inr, List, subst, arith}
use Rattle.std.proofs.lemmas.Bool.{cases_lt}
use Rattle.std.proofs.lemmas.Int.{ints}
use lib.Signed.{le_z}
use Rattle.cam_shapes.proofs.Widths.{at_most_is}
use Rattle.cam_units.specs.Boxes.{IsInBox}
use Rattle.cam_units.specs.declared.bounds.Bounds.{Bounds}
use Rattle.cam_units.specs.declared.bounds.Bounds.TheVariants.{Closed}
use Rattle.cam_units.specs.declared.point.Spot.{Spot}
use Rattle.cam_objects.specs.Cells.{box_at}
use Rattle.cam_objects.specs.Enclosed.{IsEnclosed}
use Rattle.cam_objects.proofs.TestLaws.{both, like}

pub between : (low high s : Spot) → IsTrue (((le_z low.x s.x && le_z s.x high.x) && le_z low.y s.y) && le_z s.y high.y) ↔ IsInBox low high s
between low high s = grind (arith, like, both, at_most_is)

-- a box of which no corner is crossed lies in another where its corners do
corners : (low high least greatest : Spot)
    → (((IsInBox low high low × IsInBox least greatest low) × IsInBox least greatest high)
    → IsEnclosed (Closed low high) (Closed least greatest))
corners low high least greatest h = grind (arith, ints)

back : (low high least greatest : Spot) → IsEnclosed (Closed low high) (Closed least greatest)
    → (IsInBox low high low × IsInBox least greatest low) × IsInBox least greatest high
back low high least greatest h = grind (arith, ints)

pub enclosed : (low high least greatest : Spot) (a b c : Bool) → (IsTrue a ↔ IsInBox low high low)
    → (IsTrue b ↔ IsInBox least greatest low) → (IsTrue c ↔ IsInBox least greatest high)
    → IsTrue ((a && b) && c) ↔ IsEnclosed (Closed low high) (Closed least greatest)
enclosed low high least greatest a b c p q r =
    like (corners low high least greatest) (back low high least greatest) (both (both p q) r)

pub others_more : (boxes : List Bounds) (outer : Bounds) (from place : ℕ)
    → ((j : ℕ) → from ≤ j → j < place → IsEnclosed (box_at boxes j) outer → ⊥)
    → (IsEnclosed (box_at boxes place) outer → ⊥)
    → (j : ℕ) → from ≤ j → j < place + 1 → IsEnclosed (box_at boxes j) outer → ⊥
others_more boxes outer from place others here j onward under = elim (cases_lt j place) [
  | inl less ↦ others j onward less
  | inr last ↦ subst (λ k. IsEnclosed (box_at boxes k) outer → ⊥) (omega arith) here
]
