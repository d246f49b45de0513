-- Closed boxes by the places that they hold.
use Rattle.std.specs.Prelude.{Bool, true, ◌||◌, if◌then◌else◌, ◌≤ℤ◌}
use Rattle.std.specs.Int.{int_min, int_max}
use Rattle.std.specs.Int.RustNames.{int_lt}
use Rattle.cam_units.specs.declared.point.Spot.{Spot}
use Rattle.cam_units.specs.declared.bounds.Bounds.{Bounds}
use Rattle.cam_units.specs.declared.bounds.Bounds.TheVariants.{Empty, Closed}

-- the place lies in the box or on its edge
pub record IsInBox (low high s : Spot) : Type 0 where
  pub left : low.x ≤ℤ s.x
  pub right : s.x ≤ℤ high.x
  pub below : low.y ≤ℤ s.y
  pub above : s.y ≤ℤ high.y

abbrev pub Holds : Bounds → Spot → Type 0
Holds Empty s = ⊥
Holds (Closed low high) s = IsInBox low high s

-- each place of the one is a place of the other
abbrev pub IsWithin : Bounds → Bounds → Type 0
IsWithin a b = (s : Spot) → Holds a s → Holds b s

abbrev pub HaveCommonPlace : Bounds → Bounds → Type 0
HaveCommonPlace a b = (s : Spot) × (Holds a s × Holds b s)

-- the box holds both, and every box that holds both holds it
pub record IsLeastAround (a b around : Bounds) : Type 0 where
  pub first : IsWithin a around
  pub second : IsWithin b around
  pub least : (other : Bounds) → IsWithin a other → IsWithin b other → IsWithin around other

-- the corners themselves, for those who compute with boxes
abbrev pub least_of : Spot → Spot → Spot
least_of a b = record { x = int_min a.x b.x; y = int_min a.y b.y }

abbrev pub greatest_of : Spot → Spot → Spot
greatest_of a b = record { x = int_max a.x b.x; y = int_max a.y b.y }

abbrev pub has_no_place : Bounds → Bool
has_no_place Empty = true
has_no_place (Closed low high) = int_lt high.x low.x || int_lt high.y low.y

-- the box between two corners, empty where they are crossed
abbrev pub box_between : Spot → Spot → Bounds
box_between low high = if has_no_place (Closed low high) then Empty else Closed low high

abbrev pub clip_of : Bounds → Bounds → Bounds
clip_of Empty b = Empty
clip_of (Closed low high) Empty = Empty
clip_of (Closed low high) (Closed low' high') = box_between (greatest_of low low') (least_of high high')

abbrev pub span_of : Bounds → Bounds → Bounds
span_of Empty b = b
span_of (Closed low high) Empty = Closed low high
span_of (Closed low high) (Closed low' high') = Closed (least_of low low') (greatest_of high high')

abbrev pub join_of : Bounds → Bounds → Bounds
join_of a b = if has_no_place a then b else (if has_no_place b then a else span_of a b)
