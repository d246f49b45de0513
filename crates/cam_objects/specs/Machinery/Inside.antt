-- What the tests of boxes tell of the board.
use Rattle.std.specs.Prelude.{ℕ, ◌-◌, ℤ, pos, ◌*ℤ◌, List, fold, IsTrue, All}
use Rattle.cam_units.specs.Board.{IsPlace}
use Rattle.cam_units.specs.Boxes.{join_of}
use Rattle.cam_units.specs.declared.bounds.Bounds.{Bounds}
use Rattle.cam_units.specs.declared.bounds.Bounds.TheVariants.{Empty, Closed}
use Rattle.cam_units.specs.declared.point.Point.{Point}
use Rattle.cam_apertures.specs.Primitives.{box_of_point}
use Rattle.cam_objects.specs.declared.entry.Entry.{Entry}
use Rattle.cam_objects.specs.declared.object.Object.{Object}
use Rattle.cam_objects.specs.Leaves.{meaning_in}
use Rattle.cam_objects.specs.Machinery.Painting.{StandsOnBoard}
use Rattle.cam_objects.specs.Soundness.{is_drawable}

-- both corners lie on the board
abbrev pub IsBoxOnBoard : Bounds → Type 0
IsBoxOnBoard Empty = Unit {0}
IsBoxOnBoard (Closed low high) = IsPlace low × IsPlace high

-- a box, and points behind it
abbrev pub box_behind : Bounds → List Point → Bounds
box_behind box points = fold (λ all p. join_of all (box_of_point p)) box points

-- where the last copy of a repeat lies, beside the first
abbrev pub last_copy : ℕ → ℕ → ℤ → ℤ → Point
last_copy columns rows i j = record { x = pos (columns - 1) *ℤ i; y = pos (rows - 1) *ℤ j }

-- objects that stand on the board, with leaves for each
pub record ArePainted (entries : List (ℕ × Entry)) (objects : List Object) : Type 0 where
  pub stands : All StandsOnBoard objects
  pub drawable : All (λ o. IsTrue (is_drawable (meaning_in entries) o)) objects
