-- Boxes that are placed: of what is painted at a place, from the box of the same at the origin.
use Rattle.std.specs.Prelude.{◌≡◌, ℕ, ◌*◌, ◌^◌, ◌<◌, ◌≤◌, IsTrue, ℤ, pos, ◌+ℤ◌, ◌-ℤ◌, ◌*ℤ◌, ◌≤ℤ◌, List, All, ⊤}
use Rattle.std.specs.Int.RustNames.{unsigned_abs}
use Rattle.cam_units.specs.declared.bounds.Bounds.{Bounds}
use Rattle.cam_units.specs.declared.bounds.Bounds.TheVariants.{Empty, Closed}
use Rattle.cam_units.specs.declared.length.Nm.{Nm}
use Rattle.cam_units.specs.declared.point.Point.{Point}
use Rattle.cam_units.specs.declared.point.Spot.{Spot}
use Rattle.cam_units.specs.declared.turn.Turn.{Turn}
use Rattle.cam_units.specs.declared.turn.Turn.TheVariants.{R0, R90, R180, R270, M0, M90, M180, M270}
use Rattle.cam_refusals.specs.Limits.{board_limit}
use Rattle.cam_units.specs.Board.{IsSize}
use Rattle.cam_units.specs.Boxes.{has_no_place}
use Rattle.cam_apertures.specs.Soundness.{IsSoundAperture}
use Rattle.cam_apertures.specs.Turned.{turned_box}
use Rattle.cam_objects.specs.declared.placing.copies.Copies.{Copies}
use Rattle.cam_objects.specs.declared.entry.Entry.{Entry}
use Rattle.cam_objects.specs.declared.item.Item.{Item}
use Rattle.cam_objects.specs.declared.item.Item.TheVariants.{One, Repeat}
use Rattle.cam_objects.specs.declared.object.Object.{Object}
use Rattle.cam_objects.specs.declared.placing.place.Place.{Place}
use Rattle.cam_objects.specs.declared.tip.Tip.{Tip}
use Rattle.cam_objects.specs.declared.tip.Tip.TheVariants.{Round, Rectangular}
use Rattle.cam_objects.specs.Bounds.{moved}
use Rattle.cam_objects.specs.Leaves.{Leaf, Shape, Stamp, Stroke, Swept, Sweep, Filled, Drilled, meaning_in, repeat_leaves}
use Rattle.cam_objects.specs.Machinery.Painting.{StandsOnBoard}
use Rattle.cam_objects.specs.Soundness.{AreOnBoard}

-- a box that is turned with its place and then moved
abbrev pub placed_bounds : Place → Bounds → Bounds
placed_bounds p b = moved p.offset (turned_box p.turn b)

-- a corner of the box of leaves on the board
pub record IsNearSpot (s : Spot) : Type 0 where
  pub x : unsigned_abs s.x < 2 ^ 33
  pub y : unsigned_abs s.y < 2 ^ 33

abbrev pub IsNearBox : Bounds → Type 0
IsNearBox Empty = ⊤
IsNearBox (Closed low high) = IsNearSpot low × IsNearSpot high

-- an offset by which a near box can be moved
pub record IsBoxOffset (o : Point) : Type 0 where
  pub x : unsigned_abs o.x < 4500000000000000000
  pub y : unsigned_abs o.y < 4500000000000000000

abbrev pub moved_spot : Point → Spot → Spot
moved_spot by s = record { x = s.x +ℤ pos 2 *ℤ by.x; y = s.y +ℤ pos 2 *ℤ by.y }

-- the turn that takes another one back
abbrev pub turned_back : Turn → Turn
turned_back R0 = R0
turned_back R90 = R270
turned_back R180 = R180
turned_back R270 = R90
turned_back M0 = M0
turned_back M90 = M90
turned_back M180 = M180
turned_back M270 = M270

-- What was at most a coordinate once it was moved by so many nm was at most another one before, and likewise at least: of
-- what was near, in half nm.
pub record IsBackFrom (at by back : ℤ) : Type 0 where
  pub most : (x : ℤ) → unsigned_abs x < 2 ^ 33 → (x +ℤ pos 2 *ℤ by) ≤ℤ at → x ≤ℤ back
  pub least : (x : ℤ) → unsigned_abs x < 2 ^ 33 → at ≤ℤ (x +ℤ pos 2 *ℤ by) → back ≤ℤ x
  pub near : unsigned_abs back ≤ 2 ^ 33

-- where no place lies between its corners, it has none
abbrev pub IsUncrossed : Bounds → Type 0
IsUncrossed b = IsTrue (has_no_place b) → b ≡ Empty

-- a leaf's aperture is sound, or its width and its height or its diameter are sizes
abbrev pub IsSizedShape : Shape → Type 0
IsSizedShape (Stamp aperture turn at) = IsSoundAperture aperture
IsSizedShape (Stroke capsule) = IsSize capsule.width.0
IsSizedShape (Swept swept) = IsSize swept.width.0 × IsSize swept.height.0
IsSizedShape (Sweep arc) = IsSize arc.width.0
IsSizedShape (Filled contour) = ⊤
IsSizedShape (Drilled disc) = IsSize disc.diameter.0

abbrev pub IsSizedTip : Tip → Type 0
IsSizedTip (Round width) = IsSize width.0
IsSizedTip (Rectangular width height) = IsSize width.0 × IsSize height.0

abbrev pub AreSized : List Leaf → Type 0
AreSized leaves = All (λ l. IsSizedShape l.shape) leaves

-- how far the square about an arc or the box of a hole reaches
pub record IsBoxReach (reach : Nm) : Type 0 where
  pub some : pos 0 ≤ℤ reach.0
  pub few : reach.0 ≤ℤ pos 5700000000

-- a box that reaches so far beyond another to the left and to the right, and so far below and above
abbrev pub widened_by : ℤ → ℤ → Bounds → Bounds
widened_by across up Empty = Empty
widened_by across up (Closed low high) =
    Closed (record { x = low.x -ℤ across; y = low.y -ℤ up }) (record { x = high.x +ℤ across; y = high.y +ℤ up })

-- the copies of an item, of an object the one that it is
abbrev pub copies_of : Item → Copies
copies_of (One object) = record { columns = 1; rows = 1; i = pos 0; j = pos 0 }
copies_of (Repeat columns rows i j objects) = record { columns = columns; rows = rows; i = i; j = j }

-- a repeat that lies on the board with all its copies
pub record IsBoxedRepeat (entries : List (ℕ × Entry)) (copies : Copies) (objects : List Object) : Type 0 where
  pub many : 1 < copies.columns * copies.rows
  pub across : unsigned_abs copies.i < board_limit
  pub up : unsigned_abs copies.j < board_limit
  pub stands : All StandsOnBoard objects
  pub board : AreOnBoard (repeat_leaves (meaning_in entries) copies.columns copies.rows copies.i copies.j objects)
