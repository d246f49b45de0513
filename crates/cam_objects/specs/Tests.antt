-- Whether a place is black, as a test that computes, for those who define pictures and machines by it; and laws of tests:
-- each says what a relation says.
use Rattle.std.specs.Prelude.{◌≡◌, ◌↔◌, ℕ, Bool, false, if◌then◌else◌, IsTrue, List, [], ◌∷◌, Option, None, Some, unwrap_or, All}
use Rattle.std.specs.Option.{option_or}
use Rattle.cam_units.specs.Board.{IsOnBoard}
use Rattle.cam_units.specs.declared.point.Point.{Point}
use Rattle.cam_units.specs.declared.point.Spot.{Spot}
use Rattle.cam_shapes.specs.Tests.{is_in_arc, is_in_capsule, is_in_contour, is_in_disc, is_in_swept}
use Rattle.cam_apertures.specs.Tests.{is_covered}
use Rattle.cam_objects.specs.declared.drill_item.DrillItem.{DrillItem}
use Rattle.cam_objects.specs.declared.entry.Entry.{Entry}
use Rattle.cam_objects.specs.declared.item.Item.{Item}
use Rattle.cam_objects.specs.DrillSoundness.{KeepsDrillLimits, keeps_drill_limits}
use Rattle.cam_objects.specs.Image.{Covers, IsBlack, relative}
use Rattle.cam_objects.specs.Leaves.{Leaf, Shape, Stamp, Stroke, Swept, Sweep, Filled, Drilled}
use Rattle.cam_objects.specs.Soundness.{IsInside, KeepsLimits, are_on_board, is_inside, keeps_limits}

-- ---- places

unfoldable pub covers : Shape → Spot → Bool
covers (Stamp aperture turn at) s = is_covered aperture turn (relative at s)
covers (Stroke capsule) s = is_in_capsule s capsule
covers (Swept swept) s = is_in_swept s swept
covers (Sweep arc) s = is_in_arc s arc
covers (Filled contour) s = is_in_contour s contour
covers (Drilled disc) s = is_in_disc s disc

-- the ink of a place after leaves were painted in order: each gives its polarity to the places that it covers
abbrev pub painted : Bool → List Leaf → Spot → Bool
painted ink [] s = ink
painted ink (l ∷ leaves) s = painted (if covers l.shape s then l.dark else ink) leaves s

-- the plane starts clear
unfoldable pub is_black : List Leaf → Spot → Bool
is_black leaves s = painted false leaves s

-- the polarity of the last leaf that covers a place; none where no leaf does
abbrev pub last_ink : List Leaf → Spot → Option Bool
last_ink [] s = None
last_ink (l ∷ leaves) s = option_or (last_ink leaves s) (if covers l.shape s then Some l.dark else None)

-- the test of a shape holds exactly of the places that it covers
abbrev pub CoverTestLaw : Type 0
CoverTestLaw = (shape : Shape) (s : Spot) → IsTrue (covers shape s) ↔ Covers shape s

-- painting in order makes exactly those places black of which the last leaf that covers them is dark
abbrev pub PaintingTestLaw : Type 0
PaintingTestLaw = (leaves : List Leaf) (s : Spot) → IsTrue (is_black leaves s) ↔ IsBlack leaves s

-- and so does looking for that leaf
abbrev pub LastInkLaw : Type 0
LastInkLaw = (leaves : List Leaf) (s : Spot) → is_black leaves s ≡ unwrap_or (last_ink leaves s) false

-- ---- items

-- the test holds exactly of the items that lie on the board
abbrev pub InsideTestLaw : Type 0
InsideTestLaw = (entries : List (ℕ × Entry)) (item : Item) → IsTrue (is_inside entries item) ↔ IsInside entries item

-- that of points exactly of those that do
abbrev pub BoardTestLaw : Type 0
BoardTestLaw = (points : List Point) → IsTrue (are_on_board points) ↔ All IsOnBoard points

-- and those of limits exactly where they are kept
pub record LimitTestLaw : Type 0 where
  pub layer : (entries : List (ℕ × Entry)) (items : List Item)
      → IsTrue (keeps_limits entries items) ↔ KeepsLimits entries items
  pub drill_layer : (items : List DrillItem) → IsTrue (keeps_drill_limits items) ↔ KeepsDrillLimits items
