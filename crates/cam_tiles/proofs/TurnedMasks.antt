-- Masks that are turned over at the places of shapes.
use Rattle.std.proofs.Common.{arith, ◌≡◌, ◌↔◌, ℕ, Bool, IsTrue}
use Rattle.std.proofs.lemmas.Bool.{false≢true}
use Rattle.cam_units.specs.declared.point.Point.{Point}
use Rattle.cam_units.specs.declared.point.Spot.{Spot}
use Rattle.cam_shapes.specs.declared.contour.Contour.{Contour}
use Rattle.cam_shapes.specs.Contour.{IsInContour}
use Rattle.cam_shapes.specs.Sides.{differ}
use Rattle.cam_objects.specs.Image.{relative}
use Rattle.cam_tiles.specs.declared.grid.Grid.{Grid}
use Rattle.cam_tiles.specs.Machinery.Masks.{AreMarksOf, IsBlank, IsIn, IsMarked, Joins, Marking, Merges, Turns, TurnsBy}
use Rattle.cam_tiles.specs.declared.masks.join.Join.{Join}
use Rattle.cam_tiles.specs.Tiles.{centre_in}
use Rattle.cam_tiles.proofs.ChangedParities.{from_even, not_turned, turned_like, turned_twice}
use Rattle.cam_tiles.proofs.Joined.{Shows, joined_like, same, set_or_not}
use Rattle.cam_tiles.proofs.TurnedContours.{Turning, inside_turned, turns_side}

pub turns_like : (P Q : Spot → Type 0) (old new : Marking) → ((s : Spot) → P s ↔ Q s) → Turns P old new
    → Turns Q old new
turns_like P Q old new alike h = grind (arith, turned_like)

pub turns_nothing : (P : Spot → Type 0) (m : Marking)
    → ((column row : ℕ) → IsIn m.grid column row → P (centre_in m.grid column row) → ⊥) → Turns P m m
turns_nothing P m none = grind (arith, not_turned)

-- two more
pub turns_twice : (f g : Spot → Bool) (old between new : Marking) → Turns (λ s. IsTrue (f s)) old between
    → Turns (λ s. IsTrue (g s)) between new → Turns (λ s. IsTrue (differ (f s) (g s))) old new
turns_twice f g old between new h k = grind (arith, turned_twice, set_or_not)

module _ (at : Point) where
  -- where a test of places says so, as they are seen from a point
  abbrev pub TurnsSo : (Spot → Bool) → Marking → Marking → Type 0
  TurnsSo test = Turns (λ s. IsTrue (test (relative at s)))

  pub turning : Turning TurnsSo
  turning = grind (arith, turns_nothing, false≢true, turns_twice)

  pub turned_inside : (c : Contour) (old new : Marking) → TurnsSo (turns_side c) old new
      → Turns (λ s. IsInContour (relative at s) c) old new
  turned_inside c old new h = turns_like _ _ old new (λ s. inside_turned (relative at s) c) h

-- a blank mask that is turned shows the shape
pub shows_turned : (P : Spot → Type 0) (blank new : Marking) → IsBlank blank → Turns P blank new → Shows P new
shows_turned P blank new none h = grind (arith, from_even, same)

-- ---- masks of shapes

module _ (P : Spot → Type 0) (g : Grid) (own old new : Marking) (is : g ≡ old.grid) (marks : AreMarksOf g P own) where
  told : (column row : ℕ) → IsIn old.grid column row → IsMarked own column row ↔ P (centre_in old.grid column row)
  told = grind arith

  pub marks_joined : (how : Join) → Merges how own old new → Joins how P old new
  marks_joined how h = grind (arith, joined_like, same, told)

  pub marks_turned : TurnsBy own old new → Turns P old new
  marks_turned h = grind (arith, turned_like, told)
