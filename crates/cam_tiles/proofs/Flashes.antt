-- Flashes of apertures, and other figures, by where they stand.
use Rattle.std.proofs.Common.{◌≡◌, ◌↔◌, Bool, if◌then◌else◌, sym, subst, lit<, arith}
use Rattle.std.proofs.lemmas.Int.{ints}
use Rattle.cam_units.specs.Board.{IsOnBoard, IsSize}
use Rattle.cam_units.specs.declared.length.Nm.{Nm}
use Rattle.cam_units.specs.declared.point.Spot.{Spot}
use Rattle.cam_shapes.specs.Disc.{IsInHole, IsSoundDisc}
use Rattle.cam_shapes.specs.declared.disc.Disc.{Disc}
use Rattle.cam_apertures.specs.Cover.{disc, flash_point}
use Rattle.cam_apertures.specs.Soundness.{IsSideLength}
use Rattle.cam_objects.specs.declared.canvas.Figure.{Figure}
use Rattle.cam_objects.specs.Canvases.{shape_of}
use Rattle.cam_objects.specs.Image.{Covers}
use Rattle.cam_tiles.specs.declared.masks.figures.Placed.{Placed}
use Rattle.cam_tiles.specs.declared.masks.figures.RunFigure.{RunFigure}
use Rattle.cam_tiles.specs.Machinery.Figures.{IsInFigure, IsPlacedFor, IsSoundRunFigure}
use Rattle.cam_tiles.proofs.Joined.{seen_itself}

-- the sides are sizes, whichever way the shape is turned
pub sized : (quarter : Bool) (w h : Nm) → IsSideLength w.0 → IsSideLength h.0 → IsSize (if quarter then h else w).0
sized quarter w h wide high = grind (arith, ints)

-- the flash point is on the board
pub origin_board : IsOnBoard flash_point
origin_board = record { x = lit< tt; y = lit< tt }

-- a figure that stands where it is drawn
pub as_drawn : (f : Figure) (r : RunFigure) (p : Placed) → p ≡ record { figure = r; at = flash_point } → IsSoundRunFigure r
    → ((s : Spot) → Covers (shape_of f) s ↔ IsInFigure r s) → IsPlacedFor f p
as_drawn f r p is sound same =
    subst (IsPlacedFor f) (sym is) (record {
      sound = record { figure = sound; at = origin_board };
      same = λ s.
          let seen = seen_itself (IsInFigure r) s in
          ((λ held. seen.1 ((same s).0 held)), (λ held. (same s).1 (seen.0 held)));
    })

-- ---- holes

pub sound_hole : (hole : Disc) (w : Nm) → hole ≡ disc w → IsSize w.0 → IsSoundDisc hole
sound_hole hole w is size = subst IsSoundDisc (sym is) (record { centre = origin_board; diameter = size })

pub outside_hole : (P : Type 0) (s : Spot) (hole : Disc) (w : Nm) → hole ≡ disc w
    → (P × (IsInHole s (disc w) → ⊥)) ↔ (P × (IsInHole s hole → ⊥))
outside_hole P s hole w is = grind arith
