-- Outlines that are turned, and then moved by nothing.
use Rattle.std.proofs.Common.{◌≡◌, ℤ, pos, ◌+ℤ◌, List, [], ◌∷◌, map, All, refl, arith}
use Rattle.std.proofs.lemmas.Int.{ints}
use Rattle.std.proofs.lemmas.List.Elements.{All-weaker}
use Rattle.cam_units.specs.declared.point.Point.{Point}
use Rattle.cam_units.specs.declared.point.Spot.{Spot}
use Rattle.cam_units.specs.declared.turn.Turn.{Turn}
use Rattle.cam_units.specs.declared.turn.Turn.TheVariants.{R0, R90, R180, R270, M0, M90, M180, M270}
use Rattle.cam_units.specs.Board.{IsOnBoard}
use Rattle.cam_units.proofs.TurnLaws.{same_point}
use Rattle.cam_shapes.specs.declared.segments.Seg.TheVariants.{Line}
use Rattle.cam_shapes.specs.Contour.{IsInContour}
use Rattle.cam_shapes.specs.Outline.{lines_to, outline_of}
use Rattle.cam_shapes.specs.Placing.{placed_contour, placed_point, placed_seg, IsPlaceablePoint}
use Rattle.cam_macros.specs.declared.primitive.PrimShape.{PrimShape}
use Rattle.cam_macros.specs.declared.primitive.PrimShape.TheVariants.{Outline}
use Rattle.cam_apertures.specs.Cover.{flash_point, IsInShape}
use Rattle.cam_apertures.specs.Primitives.{IsMacroPoint, IsSoundShape}
use Rattle.cam_apertures.specs.Turned.{turned_point, turned_shape}

pub on_board : (p : Point) → IsMacroPoint p → IsOnBoard p
on_board p h = record { x = omega (arith, h.x); y = omega (arith, h.y) }

-- a macro's point stays one
pub near_turned : (t : Turn) (p : Point) → IsMacroPoint p → IsMacroPoint (turned_point t p)
near_turned R0 p h = record { x = omega (arith, ints, h.x); y = omega (arith, ints, h.y) }
near_turned R90 p h = record { x = omega (arith, ints, h.y); y = omega (arith, ints, h.x) }
near_turned R180 p h = record { x = omega (arith, ints, h.x); y = omega (arith, ints, h.y) }
near_turned R270 p h = record { x = omega (arith, ints, h.y); y = omega (arith, ints, h.x) }
near_turned M0 p h = record { x = omega (arith, ints, h.x); y = omega (arith, ints, h.y) }
near_turned M90 p h = record { x = omega (arith, ints, h.y); y = omega (arith, ints, h.x) }
near_turned M180 p h = record { x = omega (arith, ints, h.x); y = omega (arith, ints, h.y) }
near_turned M270 p h = record { x = omega (arith, ints, h.y); y = omega (arith, ints, h.x) }

no_more : (z : ℤ) → z +ℤ pos 0 ≡ z
no_more z = omega (arith, ints)

placed_is_turned : (t : Turn) (p : Point) → placed_point t flash_point p ≡ turned_point t p
placed_is_turned t p = grind (arith, same_point, no_more)

pub origin_turned : (t : Turn) → turned_point t flash_point ≡ flash_point
origin_turned t = grind arith

placed_lines : (t : Turn) (points : List Point) → map (placed_seg t flash_point) (lines_to points) ≡ lines_to (map (turned_point t) points)
placed_lines t [] = refl
placed_lines t (p ∷ ps) = λ i. Line (placed_is_turned t p i) ∷ placed_lines t ps i

-- the outline through turned points
outline_turned : (t : Turn) (points : List Point) → placed_contour t flash_point (outline_of points) ≡ outline_of (map (turned_point t) points)
outline_turned t points = grind (arith, placed_is_turned, origin_turned, placed_lines)

placeable : (t : Turn) (p : Point) → IsMacroPoint p → IsPlaceablePoint t flash_point p
placeable t p h = grind (arith, on_board, placed_is_turned, near_turned)

all_placeable : (t : Turn) (points : List Point) → All IsMacroPoint points → All (IsPlaceablePoint t flash_point) points
all_placeable t points h = All-weaker IsMacroPoint (IsPlaceablePoint t flash_point) (placeable t) points h

-- ---- the shape of a primitive that is an outline

pub outline_placeable : (t : Turn) (shape : PrimShape) (points slice : List Point) → shape ≡ Outline points
    → slice ≡ points → IsSoundShape shape → All (IsPlaceablePoint t flash_point) slice
outline_placeable t shape points slice e f sound = grind (arith, all_placeable)

pub outline_places : (t : Turn) (shape : PrimShape) (points slice : List Point) (s : Spot) → shape ≡ Outline points
    → slice ≡ points → IsInContour s (placed_contour t flash_point (outline_of slice)) ≡ IsInShape (turned_shape t shape) s
outline_places t shape points slice s e f = grind (arith, outline_turned)
