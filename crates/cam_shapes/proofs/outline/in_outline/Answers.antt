use Rattle.std.proofs.Common.{rules}
use Rattle.std.proofs.Common.{◌≡◌, ◌-◌, ◌≤◌, ◌↔◌, Bool, IsTrue, List, [], ◌∷◌, length, map, take, drop, get_or, ap, ◌∙◌, arith}
use Rattle.std.proofs.lemmas.List.{take_all}
use Rattle.cam_units.specs.declared.point.Point.{Point}
use Rattle.cam_units.specs.declared.point.Spot.{Spot}
use Rattle.cam_units.specs.declared.turn.Turn.{Turn}
use Rattle.cam_shapes.specs.Contour.{IsInContour}
use Rattle.cam_shapes.specs.Outline.{lines_to, outline_of}
use Rattle.cam_shapes.specs.Placing.{placed_contour, placed_point, placed_seg}
use Rattle.cam_shapes.specs.Sides.{change_side}
use Rattle.cam_shapes.proofs.Parity.{sides_are_parity}
use Rattle.cam_shapes.proofs.outline.in_outline.Goals as goal

-- the outline through a first point and others
enclosed : (s : Spot) (t : Turn) (o : Point) (points : List Point) (d start : Point) (b : Bool) → 1 ≤ length points
    → start ≡ placed_point t o (get_or points 0 d)
    → b ≡ change_side s start start (map (placed_seg t o) (lines_to (take (length points - 1) (drop 1 points))))
    → IsTrue b ↔ IsInContour s (placed_contour t o (outline_of points))
enclosed s t o [] d start b h e f = absurd (omega arith)
enclosed s t o (p ∷ ps) d start b h e f =
    sides_are_parity s (placed_contour t o (outline_of (p ∷ ps))) b
    (f ∙ ap (λ others. change_side s start start (map (placed_seg t o) (lines_to others))) (take_all (length (p ∷ ps) - 1) ps (omega arith))
    ∙ ap (λ first. change_side s first first (map (placed_seg t o) (lines_to ps))) e)

pub returns : goal.returns
returns c = search (rules, enclosed)

pub returns-in_default : goal.returns-in_default
returns-in_default c = grind (arith)
