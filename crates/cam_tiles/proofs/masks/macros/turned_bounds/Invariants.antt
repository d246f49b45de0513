use Rattle.std.proofs.Common.{◌≡◌, fold, take}
use Rattle.cam_units.specs.declared.bounds.Bounds.TheVariants.{Empty}
use Rattle.cam_units.specs.Boxes.{join_of}
use Rattle.cam_apertures.specs.Primitives.{box_of_point}
use Rattle.cam_apertures.specs.Turned.{turned_point}
use Rattle.cam_tiles.proofs.masks.macros.turned_bounds.Given as goal

-- the box of the points so far
abbrev pub invariant-loop-point : goal.invariant-loop-point
invariant-loop-point l =
    l.bounds ≡ fold (λ box p. join_of box (box_of_point (turned_point l.turn p))) Empty (take l.point-index l.points)
