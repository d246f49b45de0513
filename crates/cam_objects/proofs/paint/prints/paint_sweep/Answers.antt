use Rattle.std.proofs.Common.{sym, subst, arith}
use Rattle.cam_units.specs.Board.{IsOnBoard}
use Rattle.cam_objects.proofs.Canvases.{sound_print}
use Rattle.cam_objects.proofs.paint.prints.paint_sweep.Goals as goal

pub paint_leaf-requires : goal.paint_leaf-requires
paint_leaf-requires g c =
    sound_print _
    (record {
      from = subst IsOnBoard (sym c.point.ensures) c.requires.from.there;
      to = subst IsOnBoard (sym c.point-2.ensures) c.requires.to.there;
      centre = subst IsOnBoard (sym c.point-3.ensures) c.requires.centre.there;
      width = c.requires.width;
    }) c.sweep_bounds.ensures

pub sweep_bounds-requires : goal.sweep_bounds-requires
sweep_bounds-requires c = grind (arith)

pub returns : goal.returns
returns c = grind (arith)
