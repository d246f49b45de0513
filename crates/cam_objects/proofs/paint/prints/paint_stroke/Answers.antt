use Rattle.std.proofs.Common.{ap, sym, subst, ◌∙◌, arith}
use Rattle.cam_units.specs.Board.{IsOnBoard}
use Rattle.cam_objects.specs.Bounds.{box_of_shape}
use Rattle.cam_objects.proofs.Canvases.{sound_print}
use Rattle.cam_objects.proofs.paint.prints.paint_stroke.Goals as goal

pub drawn-requires-clause-from : goal.drawn-requires-clause-from
drawn-requires-clause-from g c = subst IsOnBoard (sym c.point-from.ensures) c.requires.from.there

pub drawn-requires-clause-to : goal.drawn-requires-clause-to
drawn-requires-clause-to g c = subst IsOnBoard (sym c.point-to.ensures) c.requires.to.there

pub drawn_bounds-requires-clause-from : goal.drawn_bounds-requires-clause-from
drawn_bounds-requires-clause-from g c = subst IsOnBoard (sym c.point-from.ensures) c.requires.from.there

pub drawn_bounds-requires-clause-to : goal.drawn_bounds-requires-clause-to
drawn_bounds-requires-clause-to g c = subst IsOnBoard (sym c.point-to.ensures) c.requires.to.there

pub paint_leaf-requires : goal.paint_leaf-requires
paint_leaf-requires g c =
    sound_print _ c.drawn.ensures.sound (c.drawn_bounds.ensures ∙ ap (λ s. box_of_shape s) (sym c.drawn.ensures.shape))

pub returns : goal.returns
returns c = grind (arith)
