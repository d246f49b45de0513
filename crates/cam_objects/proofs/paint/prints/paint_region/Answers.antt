use Rattle.std.proofs.Common.{rules, ap, sym, subst, ◌∙◌, arith}
use Rattle.cam_objects.specs.Machinery.Boxes.{IsNearBox, placed_bounds}
use Rattle.cam_objects.proofs.BoxLimits.{within_near}
use Rattle.cam_objects.proofs.Canvases.{sound_print}
use Rattle.cam_objects.specs.Bounds.{box_of_contour}
use Rattle.cam_objects.proofs.Placed.{contour_offset, standing}
use Rattle.cam_objects.proofs.PlacedShapes.{shapes_so}
use Rattle.cam_objects.proofs.SizedLeaves.{contour_within, inner}
use Rattle.cam_objects.proofs.paint.prints.paint_region.Goals as goal

pub contour_bounds-requires : goal.contour_bounds-requires
contour_bounds-requires g c = search (rules, standing)

pub bounds-requires-clause-offset : goal.bounds-requires-clause-offset
bounds-requires-clause-offset g c = grind (arith, contour_offset)

pub bounds-requires-clause-bounds : goal.bounds-requires-clause-bounds
bounds-requires-clause-bounds g c =
    let contour = c.args.contour.now in
    subst IsNearBox (sym c.contour_bounds.ensures)
    (within_near inner (box_of_contour contour) (omega arith)
    (contour_within contour (standing c.args.place.now.turn c.args.place.now.offset contour c.requires.contour)))

pub paint_leaf-requires : goal.paint_leaf-requires
paint_leaf-requires g c =
    let place = c.args.place.now in
    sound_print _ c.requires.contour
    (c.bounds.ensures ∙ ap (placed_bounds place) c.contour_bounds.ensures ∙ sym (shapes_so.filled place c.args.contour.now))

pub returns : goal.returns
returns c = grind (arith)
