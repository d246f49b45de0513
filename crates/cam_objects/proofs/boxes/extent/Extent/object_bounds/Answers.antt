use Rattle.std.proofs.Common.{ap, sym, subst, ◌∙◌, arith}
use Rattle.cam_objects.specs.declared.object.Object.{Object}
use Rattle.cam_objects.specs.declared.tip.Tip.{Tip}
use Rattle.cam_objects.specs.Bounds.{bounds_of, box_of_shape}
use Rattle.cam_objects.specs.Leaves.{drawn, meaning_in, object_leaves, origin}
use Rattle.cam_objects.specs.Machinery.Painting.{StandsOnBoard}
use Rattle.cam_objects.proofs.Extents.{bounded_arc, bounded_draw, bounded_region, sized, wide}
use Rattle.cam_objects.proofs.boxes.extent.Extent.object_bounds.Goals as goal

pub turned-requires : goal.turned-requires
turned-requires c = grind (arith, sized)

pub drawn_bounds-requires-clause-from : goal.drawn_bounds-requires-clause-from
drawn_bounds-requires-clause-from c = (subst StandsOnBoard c.in-Draw.is c.requires.stands) 0 c.in-Draw.from (omega arith)

pub drawn_bounds-requires-clause-to : goal.drawn_bounds-requires-clause-to
drawn_bounds-requires-clause-to c = (subst StandsOnBoard c.in-Draw.is c.requires.stands) 1 c.in-Draw.from (omega arith)

pub sweep_bounds-requires : goal.sweep_bounds-requires
sweep_bounds-requires c =
    let go = c.go_to-in-Arc in
    let stands = subst StandsOnBoard c.in-Arc.is c.requires.stands in record {
      from = stands 0 c.in-Arc.from (omega arith);
      to = stands 1 c.in-Arc.from (omega arith);
      centre = stands 2 c.in-Arc.from (omega arith);
      width =
          wide c.args.entries.now go.new.self go.ensures.extent c.in-Arc.aperture go.ensures.number c.requires.sound
          c.in-Some-round_width.width (sym c.round_width.ensures ∙ c.in-Some-round_width.is);
    }

pub contour_bounds-requires : goal.contour_bounds-requires
contour_bounds-requires c = rw c.in-Region.is at c.requires.stands

pub returns-in-Flash-clause-value : goal.returns-in-Flash-clause-value
returns-in-Flash-clause-value c = grind arith

pub returns-in-Some-clause-value : goal.returns-in-Some-clause-value
returns-in-Some-clause-value c =
    let es = c.args.entries.now in
    let go = c.go_to in
    let here = c.in-Draw in
    bounded_draw es go.new.self go.ensures.extent here.aperture go.ensures.number here.from here.to here.turn here.dark
    c.in-Some.tip c.drawn_bounds.result c.in-Some.is
    (c.drawn_bounds.ensures ∙ ap (λ (tip : Tip). box_of_shape (drawn tip here.from here.to)) c.turned.ensures.value)
    ∙ ap (λ (o : Object). bounds_of (object_leaves (meaning_in es) origin o)) (sym here.is)

pub returns-in-Some-round_width-clause-value : goal.returns-in-Some-round_width-clause-value
returns-in-Some-round_width-clause-value c =
    let es = c.args.entries.now in
    let go = c.go_to-in-Arc in
    let here = c.in-Arc in
    bounded_arc es go.new.self go.ensures.extent here.aperture go.ensures.number here.from here.to here.centre here.ccw
    here.dark c.in-Some-round_width.width c.sweep_bounds.result (sym c.round_width.ensures ∙ c.in-Some-round_width.is) c.sweep_bounds.ensures
    ∙ ap (λ (o : Object). bounds_of (object_leaves (meaning_in es) origin o)) (sym here.is)

pub returns-in-Region-clause-value : goal.returns-in-Region-clause-value
returns-in-Region-clause-value c =
    let means = meaning_in c.args.entries.now in
    bounded_region means c.in-Region.contour c.in-Region.dark c.contour_bounds.result c.contour_bounds.ensures
    ∙ ap (λ (o : Object). bounds_of (object_leaves means origin o)) (sym c.in-Region.is)
