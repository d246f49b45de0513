use Rattle.std.proofs.Common.{subst, sym, arith}
use Rattle.cam_objects.specs.declared.object.Object.{Object}
use Rattle.cam_objects.specs.Image.{IsUncovered}
use Rattle.cam_objects.specs.Leaves.{meaning_in, object_leaves, origin}
use Rattle.cam_objects.specs.Machinery.Painting.{StandsOnBoard}
use Rattle.cam_objects.proofs.BesideLines.{draw_missed}
use Rattle.cam_objects.proofs.Extents.{sized}
use Rattle.cam_objects.proofs.boxes.extent.Extent.line_misses.Goals as goal

pub turned-requires : goal.turned-requires
turned-requires c =
    let go = c.go_to in
    sized c.args.entries.now go.new.self go.ensures.extent c.in-Draw.aperture go.ensures.number c.requires.sound
    c.in-Some.tip c.in-Some.is

pub line_misses-requires-clause-from : goal.line_misses-requires-clause-from
line_misses-requires-clause-from c = (subst StandsOnBoard c.in-Draw.is c.requires.stands) 0 c.in-Draw.from (omega arith)

pub line_misses-requires-clause-to : goal.line_misses-requires-clause-to
line_misses-requires-clause-to c = (subst StandsOnBoard c.in-Draw.is c.requires.stands) 1 c.in-Draw.from (omega arith)

pub returns-in-Some-clause-off : goal.returns-in-Some-clause-off
returns-in-Some-clause-off c = λ off s held.
    let go = c.go_to in
    let es = c.args.entries.now in
    let here = c.in-Draw in
    subst (λ (o : Object). IsUncovered (object_leaves (meaning_in es) origin o) s) (sym here.is)
    (draw_missed es go.new.self go.ensures.extent here.aperture go.ensures.number here.from here.to here.turn here.dark
    c.in-Some.tip c.turned.result c.in-Some.is c.turned.ensures.value s (c.line_misses.ensures off s held))
