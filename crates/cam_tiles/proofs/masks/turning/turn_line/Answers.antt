use Rattle.std.proofs.Common.{IsTrue, refl}
use Rattle.cam_shapes.specs.Edge.{crosses_ray, edge}
use Rattle.cam_tiles.specs.Tiles.{centre_in}
use Rattle.cam_tiles.proofs.EdgeSpans.{met_apart}
use Rattle.cam_tiles.proofs.TurnedMarks.{turns_nothing}
use Rattle.cam_tiles.proofs.masks.turning.turn_line.Goals as goal

pub returns-then-are_apart : goal.returns-then-are_apart
returns-then-are_apart c =
    let f = c.args.field.now in
    turns_nothing f (λ s. IsTrue (crosses_ray s (edge c.args.from c.args.to))) c.args.marks.now
    (λ column row within met.
    let at = centre_in f.grid column row in
    c.if-are_apart.ensures refl at ((c.crossed_heights.ensures at).1 (met_apart at c.args.from c.args.to met))
    (f.within column row within))
