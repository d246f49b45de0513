use Rattle.std.proofs.Common.{IsTrue, subst, sym, arith}
use Rattle.cam_shapes.specs.Edge.{crosses_ray, edge}
use Rattle.cam_objects.specs.Image.{relative}
use Rattle.cam_tiles.specs.declared.grid.Grid.{Grid}
use Rattle.cam_tiles.specs.Machinery.Masks.{IsIn}
use Rattle.cam_tiles.specs.Tiles.{centre_in}
use Rattle.cam_tiles.proofs.EdgeSpans.{met_apart}
use Rattle.cam_tiles.proofs.TurnedMasks.{turns_nothing}
use Rattle.cam_tiles.proofs.masks.mask.Mask.turn_edge.Goals as goal

-- no row lies between the ends of the edge
pub returns-then-band : goal.returns-then-band
returns-then-band c =
    turns_nothing (λ s. IsTrue (crosses_ray (relative c.args.at s) (edge c.args.from c.args.to))) c.args.self.now
    (λ column row there met.
    let is = c.grid.ensures.value in
    let within = subst (λ (g : Grid). IsIn g column row) (sym is) there in
    let crossed = subst (λ (g : Grid). IsTrue (crosses_ray (relative c.args.at (centre_in g column row))
    (edge c.args.from c.args.to))) (sym is) met in
    let s = relative c.args.at (centre_in c.grid.result column row) in
    let band = (c.band-band.ensures.rows row within.1).1
    ((c.crossed_heights.ensures s).1 (met_apart s c.args.from c.args.to crossed)) in
    omega (arith, band.0, band.1, c.if-band.true))
