use Rattle.std.proofs.Common.{arith}
use Rattle.cam_shapes.specs.Arc.{IsInArc}
use Rattle.cam_objects.specs.Image.{relative}
use Rattle.cam_tiles.proofs.FigureColumns.{tells_left, tells_round}
use Rattle.cam_tiles.proofs.masks.figure_runs.FigureRuns.find_round.Goals as goal

pub take_out-requires : goal.take_out-requires
take_out-requires c = omega (arith, c.find_among.ensures.fits, c.requires.grid.grid.rows)

pub returns : goal.returns
returns c =
    let grid = c.args.grid.now in
    let left = c.take_out.ensures in
    let fit = left.fits grid.rows c.find_between.ensures.fits c.find_among.ensures.fits in
    tells_left grid c.args.columns (λ s. IsInArc (relative c.args.at s) c.args.arc.now) _ c.take_out.new.self
    c.take_out.new.other fit.0 fit.1 left.columns
    (tells_round grid c.args.columns c.args.arc.now c.args.heights (relative c.args.at) _ _ _ _ _ c.requires.heights
    c.find_between.ensures c.find_among.ensures c.find_beyond.ensures c.find.ensures c.find-2.ensures)

pub find-requires-2-clause-sound : goal.find-requires-2-clause-sound
find-requires-2-clause-sound c = assumption arith

pub find-requires-2-clause-grid : goal.find-requires-2-clause-grid
find-requires-2-clause-grid c = assumption arith
