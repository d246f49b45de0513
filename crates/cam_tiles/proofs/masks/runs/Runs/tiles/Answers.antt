use Rattle.std.proofs.Common.{◌/◌, refl, arith}
use Rattle.cam_tiles.proofs.masks.runs.Runs.tiles.Goals as goal

pub returns : goal.returns
returns c row column (low, high, run) =
    let before = c.loop-row.invariant row low (omega (arith, high, c.loop-row-test.false)) in
    (c.tiles.ensures.each (column / 64)).1
    (column, (omega (arith, before.0, run.0), (omega (arith, before.1, run.1), refl)))

pub loop-row-preserved : goal.loop-row-preserved
loop-row-preserved c = grind (arith)
