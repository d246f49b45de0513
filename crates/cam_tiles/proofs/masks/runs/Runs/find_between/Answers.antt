use Rattle.std.proofs.Common.{◌-◌, ◌<◌, length, refl, arith}
use Rattle.cam_tiles.proofs.RunColumns.{tells_band, tells_none, wide_below}
use Rattle.cam_tiles.proofs.TurnedBands.{part_length}
use Rattle.cam_tiles.proofs.masks.runs.Runs.find_between.Goals as goal

pub returns-then-band : goal.returns-then-band
returns-then-band g c = grind (arith, tells_none)

pub find-requires-clause-rows : goal.find-requires-clause-rows
find-requires-clause-rows g c =
    let grid = c.args.grid.now in
    let band = c.band-band.result in
    let size = part_length band.first band.end c.args.self.now.firsts (omega (arith, c.if-band.false))
    (omega (arith, c.band-band.ensures.end, c.requires.grid.grid.rows)) in
    rw (c.fill.ensures.len, size) (wide_below grid c.args.columns (band.end - band.first) c.args.at _ band.first c.row_from-top.ensures.centres
    c.requires.grid c.requires.at refl c.row_from-top.ensures.row.step
    (omega (arith, c.band-band.ensures.end, c.if-band.false)))

pub returns : goal.returns
returns g c =
    let grid = c.args.grid.now in
    let band = c.band-band.result in
    let wide = c.requires.grid in
    let old = c.args.self.now in
    let low = c.band-band.ensures.end in
    let size = part_length band.first band.end old.firsts (omega (arith, c.if-band.false))
    (omega (arith, low, wide.grid.rows)) in
    let size_ends = part_length band.first band.end old.ends (omega (arith, c.if-band.false))
    (omega (arith, low, wide.grid.rows)) in
    tells_band grid c.args.columns band.first band.end c.args.at c.args.heights (g.S.RunShape.holds c.args.shape.now) _
    old.firsts old.ends c.find.new.firsts c.find.new.ends c.row_from-top.ensures.centres refl (omega (arith, c.if-band.false)) low wide.grid.rows.1 (omega arith) (omega arith)
    (omega (arith, c.find.auto.firsts, c.fill.ensures.len, size)) (omega (arith, c.find.auto.ends, c.fill-2.ensures.len, size_ends))
    c.band-band.ensures.rows
    (λ k i within near.
    let small : k < length c.fill.new.self = omega (arith, within, c.find.auto.firsts) in (
      (λ on. c.find.ensures.held k i small near on),
      (λ holds.
          c.find.ensures.all k i small near (
            omega (arith, c.fill.ensures.clones k 0 (omega (arith, small, c.fill.ensures.len)) refl),
            omega (arith, near, c.fill-2.ensures.clones k 0 (omega (arith, small, c.fill.ensures.len, size, size_ends)) refl),
          ) holds),
    ))
