use Rattle.std.proofs.Common.{◌≡◌, ℕ, ◌-◌, ◌<◌, ◌≤◌, length, slice_index, refl, arith}
use Rattle.cam_objects.specs.Image.{relative}
use Rattle.cam_tiles.specs.declared.masks.runs.Runs.{Runs}
use Rattle.cam_tiles.specs.Machinery.Runs.{Finds, IsClear}
use Rattle.cam_tiles.proofs.RunColumns.{finds_band, finds_none, in_band_of, wide_below}
use Rattle.cam_tiles.proofs.TurnedBands.{part_length}
use Rattle.cam_tiles.proofs.masks.runs.Runs.find_among.Given.{Over}
use Rattle.cam_tiles.proofs.masks.runs.Runs.find_among.Goals as goal
use Rattle.cam_tiles.proofs.masks.runs.Runs.find_among.Goals.{After-find}

pub find-requires-clause-rows : goal.find-requires-clause-rows
find-requires-clause-rows g c =
    let grid = c.args.grid.now in
    let others = c.args.others.now in
    let band = others.band in
    let size = part_length band.first band.end others.firsts (omega (arith, c.if-end-first.false))
    (omega (arith, c.requires.fits, c.requires.grid.grid.rows)) in
    rw size (wide_below grid c.args.columns (band.end - band.first) c.args.at _ band.first c.row_from-top.ensures.centres
    c.requires.grid c.requires.at refl c.row_from-top.ensures.row.step
    (omega (arith, c.requires.fits, c.if-end-first.false)))

found : (g : Over) (c : After-find g)
    → (let others = c.args.others.now in
    let FindsIn = Finds c.args.grid.now c.args.columns (λ s. g.S.RunShape.holds c.args.shape.now (relative c.args.at s)) others in
    FindsIn (in_band_of others c.find.new.firsts c.find.new.ends)
    × (((k : ℕ) → k < length c.find.new.firsts → slice_index c.find.new.ends k ≤ slice_index c.find.new.firsts k)
    → (r : Runs) → IsClear r → FindsIn r))
found g c =
    let grid = c.args.grid.now in
    let others = c.args.others.now in
    let band = others.band in
    let wide = c.requires.grid in
    let some : band.first < band.end = omega (arith, c.if-end-first.false) in
    let low : band.end ≤ 64 = omega (arith, c.requires.fits, wide.grid.rows) in
    let size : length c.find.new.firsts ≡ band.end - band.first = omega (arith, c.find.auto.firsts, part_length band.first band.end others.firsts some (omega arith)) in
    let size_ends : length c.find.new.ends ≡ band.end - band.first = omega (arith, c.find.auto.ends, part_length band.first band.end others.ends some (omega arith)) in
    let finds = finds_band grid c.args.columns c.args.at (g.S.RunShape.holds c.args.shape.now) others _ c.find.new.firsts
    c.find.new.ends c.row_from-top.ensures.centres refl some c.requires.fits wide.grid.rows.1 (omega arith) (omega arith)
    size size_ends c.find.ensures in (
      finds,
      finds_none grid c.args.columns (λ s. g.S.RunShape.holds c.args.shape.now (relative c.args.at s)) others
          c.find.new.firsts c.find.new.ends some (omega arith) (omega arith) size size_ends finds,
    )

pub returns-else-are_empty : goal.returns-else-are_empty
returns-else-are_empty g c = (found g (goal.at.returns-else-are_empty g c).After-find).0

pub returns-then-are_empty : goal.returns-then-are_empty
returns-then-are_empty g c =
    (found g (goal.at.returns-then-are_empty g c).After-find).1 (c.are_empty.ensures.0 c.if-are_empty.true) c.clear.new.self
    c.clear.ensures

pub returns-then-end-first : goal.returns-then-end-first
returns-then-end-first c = grind (arith)

pub find-requires-clause-ends : goal.find-requires-clause-ends
find-requires-clause-ends c = omega (arith)

pub are_empty-requires : goal.are_empty-requires
are_empty-requires c = grind (arith)
