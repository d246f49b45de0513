use Rattle.std.proofs.Common.{rules, subst, sym, ◌-◌, ◌*◌, FitsSigned, w64, arith}
use Rattle.cam_tiles.specs.declared.grid.Grid.{Grid}
use Rattle.cam_tiles.specs.Machinery.Runs.{IsWideGrid, StandsAt}
use Rattle.cam_tiles.proofs.SeenParts.{from_kept, from_stands, from_way_fits, from_wide, from_x_fits}
use Rattle.cam_tiles.proofs.grid.Grid.from_tile.Goals as goal

pub overflow_mul-result : goal.overflow_mul-result
overflow_mul-result c =
    let g = c.args.self.now in
    let wide = c.requires.grid in
    let fits : FitsSigned w64 g.step = search rules in
    from_way_fits g c.args.tile c.from.result wide.grid (omega (arith, c.requires.tile, wide.count))
    (wide.centres (64 * c.args.tile) 0 c.requires.tile wide.grid.rows.0) fits c.from.ensures

pub overflow_add-result : goal.overflow_add-result
overflow_add-result c =
    let g = c.args.self.now in
    let wide = c.requires.grid in
    let fits : FitsSigned w64 g.step = search rules in
    from_x_fits g c.args.tile c.from.result wide.grid (omega (arith, c.requires.tile, wide.count))
    (wide.centres (64 * c.args.tile) 0 c.requires.tile wide.grid.rows.0) fits c.from.ensures

pub returns-clause-stands : goal.returns-clause-stands
returns-clause-stands c =
    let g = c.args.self.now in
    let wide = c.requires.grid in
    let fits : FitsSigned w64 g.step = search rules in
    subst (λ (o : Grid). StandsAt g (64 * c.args.tile) o)
    (sym (from_kept g c.args.tile c.from.result wide.grid (omega (arith, c.requires.tile, wide.count))
    (wide.centres (64 * c.args.tile) 0 c.requires.tile wide.grid.rows.0) fits c.from.ensures c.args.columns c.min.result
    wide c.requires.tile))
    (from_stands g c.args.columns (64 * c.args.tile) c.min.result wide c.requires.tile)

pub returns-clause-wide : goal.returns-clause-wide
returns-clause-wide c =
    let g = c.args.self.now in
    let wide = c.requires.grid in
    let fits : FitsSigned w64 g.step = search rules in
    subst (λ (o : Grid). IsWideGrid o (c.args.columns - 64 * c.args.tile))
    (sym (from_kept g c.args.tile c.from.result wide.grid (omega (arith, c.requires.tile, wide.count))
    (wide.centres (64 * c.args.tile) 0 c.requires.tile wide.grid.rows.0) fits c.from.ensures c.args.columns c.min.result
    wide c.requires.tile))
    (from_wide g c.args.columns (64 * c.args.tile) c.min.result wide c.requires.tile (omega (arith, c.min.ensures)))
