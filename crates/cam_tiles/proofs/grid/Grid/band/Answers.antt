use Rattle.std.proofs.Common.{arith, FitsSigned, w64, rules}
use Rattle.std.proofs.lemmas.Int.{to_z-of_z}
use Rattle.cam_objects.specs.Image.{relative}
use Rattle.cam_tiles.specs.Tiles.{centre_in}
use Rattle.cam_tiles.proofs.LevelRows.{are_seen, on_seen_row}
use Rattle.cam_tiles.proofs.SeenRows.{top_fits, top_seen, twice_fits}
use Rattle.cam_tiles.proofs.grid.Grid.band.Goals as goal

pub band-requires : goal.band-requires
band-requires c = search (rules, are_seen, top_seen, to_z-of_z)

pub returns-clause-rows : goal.returns-clause-rows
returns-clause-rows c = λ row within.
    let g = c.args.self.now in
    let fits : FitsSigned w64 g.step = search rules in
    c.band.ensures.rows row (relative c.args.at (centre_in g 0 row))
    (on_seen_row g c.args.at _ _ (top_seen g c.args.at c.requires.grid c.requires.at) (to_z-of_z w64 g.step fits) row within)

pub overflow_mul-levels : goal.overflow_mul-levels
overflow_mul-levels c = grind (arith, twice_fits)

pub overflow_sub-levels : goal.overflow_sub-levels
overflow_sub-levels c = grind (arith, top_fits)
