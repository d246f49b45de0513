use Rattle.std.proofs.Common.{rules, FitsSigned, w64, arith}
use Rattle.std.proofs.lemmas.Int.{ints}
use Rattle.cam_tiles.proofs.SeenRows.{first_fits, twice_fits, row_reaches, row_seen, seen_y_fits}
use Rattle.cam_tiles.proofs.StepLemmas.{down_way_fits, y_fits}
use Rattle.cam_tiles.proofs.grid.Grid.row_from.Goals as goal

pub overflow_sub-result-2 : goal.overflow_sub-result-2
overflow_sub-result-2 c =
    let g = c.args.self.now in
    let fits : FitsSigned w64 g.step = search rules in
    y_fits g 0 c.args.row c.requires.grid c.requires.grid.columns.0 c.requires.row fits c.from.result c.from.ensures

pub overflow_sub-result-3 : goal.overflow_sub-result-3
overflow_sub-result-3 c =
    let g = c.args.self.now in
    let fits : FitsSigned w64 g.step = search rules in
    seen_y_fits g c.args.row c.args.at c.from.result c.requires.grid c.requires.row c.requires.at fits c.from.ensures

pub returns-clause-centres : goal.returns-clause-centres
returns-clause-centres c = grind (arith, row_seen)

pub returns-clause-row : goal.returns-clause-row
returns-clause-row c =
    let g = c.args.self.now in
    let fits : FitsSigned w64 g.step = search rules in
    let reaches =
    row_reaches g c.args.row c.args.at c.from.result c.requires.grid c.requires.row c.requires.at fits c.from.ensures in
    record {
      count = c.requires.grid.columns;
      step = omega (arith, ints, fits, c.requires.grid.step);
      centres = reaches;
    }

pub overflow_mul-result : goal.overflow_mul-result
overflow_mul-result c = grind (arith, twice_fits)

pub overflow_sub-result : goal.overflow_sub-result
overflow_sub-result c = grind (arith, first_fits)

pub overflow_mul-result-2 : goal.overflow_mul-result-2
overflow_mul-result-2 c = grind (arith, down_way_fits)

pub overflow_mul-result-3 : goal.overflow_mul-result-3
overflow_mul-result-3 c = grind (arith, twice_fits)
