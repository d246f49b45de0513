use Rattle.std.proofs.Common.{arith, sym, subst, FitsSigned, w64, rules}
use Rattle.cam_units.specs.Board.{IsPlace}
use Rattle.cam_tiles.proofs.StepLemmas.{x_fits, y_fits, centre_kept, down_way_fits, right_way_fits}
use Rattle.cam_tiles.proofs.grid.Grid.centre.Goals as goal

pub overflow_add-result : goal.overflow_add-result
overflow_add-result c = search (rules, x_fits)

pub overflow_sub-result : goal.overflow_sub-result
overflow_sub-result c =
    let g = c.args.self.now in
    let fits : FitsSigned w64 g.step = search rules in
    y_fits g c.args.column c.args.row c.requires.grid c.requires.column c.requires.row fits
    c.from-2.result c.from-2.ensures

pub returns-clause-value : goal.returns-clause-value
returns-clause-value c = grind (arith, centre_kept)

pub returns-clause-place : goal.returns-clause-place
returns-clause-place c =
    let place = c.requires.grid.centres c.args.column c.args.row c.requires.column c.requires.row in
    subst IsPlace (sym (returns-clause-value c)) place

pub overflow_mul-result : goal.overflow_mul-result
overflow_mul-result c =
    let g = c.args.self.now in
    let fits : FitsSigned w64 g.step = search rules in
    right_way_fits g c.args.column c.args.row c.requires.grid c.requires.column c.requires.row fits c.from.result c.from.ensures

pub overflow_mul-result-2 : goal.overflow_mul-result-2
overflow_mul-result-2 c = grind (arith, down_way_fits)
