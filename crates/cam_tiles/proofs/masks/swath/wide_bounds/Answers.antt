use Rattle.std.proofs.Common.{◌-◌, FitsSigned, w64, ap, ◌∙◌, arith, rules}
use Rattle.std.proofs.lemmas.Int.{to_z-of_z}
use Rattle.cam_tiles.specs.declared.levels.Levels.{Levels}
use Rattle.cam_tiles.specs.Machinery.Levels.{height}
use Rattle.cam_tiles.proofs.StepLemmas.{long_near}
use Rattle.cam_tiles.proofs.SwathBoxes.{between_corners, last_fits, last_kept, last_way_fits}
use Rattle.cam_tiles.proofs.masks.swath.wide_bounds.Goals as goal

pub overflow_mul-last : goal.overflow_mul-last
overflow_mul-last c = grind (arith, last_way_fits)

pub overflow_add-last : goal.overflow_add-last
overflow_add-last c = grind (arith, last_fits)

pub returns : goal.returns
returns c column row near below =
    let g = c.args.grid.now in
    let wide = c.requires in
    let fits : FitsSigned w64 g.step = search rules in
    let x_fits : FitsSigned w64 g.x = search rules in
    let y_fits : FitsSigned w64 g.y = search rules in
    let bottom = c.height.ensures ∙ ap (λ (l : Levels). height l (g.rows - 1)) c.levels.ensures.value in
    between_corners g c.args.columns wide column row near below _ _ _ _
    (to_z-of_z w64 g.x x_fits) (to_z-of_z w64 g.y y_fits) (last_kept g c.args.columns wide fits c.from.result c.from.ensures)
    (long_near _ _ bottom (wide.centres 0 (g.rows - 1) wide.count.0 (omega (arith, wide.grid.rows))).y)

pub levels-requires : goal.levels-requires
levels-requires c = grind (arith)

pub height-requires-clause-row : goal.height-requires-clause-row
height-requires-clause-row c = grind (arith)

pub height-requires-clause-levels : goal.height-requires-clause-levels
height-requires-clause-levels c = assumption arith
