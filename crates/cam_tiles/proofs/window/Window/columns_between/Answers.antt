use Rattle.std.proofs.Common.{arith, FitsSigned, w64, ap, ◌∙◌, rules}
use Rattle.std.proofs.lemmas.Int.{to_z-of_z}
use Rattle.cam_units.specs.declared.point.Spot.{Spot}
use Rattle.cam_tiles.specs.Picture.{middle}
use Rattle.cam_tiles.proofs.GridLemmas.{twice_fits, twice_kept}
use Rattle.cam_tiles.proofs.SpanLemmas.{are_columns, column_between, tiles_between}
use Rattle.cam_tiles.proofs.WindowLemmas.{accepted}
use Rattle.cam_tiles.proofs.window.Window.columns_between.Goals as goal

pub centre-requires-clause-column : goal.centre-requires-clause-column
centre-requires-clause-column c = (accepted c.args.self.now c.requires).width.0

pub centre-requires-clause-row : goal.centre-requires-clause-row
centre-requires-clause-row c = (accepted c.args.self.now c.requires).height.0

pub overflow_mul-places : goal.overflow_mul-places
overflow_mul-places c = grind (arith, accepted, twice_fits)

pub between-requires : goal.between-requires
between-requires c =
    let w = c.args.self.now in
    let limits = accepted w c.requires in
    let fits : FitsSigned w64 c.centre.result.x = search rules in
    are_columns w limits _ (twice_kept w.pitch limits.pitch.0 limits.pitch.1) _
    (to_z-of_z w64 _ fits ∙ ap (λ (s : Spot). s.x) c.centre.ensures.value)

pub returns-clause-each : goal.returns-clause-each
returns-clause-each c = λ tile within.
    let w = c.args.self.now in
    let limits = accepted w c.requires in
    let fits : FitsSigned w64 c.centre.result.x = search rules in
    let low : FitsSigned w64 c.args.low.now.x = search rules in
    let high : FitsSigned w64 c.args.high.now.x = search rules in
    tiles_between (middle w.x w.pitch) c.args.low.now.x c.args.high.now.x c.between.result c.tiles.result w.width tile
    c.between.ensures.few (λ n near.
    column_between w limits _ (twice_kept w.pitch limits.pitch.0 limits.pitch.1) _
    (to_z-of_z w64 _ fits ∙ ap (λ (s : Spot). s.x) c.centre.ensures.value) _ _ _ _ _ n (to_z-of_z w64 _ low)
    (to_z-of_z w64 _ high) (c.between.ensures.each n near)) (c.tiles.ensures.each tile)
