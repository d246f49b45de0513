use Rattle.std.proofs.Common.{arith, ◌-◌, FitsSigned, w64, ap, ◌∙◌, rules}
use Rattle.std.proofs.lemmas.Int.{to_z-of_z}
use Rattle.cam_units.specs.declared.point.Spot.{Spot}
use Rattle.cam_tiles.specs.Picture.{centre_of, middle}
use Rattle.cam_tiles.proofs.GridLemmas.{twice_fits, twice_kept}
use Rattle.cam_tiles.proofs.SpanLemmas.{are_rows, on_row, tiles_between}
use Rattle.cam_tiles.proofs.WindowLemmas.{accepted}
use Rattle.cam_tiles.proofs.window.Window.rows_between.Goals as goal

pub centre-requires-clause-column : goal.centre-requires-clause-column
centre-requires-clause-column c = (accepted c.args.self.now c.requires).width.0

pub centre-requires-clause-row : goal.centre-requires-clause-row
centre-requires-clause-row c = (accepted c.args.self.now c.requires).height.0

pub overflow_mul-levels : goal.overflow_mul-levels
overflow_mul-levels c = grind (arith, accepted, twice_fits)

pub band-requires : goal.band-requires
band-requires c =
    let w = c.args.self.now in
    let limits = accepted w c.requires in
    let fits : FitsSigned w64 c.centre.result.y = search rules in
    are_rows w limits _ (twice_kept w.pitch limits.pitch.0 limits.pitch.1) _
    (to_z-of_z w64 _ fits ∙ ap (λ (s : Spot). s.y) c.centre.ensures.value)

pub returns-clause-each : goal.returns-clause-each
returns-clause-each c = λ tile within.
    let w = c.args.self.now in
    let limits = accepted w c.requires in
    let fits : FitsSigned w64 c.centre.result.y = search rules in
    let low : FitsSigned w64 c.args.low.now.y = search rules in
    let high : FitsSigned w64 c.args.high.now.y = search rules in
    tiles_between (λ n. middle w.y w.pitch (w.height - 1 - n)) c.args.low.now.y c.args.high.now.y c.band.result
    c.tiles.result w.height tile c.band.ensures.end (λ n near.
    let on = on_row w limits _ (twice_kept w.pitch limits.pitch.0 limits.pitch.1) _
    (to_z-of_z w64 _ fits ∙ ap (λ (s : Spot). s.y) c.centre.ensures.value) n near in
    simp to_z-of_z at (c.band.ensures.rows n (centre_of w 0 n) on)) (c.tiles.ensures.each tile)
