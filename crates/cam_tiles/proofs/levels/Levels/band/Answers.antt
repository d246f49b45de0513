use Rattle.std.proofs.Common.{FitsSigned, w64, rules, arith}
use Rattle.std.proofs.lemmas.Int.{ints, to_z-of_z}
use Rattle.cam_apertures.proofs.Painting.{through}
use Rattle.cam_tiles.proofs.LevelRows.{are_places, between_heights}
use Rattle.cam_tiles.proofs.levels.Levels.band.Goals as goal

pub between-requires : goal.between-requires
between-requires c =
    let l = c.args.self.now in
    let top : FitsSigned w64 l.top = search rules in
    let step : FitsSigned w64 l.step = search rules in
    are_places l c.requires _ _ (omega (arith, ints, c.mirrored.ensures, c.mirrored.type_inv, top)) (to_z-of_z w64 l.step step)

pub returns-clause-rows : goal.returns-clause-rows
returns-clause-rows c = λ row s on.
    let l = c.args.self.now in
    let h = c.args.heights in
    let top : FitsSigned w64 l.top = search rules in
    let step : FitsSigned w64 l.step = search rules in
    let low : FitsSigned w64 h.low = search rules in
    let high : FitsSigned w64 h.high = search rules in
    through (c.between.ensures.each row on.0)
    (between_heights l c.requires _ _ (omega (arith, ints, c.mirrored.ensures, c.mirrored.type_inv, top)) (to_z-of_z w64 l.step step)
    h _ _ row s (omega (arith, ints, c.mirrored-2.ensures, c.mirrored-2.type_inv, high))
    (omega (arith, ints, c.mirrored-3.ensures, c.mirrored-3.type_inv, low)) on)
