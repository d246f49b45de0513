use Rattle.std.proofs.Common.{◌-◌, FitsSigned, w64, ap, arith, rules}
use Rattle.std.proofs.lemmas.Int.{to_z-of_z}
use Rattle.cam_tiles.proofs.GridBoxes.{between_ends}
use Rattle.cam_tiles.proofs.StepLemmas.{long_near}
use Rattle.cam_units.specs.declared.point.Spot.{Spot}
use Rattle.cam_tiles.proofs.grid.Grid.bounds.Goals as goal

pub returns : goal.returns
returns c column row inside below =
    let g = c.args.self.now in
    let last = c.centre-last.ensures in
    let place = c.requires.centres (g.cols - 1) (g.rows - 1) (omega arith) (omega arith) in
    let x_fits : FitsSigned w64 g.x = search rules in
    let y_fits : FitsSigned w64 g.y = search rules in
    between_ends g column row c.requires inside below _ _ _ _
    (to_z-of_z w64 g.x x_fits) (to_z-of_z w64 g.y y_fits)
    (long_near _ _ (ap (λ (s : Spot). s.x) last.value) place.x)
    (long_near _ _ (ap (λ (s : Spot). s.y) last.value) place.y)
