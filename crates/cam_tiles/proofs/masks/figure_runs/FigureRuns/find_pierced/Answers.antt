use Rattle.std.proofs.Common.{arith}
use Rattle.std.proofs.lemmas.Int.{ints}
use Rattle.cam_units.specs.declared.point.Spot.{Spot}
use Rattle.cam_shapes.specs.Disc.{IsInHole}
use Rattle.cam_objects.specs.Image.{relative}
use Rattle.cam_tiles.proofs.FigureColumns.{pierced_law, tells_body, tells_figure, tells_like, without_none}
use Rattle.cam_tiles.proofs.RunColumns.{tells_nothing}
use Rattle.cam_tiles.proofs.masks.figure_runs.FigureRuns.find_pierced.Goals as goal

pub returns-then-hole-eq0 : goal.returns-then-hole-eq0
returns-then-hole-eq0 g c =
    let none = c.clear.ensures in
    let holds : Spot → Type 0 = λ s. g.S.RunShape.holds c.args.shape.now (relative c.args.at s) in
    let hole : Spot → Type 0 = λ s. IsInHole (relative c.args.at s) c.args.hole.now.0 in
    tells_like c.args.grid.now c.args.columns holds (λ s. holds s × (hole s → ⊥)) _
    (λ s. without_none (holds s) (hole s) (λ inside. omega (arith, ints, c.if-hole-eq0.true, inside.some)))
    (tells_body c.args.grid.now c.args.columns holds c.find.new.self c.clear.new.self c.find.ensures none.hollow
    none.beyond none.start none.end)

pub returns : goal.returns
returns g c = grind (arith, tells_figure, tells_nothing, pierced_law)
