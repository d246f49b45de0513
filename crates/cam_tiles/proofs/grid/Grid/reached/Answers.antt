use Rattle.std.proofs.Common.{FitsSigned, w64, refl, rules, arith}
use Rattle.std.proofs.lemmas.Int.{to_z-of_z}
use Rattle.cam_tiles.specs.Tiles.{centre_in}
use Rattle.cam_tiles.proofs.Lattices.{reached}
use Rattle.cam_tiles.proofs.grid.Grid.reached.Goals as goal

pub returns : goal.returns
returns c =
    let g = c.args.self.now in
    let left : FitsSigned w64 c.args.low.x = search rules in
    let right : FitsSigned w64 c.args.high.x = search rules in
    let low : FitsSigned w64 c.args.low.y = search rules in
    let high : FitsSigned w64 c.args.high.y = search rules in
    let rows = simp to_z-of_z at (rw c.levels.ensures.value at c.band.ensures.rows) in
    reached c.args.low c.args.high g c.args.columns _ _ c.columns_between-across.ensures.few
    (rw c.levels.ensures.value at c.band.ensures.end) (simp to_z-of_z at c.columns_between-across.ensures.each)
    (λ row below. rows row (centre_in g 0 row) (below, refl))

pub band-requires : goal.band-requires
band-requires c = assumption arith

pub levels-requires : goal.levels-requires
levels-requires c = grind (arith)
