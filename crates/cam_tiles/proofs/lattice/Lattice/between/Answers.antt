use Rattle.std.proofs.Common.{FitsSigned, w64, arith, rules}
use Rattle.std.proofs.lemmas.Grind.{common_steps}
use Rattle.std.proofs.lemmas.Int.{clamps, ints, to_z-of_z}
use Rattle.cam_tiles.specs.Machinery.Lattices.{place_at}
use Rattle.cam_tiles.proofs.Lattices.{between_counts, some_steps}
use Rattle.cam_tiles.proofs.lattice.Lattice.between.Goals as goal

pub returns-clause-each : goal.returns-clause-each
returns-clause-each c = λ n there.
    let l = c.args.self.now in
    let low : FitsSigned w64 c.args.low = search rules in
    let high : FitsSigned w64 c.args.high = search rules in
    let first : FitsSigned w64 l.first = search rules in
    let near = c.requires.places 0 (omega arith) in
    let way = some_steps l.step n c.requires.step in
    between_counts n _ _ (place_at l n) l.first c.args.low c.args.high _ (omega (arith, ints, way))
    (omega (arith, ints, clamps, c.max.ensures.value, low, first, near)) (c.count_through.ensures.each n there)
    (simp to_z-of_z at (c.count_through-2.ensures.each n there))

pub overflow_sub-max : goal.overflow_sub-max
overflow_sub-max c = grind (arith, common_steps)
