use Rattle.std.proofs.Common.{◌+◌, ◌<◌, ◌-◌, ◌/◌, ◌^◌, FitsSigned, w64, of_z, to_z, arith, rules}
use Rattle.std.proofs.lemmas.Grind.{common_steps}
use Rattle.std.proofs.Math.IntN.{nat_abs}
use Rattle.std.proofs.lemmas.Int.{ints}
use Rattle.cam_tiles.proofs.Lattices.{counted, few_counted, first_short, further, on_fits, on_kept, way_on_fits}
use Rattle.cam_tiles.proofs.lattice.Lattice.count_through.Goals.{After-abs_diff}
use Rattle.cam_tiles.proofs.lattice.Lattice.count_through.Goals as goal

pub overflow_mul-from : goal.overflow_mul-from
overflow_mul-from c = grind (arith, way_on_fits, first_short)

pub overflow_add-self : goal.overflow_add-self
overflow_add-self c = grind (arith, on_fits, first_short)

pub returns-then-self-from-clause-each : goal.returns-then-self-from-clause-each
returns-then-self-from-clause-each c = λ n there.
    let l = c.args.self.now in
    let lattice = c.requires.lattice in
    let fits : FitsSigned w64 l.step = search rules in
    let few : l.count < 2 ^ 32 = search rules in
    let last = on_kept l.first l.step c.from.result (l.count - 1) c.from.ensures (omega arith) fits
    (first_short l lattice c.requires.some) (lattice.places (l.count - 1) (omega (arith, c.requires.some))) in
    let far = further l.step (nat_abs l.step) n (l.count - 1) (omega (arith, ints, lattice.step)) (omega arith) in
    ((λ _. omega (arith, ints, far, last, c.if-self-from.true)), (λ _. there))

few : (c : After-abs_diff)
    → c.abs_diff.result / nat_abs (to_z w64 (of_z w64 c.args.self.now.step)) + 1 < c.args.self.now.count
few c =
    let l = c.args.self.now in
    let lattice = c.requires.lattice in
    let fits : FitsSigned w64 l.step = search rules in
    let small : l.count < 2 ^ 32 = search rules in
    let last = on_kept l.first l.step c.from.result (l.count - 1) c.from.ensures (omega arith) fits
    (first_short l lattice c.requires.some) (lattice.places (l.count - 1) (omega (arith, c.requires.some))) in
    few_counted l _ c.abs_diff.result c.args.place lattice.step (omega (arith, ints))
    (omega (arith, ints, c.abs_diff.ensures, c.if-place-self.false)) l.count c.requires.some
    (omega (arith, ints, last, c.if-self-from.false))

pub overflow_cast-result : goal.overflow_cast-result
overflow_cast-result c =
    let fits : FitsSigned w64 c.args.self.now.step = search rules in
    omega (arith, ints, fits, c.requires.lattice.step)

pub overflow_cast-result-2 : goal.overflow_cast-result-2
overflow_cast-result-2 c = omega (arith, few (goal.at.overflow_cast-result-2 c).After-abs_diff)

pub overflow_add-result : goal.overflow_add-result
overflow_add-result c = omega (arith, few (goal.at.overflow_add-result c).After-abs_diff)

pub returns-clause-each : goal.returns-clause-each
returns-clause-each c = λ n there.
    let l = c.args.self.now in
    let fits : FitsSigned w64 l.step = search rules in
    counted l _ c.abs_diff.result c.args.place c.requires.lattice.step (omega (arith, ints))
    (omega (arith, ints, c.abs_diff.ensures, c.if-place-self.false)) n

pub returns-clause-few : goal.returns-clause-few
returns-clause-few c = omega (arith, few (goal.at.returns-clause-few c).After-abs_diff)

pub returns-then-place-self-clause-each : goal.returns-then-place-self-clause-each
returns-then-place-self-clause-each c = grind (arith, common_steps)

pub nonzero_div-result : goal.nonzero_div-result
nonzero_div-result c = grind (arith, common_steps)
