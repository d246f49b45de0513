use Rattle.std.proofs.Common.{◌≡◌, pos, to_z, of_z, arith}
use Rattle.std.specs.Int.{w64}
use Rattle.std.proofs.lemmas.Int.{ints}
use Rattle.cam_rows.proofs.ShortSlopes.{kept_fitting}
use Rattle.cam_rows.proofs.chord.Offsets.at.Goals as goal
use Rattle.cam_rows.proofs.chord.Offsets.at.Goals.{After-from}

step_kept : (c : After-from) → to_z w64 (of_z w64 c.args.self.now.step) ≡ c.args.self.now.step
step_kept c = grind (arith, kept_fitting)

index_kept : (c : After-from) → to_z w64 (of_z w64 c.from.result) ≡ pos c.args.index
index_kept c = omega (arith, ints, c.from.ensures)

pub overflow_mul-result : goal.overflow_mul-result
overflow_mul-result c =
    let at = (goal.at.overflow_mul-result c).After-from in
    rw (index_kept at, step_kept at) (omega (arith, ints, c.requires.0, c.requires.1))

pub overflow_add-result : goal.overflow_add-result
overflow_add-result c =
    let at = (goal.at.overflow_add-result c).After-from in
    rw (index_kept at, step_kept at) (omega (arith, ints, c.requires.0, c.requires.1))

pub returns : goal.returns
returns c =
    let at = (goal.at.returns c).After-from in
    rw (index_kept at, step_kept at) (omega (arith, ints, c.requires.0, c.requires.1))
