use Rattle.std.proofs.Common.{sym, arith}
use Rattle.std.proofs.lemmas.Grind.{common_steps}
use Rattle.cam_shapes.specs.Disc.{IsInHole}
use Rattle.cam_rows.specs.Machinery.Narrowing.{IsNearer}
use Rattle.cam_rows.proofs.Chords.{cast_size, in_any_hole}
use Rattle.cam_rows.proofs.FoundRuns.{found_narrowed}
use Rattle.cam_rows.proofs.hole.HoleRunShape.find.Goals as goal

pub returns : goal.returns
returns c =
    let disc = c.args.self.now.0 in
    let narrowed = c.narrow_to_circle in
    found_narrowed c.args.firsts.now c.args.ends.now narrowed.new.firsts narrowed.new.ends c.args.top.now
    (IsNearer disc.centre c.from-bound.result) (λ s. IsInHole s disc)
    (λ s. in_any_hole s disc _ _ c.requires.sound.diameter (sym (cast_size disc.diameter.0 c.requires.sound.diameter)) c.from-bound.ensures)
    narrowed.ensures

pub overflow_mul-radius : goal.overflow_mul-radius
overflow_mul-radius c = grind (arith, common_steps)

pub narrow_to_circle-requires-clause-rows : goal.narrow_to_circle-requires-clause-rows
narrow_to_circle-requires-clause-rows c = assumption arith

pub narrow_to_circle-requires-clause-bound : goal.narrow_to_circle-requires-clause-bound
narrow_to_circle-requires-clause-bound c = grind (arith, common_steps)

pub overflow_cast-radius : goal.overflow_cast-radius
overflow_cast-radius c = grind (arith, common_steps)
