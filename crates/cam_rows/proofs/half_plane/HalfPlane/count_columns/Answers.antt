use Rattle.std.proofs.Common.{length, subst, arith}
use Rattle.std.proofs.lemmas.Grind.{common_steps}
use Rattle.cam_rows.specs.declared.half_plane.HalfPlane.{HalfPlane}
use Rattle.cam_rows.specs.Machinery.Narrowing.{AreCounted, IsUp}
use Rattle.cam_rows.specs.Runs.{end_in}
use Rattle.cam_rows.proofs.HalfPlanes.{falling_told}
use Rattle.cam_rows.proofs.SetRows.{next_set}
use Rattle.cam_rows.proofs.half_plane.HalfPlane.count_columns.Goals as goal

pub loop-k-preserved : goal.loop-k-preserved
loop-k-preserved c =
    let number = c.number_below in record {
      counted =
          next_set _ c.args.ends.now c.loop-k.ends c.loop-k.k c.columns_up_to.result (omega arith)
          c.loop-k.invariant.counted (
            (λ i small.
                falling_told c.args.self.now c.loop-k.k i c.columns_up_to.result number.result number.ensures
                (rw number.ensures (c.requires.short.rows c.loop-k.k (omega arith))) c.requires.short.plane.step
                (c.columns_up_to.ensures.each i small)),
            c.columns_up_to.ensures.within,
          );
    }

pub returns-in-Some : goal.returns-in-Some
returns-in-Some c =
    subst (λ (numbers : HalfPlane). AreCounted c.args.columns (IsUp numbers) (length c.args.ends.now)
    (end_in c.count_ends.result c.count_ends.new.ends))
    (c.in-Some.ensures.falls c.requires.falls) c.count_ends.ensures

pub columns_up_to-requires-clause-divisor : goal.columns_up_to-requires-clause-divisor
columns_up_to-requires-clause-divisor c = grind (arith)

pub returns : goal.returns
returns c = grind (arith)

pub columns_up_to-requires-clause-number : goal.columns_up_to-requires-clause-number
columns_up_to-requires-clause-number c = grind (arith)

pub number_below-requires : goal.number_below-requires
number_below-requires c = grind (arith)

pub overflow_sub-self : goal.overflow_sub-self
overflow_sub-self c = grind (arith, common_steps)
