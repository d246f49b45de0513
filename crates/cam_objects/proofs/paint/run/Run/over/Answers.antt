use Rattle.std.proofs.Common.{rules, FitsSigned, w64, arith}
use Rattle.std.proofs.lemmas.Int.{ints, to_z-of_z}
use Rattle.cam_objects.proofs.Runs.{over_ahead, over_back}
use Rattle.cam_objects.proofs.paint.run.Run.over.Goals as goal

pub returns-then-step-lt0-clause-each : goal.returns-then-step-lt0-clause-each
returns-then-step-lt0-clause-each c = λ k here.
    let a = c.args in
    let fs : FitsSigned w64 a.step = c.ranges.step in
    let fl : FitsSigned w64 a.low = c.ranges.low in
    let fh : FitsSigned w64 a.high = c.ranges.high in
    let fe : FitsSigned w64 a.left = c.ranges.left in
    let fr : FitsSigned w64 a.right = c.ranges.right in
    let fn : FitsSigned w64 c.saturating_sub.result = search rules in
    let fm : FitsSigned w64 c.saturating_sub-then-step-lt0.result = search rules in
    let each = simp to_z-of_z at (c.between.ensures.each k here) in
    over_back c.between.result k c.unsigned_abs-stride.result a.step a.low a.high a.left a.right c.saturating_sub.result
    c.saturating_sub-then-step-lt0.result (omega (arith, c.ranges.count)) c.requires
    (grind (arith, ints, c.if-step-lt0.true)) (simp to_z-of_z at c.unsigned_abs-stride.ensures.value)
    (simp to_z-of_z at c.saturating_sub.ensures)
    (simp to_z-of_z at c.saturating_sub-then-step-lt0.ensures) each

pub returns-clause-each : goal.returns-clause-each
returns-clause-each c = λ k here.
    let a = c.args in
    let fs : FitsSigned w64 a.step = c.ranges.step in
    let fl : FitsSigned w64 a.low = c.ranges.low in
    let fh : FitsSigned w64 a.high = c.ranges.high in
    let fe : FitsSigned w64 a.left = c.ranges.left in
    let fr : FitsSigned w64 a.right = c.ranges.right in
    let fn : FitsSigned w64 c.saturating_sub-2.result = search rules in
    let fm : FitsSigned w64 c.saturating_sub-3.result = search rules in
    let each = simp to_z-of_z at (c.between-2.ensures.each k here) in
    over_ahead c.between-2.result k c.unsigned_abs-stride.result a.step a.low a.high a.left a.right
    c.saturating_sub-2.result c.saturating_sub-3.result (omega (arith, c.ranges.count)) c.requires
    (grind (arith, ints, c.if-step-lt0.false))
    (simp to_z-of_z at c.unsigned_abs-stride.ensures.value) (simp to_z-of_z at c.saturating_sub-2.ensures)
    (simp to_z-of_z at c.saturating_sub-3.ensures) each
