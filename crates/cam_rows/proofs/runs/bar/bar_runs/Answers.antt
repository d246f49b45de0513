use Rattle.std.proofs.Common.{of_z, w64, refl, ap, arith}
use Rattle.cam_shapes.specs.Bar.{IsInBar}
use Rattle.cam_rows.proofs.AxisBars.{level_box, upright_box}
use Rattle.cam_rows.proofs.PassedOn.{same_by_bits, some_by_bits}
use Rattle.cam_rows.proofs.WideRows.{runs_like}
use Rattle.cam_rows.proofs.runs.bar.bar_runs.Goals as goal

pub returns-then-from-to-2 : goal.returns-then-from-to-2
returns-then-from-to-2 c =
    let bar = c.args.bar.now in
    runs_like c.box_runs.new.firsts c.box_runs.new.ends c.args.top.now _ (λ s. IsInBar s bar)
    (λ s. level_box bar _ _ s (some_by_bits bar.width.0 c.requires.bar.width c.if-width-ne0.true)
    (same_by_bits bar.from.y bar.to.y c.requires.bar.from.y c.requires.bar.to.y c.if-from-to.true)
    (λ same. c.if-from-to-2.true (ap (of_z w64) same)) (refl, refl, refl, refl))
    c.box_runs.ensures

pub returns-then-from-to-4 : goal.returns-then-from-to-4
returns-then-from-to-4 c =
    let bar = c.args.bar.now in
    let runs = c.box_runs-then-from-to-4 in
    runs_like runs.new.firsts runs.new.ends c.args.top.now _ (λ s. IsInBar s bar)
    (λ s. upright_box bar _ _ s (some_by_bits bar.width.0 c.requires.bar.width c.if-width-ne0-2.true)
    (same_by_bits bar.from.x bar.to.x c.requires.bar.from.x c.requires.bar.to.x c.if-from-to-3.true)
    (λ same. c.if-from-to-4.true (ap (of_z w64) same)) (refl, refl, refl, refl))
    runs.ensures

pub slanted_runs-requires-clause-ends : goal.slanted_runs-requires-clause-ends
slanted_runs-requires-clause-ends c = grind (arith)

pub box_runs-requires-clause-ends : goal.box_runs-requires-clause-ends
box_runs-requires-clause-ends c = grind (arith)

pub box_runs-requires-then-from-to-4-clause-ends : goal.box_runs-requires-then-from-to-4-clause-ends
box_runs-requires-then-from-to-4-clause-ends c = grind (arith)
