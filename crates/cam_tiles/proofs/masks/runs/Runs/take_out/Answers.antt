use Rattle.std.proofs.Common.{arith}
use Rattle.cam_tiles.proofs.RestOfRuns.{end_out, first_out}
use Rattle.cam_tiles.proofs.masks.runs.Runs.take_out.Goals as goal
use Rattle.cam_tiles.proofs.masks.runs.Runs.take_out.Goals.{then-other-k, else-other-k+then-self-k}

pub loop-row-init : goal.loop-row-init
loop-row-init c = grind arith

pub loop-row-preserved : goal.loop-row-preserved
loop-row-preserved c =
    let old = c.args.self.now in
    let other = c.args.other.now in
    let here = c.loop-row in
    elim c.if-other-k.branch [
      | then-other-k w ↦ rw w.self-is (first_out old other here.self here.row w.max.result here.invariant
          (omega arith, omega arith) (omega arith) (omega (arith, w.if-other-k.true)) w.max.ensures)
      | else-other-k+then-self-k w ↦ rw w.self-is (end_out old other here.self here.row w.min.result here.invariant
          (omega arith, omega arith) (omega arith) (omega (arith, w.if-self-k.true)) w.min.ensures)
    ]

pub returns-else-self-k-clause-columns : goal.returns-else-self-k-clause-columns
returns-else-self-k-clause-columns c = λ row column. (
  (λ left. (c.loop-row.invariant.sound row column left.0, left.1)),
  (λ left. (c.loop-row.invariant.kept row column left.0 left.1, left.1)),
)

pub returns-clause-columns : goal.returns-clause-columns
returns-clause-columns c = λ row column. (
  (λ left. (
    c.loop-row.invariant.sound row column left.0,
    λ there. c.loop-row.invariant.out row column (omega (arith, there.1, c.loop-row-test.false)) left.0 there,
  )),
  (λ left. (
    c.loop-row.invariant.kept row column left.0 left.1,
    λ there. c.clear.ensures.none row column there,
  )),
)

pub returns-else-self-k-clause-fits : goal.returns-else-self-k-clause-fits
returns-else-self-k-clause-fits c = grind (arith)

pub bounds-self-k-then-self-k-2 : goal.bounds-self-k-then-self-k-2
bounds-self-k-then-self-k-2 c = grind (arith)

pub offset_bounds-self-k-then-self-k-2 : goal.offset_bounds-self-k-then-self-k-2
offset_bounds-self-k-then-self-k-2 c = grind (arith)

pub offset_bounds-other-k-then-self-k : goal.offset_bounds-other-k-then-self-k
offset_bounds-other-k-then-self-k c = grind (arith)
