use Rattle.std.proofs.Common.{inl, inr, arith}
use Rattle.cam_tiles.proofs.RunColumns.{without_rows}
use Rattle.cam_tiles.proofs.TakenRuns.{one_more_taken, taken_fit}
use Rattle.cam_tiles.proofs.masks.runs.Runs.take_in.Goals as goal

pub loop-row-init : goal.loop-row-init
loop-row-init c = grind arith

pub loop-row-preserved : goal.loop-row-preserved
loop-row-preserved c =
    let here = c.loop-row in
    one_more_taken c.args.self.now c.args.other.now here.self here.row c.in-Some.run'.first
    c.in-Some.run'.end here.invariant (omega arith) (omega arith) (omega arith) (omega arith)
    (omega arith, omega arith) c.in-Some.ensures

pub returns-in_default-clause-columns : goal.returns-in_default-clause-columns
returns-in_default-clause-columns c = λ row column. (
  (λ on. elim on [ inl mine ↦ c.loop-row.invariant.sound row column mine | inr theirs ↦ inr theirs ]),
  (λ on. elim on [ inl mine ↦ inl (c.loop-row.invariant.kept row column mine) | inr theirs ↦ inr theirs ]),
)

pub returns-in_default-clause-fits : goal.returns-in_default-clause-fits
returns-in_default-clause-fits c = λ rows fit fit_other. grind (arith, taken_fit)

pub returns-clause-columns : goal.returns-clause-columns
returns-clause-columns c = λ row column. (
  (λ on. elim on [
    | inl mine ↦ c.loop-row.invariant.sound row column mine
    | inr none ↦ absurd (c.clear.ensures.none row column none)
  ]),
  (λ on. inl (elim on [
    | inl mine ↦ c.loop-row.invariant.kept row column mine
    | inr theirs ↦
        c.loop-row.invariant.taken row column (omega (arith, theirs.1, c.loop-row-test.false)) theirs
  ])),
)

pub returns-clause-fits : goal.returns-clause-fits
returns-clause-fits c = λ rows fit fit_other. grind (arith, taken_fit, without_rows)

pub bounds-self-k-in-loop-row-2 : goal.bounds-self-k-in-loop-row-2
bounds-self-k-in-loop-row-2 c = grind (arith)

pub bounds-self-k-in-loop-row-3 : goal.bounds-self-k-in-loop-row-3
bounds-self-k-in-loop-row-3 c = grind (arith)

pub offset_bounds-self-k-in-loop-row-3 : goal.offset_bounds-self-k-in-loop-row-3
offset_bounds-self-k-in-loop-row-3 c = grind (arith)

pub bounds-other-k : goal.bounds-other-k
bounds-other-k c = grind (arith)

pub offset_bounds-self-k-in-loop-row-2 : goal.offset_bounds-self-k-in-loop-row-2
offset_bounds-self-k-in-loop-row-2 c = grind (arith)

pub bounds-other-k-in-loop-row : goal.bounds-other-k-in-loop-row
bounds-other-k-in-loop-row c = grind (arith)

pub offset_bounds-other-k-in-loop-row : goal.offset_bounds-other-k-in-loop-row
offset_bounds-other-k-in-loop-row c = grind (arith)
