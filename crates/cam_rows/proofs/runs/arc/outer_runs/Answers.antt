use Rattle.std.proofs.Common.{arith}
use Rattle.std.proofs.lemmas.Grind.{common_steps}
use Rattle.std.proofs.lemmas.Int.{ints}
use Rattle.cam_rows.specs.ArcRuns.{IsInHalf, IsOuter, in_turn}
use Rattle.cam_rows.specs.Machinery.Narrowing.{IsNearer}
use Rattle.cam_rows.proofs.ArcRuns.{in_outer}
use Rattle.cam_rows.proofs.WideRows.{runs_kept, runs_like, empty_runs}
use Rattle.cam_rows.proofs.runs.arc.outer_runs.Goals as goal

pub returns : goal.returns
returns c =
    let arc = c.args.arc.now in
    let ring = c.args.ring.now in
    let top = c.args.top.now in
    let turn = c.turn_runs in
    let narrowed = c.narrow_to_circle in
    let kept = runs_kept turn.new.firsts turn.new.ends narrowed.new.firsts narrowed.new.ends top
    (λ s. in_turn IsInHalf arc s) (IsNearer arc.centre ring.outer) turn.ensures narrowed.ensures
    narrowed.auto.firsts in
    runs_like narrowed.new.firsts narrowed.new.ends top _ (λ s. IsOuter arc s)
    (λ s.
    let told = in_outer ring arc s c.requires.ring in (
      (λ held. record {
        wide = omega (arith, ints, c.requires.arc.width, c.if-arc-eq0.false);
        near = told.0 held.1;
        turn = held.0;
      }),
      (λ outer. (outer.turn, told.1 outer.near)),
    )) kept

pub returns-then-arc-eq0 : goal.returns-then-arc-eq0
returns-then-arc-eq0 c = grind (arith, empty_runs)

pub returns-then-is_empty : goal.returns-then-is_empty
returns-then-is_empty c = grind (arith, common_steps)

pub turn_runs-requires-clause-ends : goal.turn_runs-requires-clause-ends
turn_runs-requires-clause-ends c = grind (arith)

pub narrow_to_circle-requires-clause-ends : goal.narrow_to_circle-requires-clause-ends
narrow_to_circle-requires-clause-ends c = grind (arith)
