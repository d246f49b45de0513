use Rattle.std.proofs.Common.{◌≡◌, ℕ, List, pos, ◌<ℤ◌, inl, inr, ap, refl, arith, rules}
use Rattle.std.proofs.lemmas.Int.{ints}
use Rattle.cam_shapes.specs.Arc.{IsNarrow}
use Rattle.cam_shapes.specs.Plane.{cross, dot, seen_from, way}
use Rattle.cam_rows.specs.Machinery.HalfPlanes.{IsLeft}
use Rattle.cam_rows.specs.ArcRuns.{IsInHalf, in_turn}
use Rattle.cam_rows.specs.Runs.{AreRuns}
use Rattle.cam_rows.proofs.ArcRuns.{by_ends, half_by_sides}
use Rattle.cam_rows.proofs.SweepRows.{left_by_test, narrow_by_turn, natural_by_test, negative_by_test, other_points}
use Rattle.cam_rows.proofs.SweepRows.{right_by_test, straight_ahead}
use Rattle.cam_rows.proofs.Sweeps.{no_sweep, same_way}
use Rattle.cam_rows.proofs.WideRows.{IsAny, empty_runs, runs_like, runs_kept, whole_runs}
use Rattle.cam_rows.proofs.runs.arc.turn_runs.Goals as goal
use Rattle.cam_rows.proofs.runs.arc.turn_runs.Goals.{After-counterclockwise, After-cross-turn, else-turn-eq0-via-else-turn-eq0}
use Rattle.cam_rows.proofs.runs.arc.turn_runs.Goals.{else-turn-eq0-via-then-turn-eq0+else-dot-ge0}

-- all columns
all : (c : After-counterclockwise) → AreRuns c.fill.new.self c.fill-2.new.self c.args.top.now IsAny
all c =
    whole_runs c.fill.new.self c.fill-2.new.self c.args.top.now
    (λ k within. c.fill.ensures.clones k 0 (rw c.fill.ensures.len at within) refl)
    (λ k within. c.fill-2.ensures.clones k 0 (omega (arith, within, c.fill.ensures.len, c.requires.ends)) refl)

-- by the ends of the sweep
turned : (c : After-counterclockwise) (firsts ends : List ℕ) → AreRuns firsts ends c.args.top.now
    (λ s. IsInHalf (way c.args.arc.now.centre c.counterclockwise.result.0)
    (way c.args.arc.now.centre c.counterclockwise.result.1) (seen_from c.args.arc.now.centre s))
    → AreRuns firsts ends c.args.top.now (λ s. in_turn IsInHalf c.args.arc.now s)
turned c firsts ends =
    let arc = c.args.arc.now in
    runs_like firsts ends c.args.top.now _ (λ s. in_turn IsInHalf arc s)
    (λ s.
    let told = by_ends IsInHalf arc.ccw arc.centre arc.from arc.to _ _ (seen_from arc.centre s)
    c.counterclockwise.ensures.ends in
    (told.1, told.0))

turn_is : (c : After-cross-turn) → c.cross-turn.result
    ≡ cross (way c.args.arc.now.centre c.counterclockwise.result.0)
    (way c.args.arc.now.centre c.counterclockwise.result.1)
turn_is c = rw (c.between-to_start.ensures.value, c.between-to_end.ensures.value) at c.cross-turn.ensures.value

pub returns-then-eq : goal.returns-then-eq
returns-then-eq c =
    let at = (goal.at.returns-then-eq c).After-counterclockwise in
    let same : c.counterclockwise.result.0 ≡ c.counterclockwise.result.1 = search rules in
    turned at _ _ (runs_like c.fill.new.self c.fill-2.new.self c.args.top.now IsAny _
    (λ s. ((λ _. inl (inl (ap (way c.args.arc.now.centre) same))), (λ _. omega arith))) (all at))

pub returns-then-turn-lt0 : goal.returns-then-turn-lt0
returns-then-turn-lt0 c =
    let at = (goal.at.returns-then-turn-lt0 c).After-counterclockwise in
    let turn = c.cross-turn in
    let more = rw (turn_is (goal.at.returns-then-turn-lt0 c).After-cross-turn)
    at (right_by_test turn.result turn.ensures.bound c.if-turn-lt0.true) in
    turned at _ _ (runs_like c.fill.new.self c.fill-2.new.self c.args.top.now IsAny _
    (λ s. ((λ _. inr more), (λ _. omega arith))) (all at))

pub returns-then-dot-ge0 : goal.returns-then-dot-ge0
returns-then-dot-ge0 c =
    let at = (goal.at.returns-then-dot-ge0 c).After-counterclockwise in
    let centre = c.args.arc.now.centre in
    let ends = c.counterclockwise.result in
    let start = way centre ends.0 in
    let end = way centre ends.1 in
    let other = other_points ends.0 ends.1 c.eq.result c.eq.ensures c.if-eq.false in
    let turn = c.cross-turn in
    let is = turn_is (goal.at.returns-then-dot-ge0 c).After-cross-turn in
    let none : turn.result ≡ pos 0 = omega (arith, ints, turn.ensures.bound, c.if-turn-eq0.true) in
    let ahead = rw (c.dot.ensures.value, c.between-to_start.ensures.value, c.between-to_end.ensures.value)
    at (natural_by_test c.dot.result c.dot.ensures.bound c.if-dot-ge0.true) in
    let not_narrow = straight_ahead start end turn.result is none ahead in
    let not_wide : cross start end <ℤ pos 0 → ⊥ = λ right. omega (arith, ints, right, none, is) in
    let fill = c.fill-then-dot-ge0 in
    turned at _ _ (empty_runs c.fill.new.self fill.new.self c.args.top.now (λ s. IsInHalf start end (seen_from centre s))
    (λ k within. fill.ensures.clones k 0
    (omega (arith, within, c.fill.ensures.len, c.fill-2.ensures.len, c.requires.ends)) refl)
    (λ s half. elim half [
      | inl on ↦
          no_sweep start end (seen_from centre s) (λ e. other (same_way centre ends.0 ends.1 e)) not_narrow not_wide on
      | inr more ↦ not_wide more
    ]))

pub returns : goal.returns
returns c =
    let at = (goal.at.returns c).After-counterclockwise in
    let centre = c.args.arc.now.centre in
    let start = c.counterclockwise.result.0 in
    let end = c.counterclockwise.result.1 in
    let top = c.args.top.now in
    let turn = c.cross-turn in
    let other = other_points start end c.eq.result c.eq.ensures c.if-eq.false in
    let back : turn.result ≡ pos 0 → dot (way centre start) (way centre end) <ℤ pos 0 = λ none.
    elim c.else-turn-eq0.branch [
      | else-turn-eq0-via-then-turn-eq0+else-dot-ge0 w ↦
          rw (w.dot.ensures.value, c.between-to_start.ensures.value, c.between-to_end.ensures.value)
          at (negative_by_test w.dot.result w.dot.ensures.bound w.if-dot-ge0.false)
      | else-turn-eq0-via-else-turn-eq0 w ↦ absurd (omega (arith, ints, w.if-turn-eq0.false, none))
    ] in
    let narrow : IsNarrow (way centre start) (way centre end) =
    narrow_by_turn (way centre start) (way centre end) turn.result (turn_is (goal.at.returns c).After-cross-turn)
    (left_by_test turn.result turn.ensures.bound c.if-turn-lt0.false) back in
    let first = c.narrow_left.new in
    let second = c.narrow_left-2.new in
    let one = runs_kept c.fill.new.self c.fill-2.new.self first.firsts first.ends top IsAny (IsLeft centre start (pos 0))
    (all at) c.narrow_left.ensures c.narrow_left.auto.firsts in
    let two = runs_kept first.firsts first.ends second.firsts second.ends top _ (IsLeft end centre (pos 0)) one
    c.narrow_left-2.ensures c.narrow_left-2.auto.firsts in
    turned at _ _ (runs_like second.firsts second.ends top _
    (λ s. IsInHalf (way centre start) (way centre end) (seen_from centre s))
    (λ s.
    let sides = half_by_sides centre start end s other narrow in (
      (λ held. sides.0 (held.0.1, held.1)),
      (λ half. let both = sides.1 half in ((omega arith, both.0), both.1)),
    )) two)

pub narrow_left-requires-clause-some : goal.narrow_left-requires-clause-some
narrow_left-requires-clause-some c = rw c.fill.ensures.len c.requires.some

pub narrow_left-requires-clause-rows : goal.narrow_left-requires-clause-rows
narrow_left-requires-clause-rows c = rw c.fill.ensures.len c.requires.rows

pub narrow_left-requires-2-clause-some : goal.narrow_left-requires-2-clause-some
narrow_left-requires-2-clause-some c = rw (c.narrow_left.auto.firsts, c.fill.ensures.len) c.requires.some

pub narrow_left-requires-2-clause-rows : goal.narrow_left-requires-2-clause-rows
narrow_left-requires-2-clause-rows c = rw (c.narrow_left.auto.firsts, c.fill.ensures.len) c.requires.rows

pub narrow_left-requires-2-clause-ends : goal.narrow_left-requires-2-clause-ends
narrow_left-requires-2-clause-ends c = omega (arith)

pub narrow_left-requires-clause-ends : goal.narrow_left-requires-clause-ends
narrow_left-requires-clause-ends c = omega (arith)
