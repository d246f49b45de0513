use Rattle.std.proofs.Common.{◌≡◌, ◌<◌, ◌^◌, ◌<ℤ◌, pos, inl, inr, sym, refl, ◌∙◌, arith}
use Rattle.std.specs.Int.RustNames.{unsigned_abs}
use Rattle.std.proofs.lemmas.Int.{ints}
use Rattle.cam_units.specs.Boxes.{IsInBox}
use Rattle.cam_shapes.specs.Swept.{IsAlongAxis, IsInSwept, corner_reach, high_corner, low_corner}
use Rattle.cam_shapes.specs.Plane.{way}
use Rattle.cam_shapes.proofs.SweptLaws.{axis}
use Rattle.cam_rows.specs.Machinery.HalfPlanes.{IsLeft}
use Rattle.cam_rows.proofs.BesideWays.{near_line}
use Rattle.cam_shapes.proofs.Widths.{wide as wide_number}
use Rattle.cam_rows.proofs.PassedOn.{kept_reach, no_rows, none_by_bits, passed_reach}
use Rattle.cam_rows.proofs.PassedOn.{runs_of_none, same_by_bits, some_by_bits, some_rows}
use Rattle.cam_rows.proofs.SweptRows.{in_box_and_near}
use Rattle.cam_rows.proofs.WideRows.{empty_runs, runs_like, runs_kept}
use Rattle.cam_rows.proofs.runs.swept.swept_runs.Goals as goal
use Rattle.cam_rows.proofs.runs.swept.swept_runs.Goals.{After-box_runs, After-from-reach}
use Rattle.cam_rows.proofs.runs.swept.swept_runs.Goals.{then-from-to-via-else-from-to+then-from-to-2}
use Rattle.cam_rows.proofs.runs.swept.swept_runs.Goals.{then-from-to-via-then-from-to, then-width-eq0-via-then-width-eq0}
use Rattle.cam_rows.proofs.runs.swept.swept_runs.Goals.{then-width-eq0-via-else-width-eq0+then-height-eq0}

wide : (c : After-box_runs) → pos 0 <ℤ c.args.swept.now.width.0
wide c = some_by_bits c.args.swept.now.width.0 c.requires.swept.width c.if-width-eq0.false

high : (c : After-box_runs) → pos 0 <ℤ c.args.swept.now.height.0
high c = some_by_bits c.args.swept.now.height.0 c.requires.swept.height c.if-height-eq0.false

-- the reach, as it is passed
short : (c : After-from-reach) → unsigned_abs c.from-reach.result < 2 ^ 64
short c = omega (arith, ints, c.from-reach.ensures)

value : (c : After-from-reach) → c.from-reach.result
    ≡ corner_reach (way c.args.swept.now.from c.args.swept.now.to) c.args.swept.now.width.0 c.args.swept.now.height.0
value c =
    let told = rw c.between.ensures.value at c.corner_reach.ensures in omega (arith, ints, c.from-reach.ensures, told)

pub returns-then-from-to : goal.returns-then-from-to
returns-then-from-to c =
    let at = (goal.at.returns-then-from-to c).After-box_runs in
    let r = c.args.swept.now in
    let along : IsAlongAxis r = elim c.then-from-to.branch [
      | then-from-to-via-then-from-to w ↦
          inl (same_by_bits r.from.x r.to.x c.requires.swept.from.x c.requires.swept.to.x w.if-from-to.true)
      | then-from-to-via-else-from-to+then-from-to-2 w ↦
          inr (same_by_bits r.from.y r.to.y c.requires.swept.from.y c.requires.swept.to.y w.if-from-to-2.true)
    ] in
    runs_like c.box_runs.new.firsts c.box_runs.new.ends c.args.top.now
    (λ s. IsInBox (low_corner r) (high_corner r) s) (λ s. IsInSwept s r)
    (λ s. let told = axis s r (wide at) (high at) along in (told.1, told.0)) c.box_runs.ensures

pub returns : goal.returns
returns c =
    let at = (goal.at.returns c).After-box_runs in
    let r = c.args.swept.now in
    let top = c.args.top.now in
    let first = c.narrow_left.new in
    let second = c.narrow_left-2.new in
    let reach = wide_number c.from-reach.result in
    let kept = kept_reach c.from-reach.result (short (goal.at.returns c).After-from-reach) in
    let one = runs_kept c.box_runs.new.firsts c.box_runs.new.ends first.firsts first.ends top
    (λ s. IsInBox (low_corner r) (high_corner r) s) (IsLeft r.from r.to reach) c.box_runs.ensures c.narrow_left.ensures
    c.narrow_left.auto.firsts in
    let two = runs_kept first.firsts first.ends second.firsts second.ends top _ (IsLeft r.to r.from reach) one
    c.narrow_left-2.ensures c.narrow_left-2.auto.firsts in
    runs_like second.firsts second.ends top _ (λ s. IsInSwept s r)
    (λ s.
    let told = in_box_and_near r (wide at) (high at) reach (kept ∙ value (goal.at.returns c).After-from-reach) s in
    let near = near_line r.from r.to reach s in (
      (λ held. told.1 (held.0.0, near.1 (held.0.1, held.1))),
      (λ inside.
          let parts = told.0 inside in
          let sides = near.0 parts.1 in
          ((parts.0, sides.0), sides.1)),
    )) two

pub returns-then-is_empty : goal.returns-then-is_empty
returns-then-is_empty c =
    runs_of_none c.args.firsts.now c.args.ends.now c.args.top.now _
    (no_rows _ _ c.is_empty.ensures c.if-is_empty.true)

pub returns-then-width-eq0 : goal.returns-then-width-eq0
returns-then-width-eq0 c =
    let fill = c.fill-then-width-eq0 in
    empty_runs c.fill.new.self fill.new.self c.args.top.now (λ s. IsInSwept s c.args.swept.now)
    (λ k within. fill.ensures.clones k 0 (omega (arith, within, c.fill.ensures.len, c.requires.ends)) refl)
    (λ s inside. elim c.then-width-eq0.branch [
      | then-width-eq0-via-then-width-eq0 w ↦ none_by_bits _ c.requires.swept.width w.if-width-eq0.true inside.wide
      | then-width-eq0-via-else-width-eq0+then-height-eq0 w ↦
          none_by_bits _ c.requires.swept.height w.if-height-eq0.true inside.high
    ])

pub narrow_left-requires-clause-reach : goal.narrow_left-requires-clause-reach
narrow_left-requires-clause-reach c = passed_reach c.from-reach.result (short (goal.at.narrow_left-requires-clause-reach c).After-from-reach)

pub narrow_left-requires-clause-some : goal.narrow_left-requires-clause-some
narrow_left-requires-clause-some c = rw c.box_runs.auto.firsts (some_rows _ _ c.is_empty.ensures c.if-is_empty.false)

pub narrow_left-requires-clause-rows : goal.narrow_left-requires-clause-rows
narrow_left-requires-clause-rows c = rw c.box_runs.auto.firsts c.requires.rows

pub narrow_left-requires-clause-ends : goal.narrow_left-requires-clause-ends
narrow_left-requires-clause-ends c = c.box_runs.auto.ends ∙ c.requires.ends ∙ sym c.box_runs.auto.firsts

pub narrow_left-requires-2-clause-reach : goal.narrow_left-requires-2-clause-reach
narrow_left-requires-2-clause-reach c = passed_reach c.from-reach.result (short (goal.at.narrow_left-requires-2-clause-reach c).After-from-reach)

pub narrow_left-requires-2-clause-some : goal.narrow_left-requires-2-clause-some
narrow_left-requires-2-clause-some c =
    rw (c.narrow_left.auto.firsts, c.box_runs.auto.firsts) (some_rows _ _ c.is_empty.ensures c.if-is_empty.false)

pub narrow_left-requires-2-clause-rows : goal.narrow_left-requires-2-clause-rows
narrow_left-requires-2-clause-rows c = rw (c.narrow_left.auto.firsts, c.box_runs.auto.firsts) c.requires.rows

pub narrow_left-requires-2-clause-ends : goal.narrow_left-requires-2-clause-ends
narrow_left-requires-2-clause-ends c =
    rw (c.narrow_left.auto.ends, c.narrow_left.auto.firsts, c.box_runs.auto.ends, c.box_runs.auto.firsts) c.requires.ends

pub box_runs-requires-clause-rows : goal.box_runs-requires-clause-rows
box_runs-requires-clause-rows c = c.requires.rows

pub corner_reach-requires-clause-height : goal.corner_reach-requires-clause-height
corner_reach-requires-clause-height c = assumption arith

pub narrow_left-requires-2-clause-from : goal.narrow_left-requires-2-clause-from
narrow_left-requires-2-clause-from c = assumption arith

pub corner_reach-requires-clause-width : goal.corner_reach-requires-clause-width
corner_reach-requires-clause-width c = assumption arith

pub box_runs-requires-clause-ends : goal.box_runs-requires-clause-ends
box_runs-requires-clause-ends c = grind (arith)
