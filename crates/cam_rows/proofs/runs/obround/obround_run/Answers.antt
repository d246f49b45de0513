use Rattle.std.proofs.Common.{◌≡◌, ◌↔◌, ◌≤◌, pos, ◌*ℤ◌, refl, arith, rules}
use Rattle.std.proofs.lemmas.Grind.{common_steps}
use Rattle.std.specs.Int.RustNames.{unsigned_abs}
use Rattle.std.proofs.lemmas.Int.{ints}
use Rattle.cam_shapes.specs.Box.{IsInObround}
use Rattle.cam_shapes.specs.Plane.{seen_from}
use Rattle.cam_rows.specs.Rows.{centre_at, first_centre}
use Rattle.cam_rows.specs.Runs.{IsInRun}
use Rattle.cam_rows.proofs.Chords.{cast_size, in_reach}
use Rattle.cam_rows.proofs.PassedOn.{none_by_bits}
use Rattle.cam_rows.proofs.Quarters.{obround_is, over_obround}
use Rattle.cam_rows.proofs.WideRows.{by_strip, in_no_run}
use Rattle.cam_rows.proofs.runs.obround.obround_run.Goals as goal
use Rattle.cam_rows.proofs.runs.obround.obround_run.Goals.{After-unsigned_abs-over, then-width-eq0-via-then-width-eq0}
use Rattle.cam_rows.proofs.runs.obround.obround_run.Goals.{then-width-eq0-via-else-width-eq0+then-height-eq0}

-- how far the row lies above or below the middle
height : (c : After-unsigned_abs-over)
    → c.unsigned_abs-over.result ≡ unsigned_abs (seen_from c.args.obround.now.centre (first_centre c.args.row.now)).y
height c =
    let place = (c.requires.row.centres 0 (omega (arith, c.requires.row.count))).y in
    omega (arith, ints, place, c.requires.obround.centre.y, c.unsigned_abs-over.ensures.value)

pub returns-then-width-eq0-clause-each : goal.returns-then-width-eq0-clause-each
returns-then-width-eq0-clause-each c = λ i _.
    in_no_run 0 0 i (IsInObround (centre_at c.args.row.now i) c.args.obround.now) refl
    (λ inside. elim c.then-width-eq0.branch [
      | then-width-eq0-via-then-width-eq0 w ↦ none_by_bits _ c.requires.obround.width w.if-width-eq0.true inside.wide
      | then-width-eq0-via-else-width-eq0+then-height-eq0 w ↦
          none_by_bits _ c.requires.obround.height w.if-height-eq0.true inside.high
    ])

pub returns-then-over-height-clause-each : goal.returns-then-over-height-clause-each
returns-then-over-height-clause-each c = λ i _.
    let o = c.args.obround.now in
    let sound = c.requires.obround in
    let quarter = obround_is (centre_at c.args.row.now i) o _ _ c.unsigned_abs-over.result
    (omega (arith, ints, sound.width, c.if-width-eq0.false)) (omega (arith, ints, sound.height, c.if-height-eq0.false))
    (cast_size o.width.0 sound.width) (cast_size o.height.0 sound.height)
    (height (goal.at.returns-then-over-height-clause-each c).After-unsigned_abs-over) in
    in_no_run 0 0 i (IsInObround (centre_at c.args.row.now i) o) refl
    (λ inside. over_obround _ c.unsigned_abs-over.result _ _ c.if-over-height.true (quarter.0 inside))

pub returns-clause-each : goal.returns-clause-each
returns-clause-each c = λ i within.
    let o = c.args.obround.now in
    let sound = c.requires.obround in
    let place = centre_at c.args.row.now i in
    let x = unsigned_abs (seen_from o.centre place).x in
    let quarter = obround_is place o _ _ c.unsigned_abs-over.result
    (omega (arith, ints, sound.width, c.if-width-eq0.false)) (omega (arith, ints, sound.height, c.if-height-eq0.false))
    (cast_size o.width.0 sound.width) (cast_size o.height.0 sound.height)
    (height (goal.at.returns-clause-each c).After-unsigned_abs-over) in
    let reach = c.reach_at-reach.ensures.each x in
    let near : IsInRun c.columns_between.result.first c.columns_between.result.end i ↔ (x ≤ c.reach_at-reach.result) =
    by_strip _ _ _ (c.columns_between.ensures.each i within)
    (in_reach place.x (pos 2 *ℤ o.centre.x) _ _ c.reach_at-reach.result
    (omega (arith, ints, sound.centre.x, c.reach_at-reach.ensures.short))
    (omega (arith, ints, sound.centre.x, c.reach_at-reach.ensures.short))) in (
      (λ on. quarter.1 (reach.0 (near.0 on))),
      (λ inside. near.1 (reach.1 (quarter.0 inside))),
    )

pub returns-clause-within : goal.returns-clause-within
returns-clause-within c = grind (arith)

pub overflow_sub-centre : goal.overflow_sub-centre
overflow_sub-centre c = grind (arith, common_steps)

pub overflow_mul-centre-2 : goal.overflow_mul-centre-2
overflow_mul-centre-2 c = grind (arith, common_steps)

pub overflow_mul-centre : goal.overflow_mul-centre
overflow_mul-centre c = grind (arith, common_steps)

pub overflow_cast-height : goal.overflow_cast-height
overflow_cast-height c = grind (arith, common_steps)

pub reach_at-reach-requires-clause-height : goal.reach_at-reach-requires-clause-height
reach_at-reach-requires-clause-height c = grind (arith, common_steps)

pub reach_at-reach-requires-clause-width : goal.reach_at-reach-requires-clause-width
reach_at-reach-requires-clause-width c = grind (arith, common_steps)

pub overflow_cast-width : goal.overflow_cast-width
overflow_cast-width c = grind (arith, common_steps)

pub overflow_mul-centre-3 : goal.overflow_mul-centre-3
overflow_mul-centre-3 c = grind (arith, common_steps)

pub columns_between-requires-clause-row : goal.columns_between-requires-clause-row
columns_between-requires-clause-row c = assumption arith

pub overflow_cast-height-2 : goal.overflow_cast-height-2
overflow_cast-height-2 c = grind (arith, common_steps)

pub overflow_sub-row : goal.overflow_sub-row
overflow_sub-row c = search rules

pub overflow_add-centre : goal.overflow_add-centre
overflow_add-centre c = grind (arith, common_steps)
