use Rattle.std.proofs.Common.{rules, ◌≡◌, ◌↔◌, ℕ, ◌+◌, ◌-◌, ◌<◌, ◌∙◌, ◌≤ℤ◌, ◌+ℤ◌, pos, length, to_z, of_z, inl, inr, arith}
use Rattle.std.proofs.lemmas.Grind.{common_steps}
use Rattle.std.specs.Int.{w64}
use Rattle.std.proofs.lemmas.Int.{ints}
use Rattle.cam_units.specs.declared.point.Point.{Point}
use Rattle.cam_units.specs.declared.point.Spot.{Spot}
use Rattle.cam_shapes.specs.declared.vector.Vector.{Vector}
use Rattle.cam_shapes.specs.Plane.{dot, seen_from, way}
use Rattle.cam_rows.specs.Machinery.Beside.{IsFar, IsFarOrAhead}
use Rattle.cam_rows.specs.Machinery.Narrowing.{IsUp}
use Rattle.cam_rows.specs.Rows.{centre_at, first_centre, row_below}
use Rattle.cam_rows.specs.Runs.{IsInRun}
use Rattle.cam_rows.proofs.BesideWays.{IsAhead}
use Rattle.cam_rows.proofs.FarPlaces.{far_by_row, ahead_by_row}
use Rattle.cam_rows.proofs.PartRuns.{none_narrowed, part_length, part_narrowed, part_rows, told_below}
use Rattle.cam_rows.proofs.SweepRows.{no_more}
use Rattle.cam_rows.proofs.WideRows.{top_is_wide}
use Rattle.cam_rows.proofs.runs.bar.narrow_ahead.Goals as goal
use Rattle.cam_rows.proofs.runs.bar.narrow_ahead.Goals.{After-rows_not_far-first}

-- the width, as it is passed
kept_width : (c : After-rows_not_far-first) → to_z w64 (of_z w64 c.args.width) ≡ c.args.width
kept_width c = omega (arith, ints, c.requires.width)

not_far : (c : After-rows_not_far-first) (k : ℕ) → k < length c.args.firsts.now
    → IsInRun c.rows_not_far-first.result.0 c.rows_not_far-first.result.1 k
    ↔ (IsFar c.args.from.now c.args.to.now c.args.width (first_centre (row_below c.args.top.now k)) → ⊥)
not_far c = rw (kept_width c) at c.rows_not_far-first.ensures.each

-- ahead of the point, by numbers that are no more than the products
ahead_told : {B : Type 0} (p q : Point) (a : Vector) (s : Spot) → a ≡ way p q
    → B ↔ (pos 0 ≤ℤ (dot a (seen_from p s) +ℤ pos 0)) → B ↔ IsAhead p q s
ahead_told p q a s is told = rw (is, no_more) at told

pub returns-then-end-first : goal.returns-then-end-first
returns-then-end-first c =
    none_narrowed c.args.top.now.n c.args.firsts.now c.args.ends.now _
    (λ k i within. far_by_row c.args.from.now c.args.to.now c.args.width c.args.top.now k i _ _
    (not_far (goal.at.returns-then-end-first c).After-rows_not_far-first k within) (λ on. omega (arith, on.0, on.1, c.if-end-first.true)))

pub wide_below-requires-clause-top : goal.wide_below-requires-clause-top
wide_below-requires-clause-top c = search (rules, top_is_wide)

pub wide_below-requires-clause-row : goal.wide_below-requires-clause-row
wide_below-requires-clause-row c = search rules

pub ahead-requires-clause-row : goal.ahead-requires-clause-row
ahead-requires-clause-row c =
    rw c.wide_below.ensures (c.requires.rows c.rows_not_far-first.result.0
    (omega (arith, c.if-end-first.false, c.rows_not_far-first.ensures.within)))

pub narrow-requires-clause-short : goal.narrow-requires-clause-short
narrow-requires-clause-short c =
    let first = c.rows_not_far-first.result.0 in
    let end = c.rows_not_far-first.result.1 in
    let within = c.rows_not_far-first.ensures.within in
    rw (part_length first end c.args.firsts.now (omega (arith, c.if-end-first.false)) within) (c.ahead.ensures.holds.short _
    (rw c.wide_below.ensures (part_rows c.args.top.now first (end - first) (length c.args.firsts.now)
    (omega (arith, within, c.if-end-first.false)) c.requires.rows)))

pub returns : goal.returns
returns c =
    let top = c.args.top.now in
    let from = c.args.from.now in
    let to = c.args.to.now in
    let first = c.rows_not_far-first.result.0 in
    let end = c.rows_not_far-first.result.1 in
    let within = c.rows_not_far-first.ensures.within in
    let some : first < end = omega (arith, c.if-end-first.false) in
    let size = part_length first end c.args.firsts.now some within in
    let size_ends = part_length first end c.args.ends.now some (omega (arith, within, c.requires.ends)) in
    let near = not_far (goal.at.returns c).After-rows_not_far-first in
    part_narrowed top.n first end c.args.firsts.now c.args.ends.now c.narrow.new.firsts c.narrow.new.ends
    (IsUp c.ahead.result) (λ k i. IsFarOrAhead from to c.args.width (centre_at (row_below top k) i))
    some within c.requires.ends (c.narrow.auto.firsts ∙ size) (c.narrow.auto.ends ∙ size_ends)
    (rw size at c.narrow.ensures)
    (λ k i inside. ahead_by_row from to c.args.width top (first + k) i _ _ _
    (near (first + k) (omega (arith, inside, within)))
    (omega arith, omega (arith, inside))
    (told_below top c.wide_below.result first k i _ (IsAhead from to) c.wide_below.ensures (ahead_told from to c.between.result _ c.between.ensures.value (c.ahead.ensures.holds.tells k i))))
    (λ k i there off. far_by_row from to c.args.width top k i _ _ (near k there)
    (λ on. elim off [
      | inl early ↦ absurd (omega (arith, early, on.0))
      | inr late ↦ absurd (omega (arith, late, on.1))
    ]))

pub rows_not_far-first-requires-clause-width : goal.rows_not_far-first-requires-clause-width
rows_not_far-first-requires-clause-width c = grind (arith)

pub narrow-requires-clause-ends : goal.narrow-requires-clause-ends
narrow-requires-clause-ends c = omega (arith)

pub narrow-requires-clause-few : goal.narrow-requires-clause-few
narrow-requires-clause-few c = grind (arith, common_steps)
