use Rattle.std.proofs.Common.{arith, ◌≡◌, ℕ, ◌∙◌, ap, ◌+ℤ◌, rules}
use Rattle.std.proofs.lemmas.Grind.{common_steps}
use Rattle.cam_shapes.specs.Plane.{cross, seen_from, way}
use Rattle.cam_shapes.proofs.Widths.{wide}
use Rattle.cam_rows.specs.Machinery.Slopes.{lowered, number_on}
use Rattle.cam_rows.specs.Rows.{centre_at, row_below}
use Rattle.cam_rows.proofs.HalfPlanes.{turned, turned_x}
use Rattle.cam_rows.proofs.PassedOn.{kept_reach}
use Rattle.cam_rows.proofs.half_plane.HalfPlane.left.Goals as goal
use Rattle.cam_rows.proofs.half_plane.HalfPlane.left.Goals.{After-ahead}

numbers : (c : After-ahead) (k i : ℕ) → number_on (lowered k c.ahead.result) i
    ≡ cross (way c.args.from.now c.args.to.now) (seen_from c.args.from.now (centre_at (row_below c.args.top.now k) i))
    +ℤ c.args.reach
numbers c k i =
    let along = way c.args.from.now c.args.to.now in
    let seen = seen_from c.args.from.now (centre_at (row_below c.args.top.now k) i) in
    let way_is = c.between-way.ensures in
    c.ahead.ensures.numbers k i
    ∙ ap (λ z. z +ℤ wide c.args.reach) (turned along c.between-way.result seen way_is.value way_is.short)
    ∙ ap (λ z. cross along seen +ℤ z) (kept_reach c.args.reach c.requires.reach)

pub returns : goal.returns
returns c = grind (arith, numbers, turned_x)

pub overflow_sub-to_the_left : goal.overflow_sub-to_the_left
overflow_sub-to_the_left c = grind (arith, common_steps)

pub ahead-requires-clause-reach : goal.ahead-requires-clause-reach
ahead-requires-clause-reach c = grind (arith)

pub ahead-requires-clause-row : goal.ahead-requires-clause-row
ahead-requires-clause-row c = assumption arith

pub ahead-requires-clause-way : goal.ahead-requires-clause-way
ahead-requires-clause-way c = search rules
