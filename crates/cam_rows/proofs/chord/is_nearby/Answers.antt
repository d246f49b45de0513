use Rattle.std.proofs.Common.{◌≡◌, ◌-◌, pos, ◌-ℤ◌, ◌*ℤ◌, ◌<◌, ◌^◌, arith}
use Rattle.std.proofs.lemmas.Bool.{ltb-true}
use Rattle.std.proofs.lemmas.Int.{ints}
use Rattle.std.specs.Int.RustNames.{unsigned_abs}
use Rattle.cam_rows.proofs.NearRows.{near_rows}
use Rattle.cam_rows.proofs.WideRows.{top_is_wide}
use Rattle.cam_rows.proofs.chord.is_nearby.Goals as goal

pub rise_below-lowest-requires-clause-rows : goal.rise_below-lowest-requires-clause-rows
rise_below-lowest-requires-clause-rows c = λ k within. c.requires.rows k (omega (arith, within, c.requires.some))

pub returns-then-unsigned_abs-lt-NEAR : goal.returns-then-unsigned_abs-lt-NEAR
returns-then-unsigned_abs-lt-NEAR c = λ low.
    let top = c.args.top.now in
    let wide = top_is_wide top c.args.rows c.requires.some c.requires.rows in
    let told = c.offsets_from-columns.ensures in
    let high : c.rise_below-highest.result
    ≡ (top.y -ℤ pos 0 *ℤ top.step) -ℤ pos 2 *ℤ c.args.point.now.y = c.rise_below-highest.ensures in
    let lowest : c.rise_below-lowest.result
    ≡ (top.y -ℤ pos (c.args.rows - 1) *ℤ top.step) -ℤ pos 2 *ℤ c.args.point.now.y = c.rise_below-lowest.ensures in
    let short = told.wide.short 0 (omega (arith, told.each.count, wide.count.0)) in
    let far = told.wide.short (top.n - 1) (omega (arith, told.each.count, wide.count.0)) in
    let down : unsigned_abs c.rise_below-lowest.result < 2 ^ 32 =
    omega (arith, ints, c.unsigned_abs-then-unsigned_abs-lt-NEAR.ensures.value, ltb-true _ _ low) in
    let up : unsigned_abs c.rise_below-highest.result < 2 ^ 32 =
    omega (arith, ints, c.unsigned_abs-2.ensures.value, c.if-unsigned_abs-lt-NEAR.true) in
    near_rows c.args.point.now top c.args.rows c.args.bound c.offsets_from-columns.result wide told.each
    (omega (arith, c.from.ensures, c.if-bound-from.false))
    (omega (arith, ints, short.0, c.unsigned_abs.ensures.value, c.if-unsigned_abs-ge-NEAR.false))
    (omega (arith, ints, far.1, c.at-rightmost.ensures, c.unsigned_abs-else-unsigned_abs-ge-NEAR.ensures.value, c.if-unsigned_abs-ge-NEAR-2.false))
    (rw lowest at down) (rw high at up)

pub offsets_from-columns-requires-clause-row : goal.offsets_from-columns-requires-clause-row
offsets_from-columns-requires-clause-row c = top_is_wide c.args.top.now c.args.rows c.requires.some c.requires.rows

pub overflow_sub-top : goal.overflow_sub-top
overflow_sub-top c = (top_is_wide c.args.top.now c.args.rows c.requires.some c.requires.rows).count.0

pub rise_below-highest-requires-clause-rows : goal.rise_below-highest-requires-clause-rows
rise_below-highest-requires-clause-rows c = λ k within. c.requires.rows k (omega (arith, within, c.requires.some))

pub returns-else-unsigned_abs-lt-NEAR : goal.returns-else-unsigned_abs-lt-NEAR
returns-else-unsigned_abs-lt-NEAR c = λ low. absurd (omega (arith, ltb-true _ _ low, c.if-unsigned_abs-lt-NEAR.false))

pub at-rightmost-requires : goal.at-rightmost-requires
at-rightmost-requires c = grind (arith)
