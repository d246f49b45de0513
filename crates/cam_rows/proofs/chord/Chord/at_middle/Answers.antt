use Rattle.std.proofs.Common.{◌≡◌, ◌-◌, min, arith}
use Rattle.std.specs.Int.RustNames.{unsigned_abs}
use Rattle.std.proofs.lemmas.Int.{ints}
use Rattle.cam_rows.proofs.Middles.{chord_of, place_at}
use Rattle.cam_rows.proofs.chord.Chord.at_middle.Given.{Over}
use Rattle.cam_rows.proofs.chord.Chord.at_middle.Goals as goal
use Rattle.cam_rows.proofs.chord.Chord.at_middle.Goals.{After-new-2}

left : (g : Over) (c : After-new-2 g) → c.unsigned_abs.result
    ≡ unsigned_abs (place_at c.offsets_from-offsets.result (c.count_left_of-middle.result - 1))
left g c =
    let told = c.offsets_from-offsets.ensures in
    let at = rw c.saturating_sub.ensures at c.at-last_left.ensures in
    let short = (told.wide.short (c.count_left_of-middle.result - 1)
    (omega (arith, told.each.count, c.count_left_of-middle.ensures.few, c.requires.row.count.0))).1 in
    omega (arith, ints, at, short, c.unsigned_abs.ensures.value)

right : (g : Over) (c : After-new-2 g) → c.unsigned_abs-2.result
    ≡ unsigned_abs (place_at c.offsets_from-offsets.result (min c.count_left_of-middle.result (c.args.top.now.n - 1)))
right g c =
    let told = c.offsets_from-offsets.ensures in
    let at = rw (c.min.ensures, told.each.count) at c.at-first_right.ensures in
    let short = (told.wide.short (min c.count_left_of-middle.result (c.args.top.now.n - 1))
    (omega (arith, told.each.count, c.requires.row.count.0))).1 in
    omega (arith, ints, at, short, c.unsigned_abs-2.ensures.value)

pub returns-clause-chord : goal.returns-clause-chord
returns-clause-chord g c =
    let step = c.offsets_from-offsets.ensures.each.step in
    chord_of g.row.REACH c.args.top.now c.args.point.now c.offsets_from-offsets.result c.count_left_of-middle.result
    c.unsigned_abs-step.result c.unsigned_abs.result c.unsigned_abs-2.result _ c.requires.row c.requires.far
    c.requires.near c.offsets_from-offsets.ensures.each
    (omega (arith, ints, c.unsigned_abs-step.ensures.value)) (omega (arith, ints, c.unsigned_abs-step.ensures.value, step, c.requires.row.step))
    (omega (arith, ints, c.requires.point.x)) c.count_left_of-middle.ensures.each
    c.count_left_of-middle.ensures.few (left g c) (right g c) _ _ c.new.ensures c.new-2.ensures

pub overflow_mul-point : goal.overflow_mul-point
overflow_mul-point c = grind (arith)

pub count_left_of-middle-requires-clause-row : goal.count_left_of-middle-requires-clause-row
count_left_of-middle-requires-clause-row c = grind (arith)

pub returns-clause-offsets : goal.returns-clause-offsets
returns-clause-offsets c = assumption arith

pub count_left_of-middle-requires-clause-short : goal.count_left_of-middle-requires-clause-short
count_left_of-middle-requires-clause-short c = grind (arith)

pub at-last_left-requires : goal.at-last_left-requires
at-last_left-requires c = grind (arith)

pub offsets_from-offsets-requires-clause-row : goal.offsets_from-offsets-requires-clause-row
offsets_from-offsets-requires-clause-row c = grind (arith)

pub at-first_right-requires : goal.at-first_right-requires
at-first_right-requires c = grind (arith)
