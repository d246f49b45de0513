use Rattle.std.proofs.Common.{rules, ◌<◌, ◌^◌, length, arith}
use Rattle.std.specs.Int.RustNames.{unsigned_abs}
use Rattle.std.proofs.lemmas.Int.{ints, clamps}
use Rattle.cam_units.specs.Boxes.{IsInBox}
use Rattle.cam_shapes.specs.declared.swept.Swept.{Swept}
use Rattle.cam_shapes.specs.Swept.{IsSoundSwept, high_corner, low_corner}
use Rattle.cam_rows.specs.Rows.{centre_at, row_below}
use Rattle.cam_rows.proofs.PassedOn.{some_rows}
use Rattle.cam_rows.proofs.WideRows.{all_found, in_box_run, one_more_run, top_is_wide}
use Rattle.cam_rows.proofs.runs.boxes.box_runs.Goals as goal

-- the corners lie near the board
corners_near : (r : Swept) → IsSoundSwept r
    → (unsigned_abs (low_corner r).x < 2 ^ 61) × (unsigned_abs (high_corner r).x < 2 ^ 61)
corners_near r sound = grind (arith, ints, clamps)

pub wide_below-requires-clause-top : goal.wide_below-requires-clause-top
wide_below-requires-clause-top c = top_is_wide c.args.top.now (length c.args.firsts.now) (omega arith) c.requires.rows

pub wide_below-requires-clause-row : goal.wide_below-requires-clause-row
wide_below-requires-clause-row c = c.requires.rows c.loop-k.k (omega arith)

pub loop-k-preserved : goal.loop-k-preserved
loop-k-preserved c =
    let low = low_corner c.args.swept.now in
    let high = high_corner c.args.swept.now in
    let top = c.args.top.now in
    let k = c.loop-k.k in
    let run = c.run_across-run in
    let row = c.requires.rows k (omega arith) in
    let place = row.centres 0 (omega (arith, row.count.0)) in
    let is_low = c.low_corner-low.ensures in
    let is_high = c.high_corner-high.ensures in
    let near = corners_near c.args.swept.now c.requires.swept in
    let across = rw (c.wide_below.ensures, is_low, is_high) at run.ensures.each in
    one_more_run c.loop-k.firsts c.loop-k.ends top (λ s. IsInBox low high s) k run.result.first run.result.end
    (omega arith) (omega (arith, c.requires.ends)) c.loop-k.invariant
    (λ i small.
    in_box_run _ _ low high (centre_at (row_below top k) i) _ _ _
    (omega (arith, ints, near.0)) (omega (arith, ints, near.1)) (omega (arith, ints, place.y))
    (rw (is_low, is_high) at (c.columns_between-all.ensures.each i small)) (across i))
    (omega (arith, run.ensures.within, c.columns_between-all.ensures.within))

pub returns : goal.returns
returns c =
    all_found c.loop-k.firsts c.loop-k.ends c.args.top.now
    (λ s. IsInBox (low_corner c.args.swept.now) (high_corner c.args.swept.now) s) c.loop-k.k
    (omega (arith, c.loop-k-test.false)) c.loop-k.invariant

pub columns_between-all-requires-clause-left : goal.columns_between-all-requires-clause-left
columns_between-all-requires-clause-left c =
    let near = corners_near c.args.swept.now c.requires.swept in rw c.low_corner-low.ensures (omega (arith, ints, near.0))

pub columns_between-all-requires-clause-right : goal.columns_between-all-requires-clause-right
columns_between-all-requires-clause-right c =
    let near = corners_near c.args.swept.now c.requires.swept in rw c.high_corner-high.ensures (omega (arith, ints, near.1))

pub columns_between-all-requires-clause-row : goal.columns_between-all-requires-clause-row
columns_between-all-requires-clause-row c = search (rules, top_is_wide, some_rows)

pub high_corner-high-requires : goal.high_corner-high-requires
high_corner-high-requires c = assumption arith

pub offset_bounds-firsts-k : goal.offset_bounds-firsts-k
offset_bounds-firsts-k c = omega (arith)

pub offset_bounds-ends-k : goal.offset_bounds-ends-k
offset_bounds-ends-k c = omega (arith)

pub bounds-firsts-k : goal.bounds-firsts-k
bounds-firsts-k c = omega (arith)

pub bounds-ends-k : goal.bounds-ends-k
bounds-ends-k c = omega (arith)
