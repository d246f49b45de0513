use Rattle.std.proofs.Common.{rules, ◌+◌, ◌<◌, ◌∙◌, length, refl, arith}
use Rattle.cam_rows.specs.Machinery.Narrowing.{IsNearer}
use Rattle.cam_rows.specs.Rows.{centre_at, row_below}
use Rattle.cam_rows.proofs.NarrowedRuns.{all_runs, next_run, no_runs, run_by}
use Rattle.cam_rows.proofs.NearRows.{height_passed, height_square, next_height}
use Rattle.cam_rows.proofs.WideRows.{near_column}
use Rattle.cam_rows.proofs.runs.circle.narrow_rows.Goals as goal

pub rise_below-height-requires-clause-rows : goal.rise_below-height-requires-clause-rows
rise_below-height-requires-clause-rows g c = λ k within. c.requires.rows k (omega (arith, within, c.requires.some))

pub room_at-room-requires-clause-height : goal.room_at-room-requires-clause-height
room_at-room-requires-clause-height g c = grind arith

pub loop-k-preserved : goal.loop-k-preserved
loop-k-preserved g c =
    let top = c.args.top.now in
    let point = c.args.point.now in
    let k = c.loop-k.k in
    let part = c.part-part in
    let inv = c.loop-k.invariant in
    let within : k < length c.args.firsts.now = omega (arith, inv.narrowed.firsts_size) in
    let rows = c.requires.within in
    record {
      chord = part.ensures.chord;
      left = part.ensures.left ∙ inv.left;
      right = part.ensures.right ∙ inv.right;
      offsets = rw part.ensures.same inv.offsets;
      height = λ more.
          next_height g.row.REACH c.loop-k.height-bits k top.y top.step point.y (omega arith) rows.far (inv.height within)
          (rows.rows k within) (rows.rows (k + 1) more);
      narrowed = next_run top.n c.args.firsts.now c.args.ends.now
          (λ k i. IsNearer point c.args.bound (centre_at (row_below top k) i)) c.loop-k.firsts c.loop-k.ends k
          part.result.first part.result.end within c.requires.ends inv.narrowed
          (λ i small.
          run_by _ _ _ _ (rw inv.offsets.count at (part.ensures.each i) small)
          (near_column top point c.loop-k.chord.offsets k i _ c.room_at-room.result
          c.args.bound inv.offsets (height_square _ _ (inv.height within)) c.room_at-room.ensures.room))
          part.ensures.within;
    }

pub returns : goal.returns
returns g c = search (rules, all_runs)

pub part-part-requires-clause-sides : goal.part-part-requires-clause-sides
part-part-requires-clause-sides g c =
    let sides = c.requires.sides in
    let inv = c.loop-k.invariant in
    record { none_left = λ off. inv.left ∙ sides.none_left off; none_right = λ off. inv.right ∙ sides.none_right off }

pub loop-k-init : goal.loop-k-init
loop-k-init g c = record {
  chord = c.requires.chord;
  offsets = c.requires.offsets;
  left = refl;
  right = refl;
  height = λ some. height_passed g.row.REACH _ _ c.requires.within.far (c.requires.within.rows 0 some) c.rise_below-height.ensures;
  narrowed = no_runs _ _ _ _;
}

pub bounds-firsts-k-in-loop-k : goal.bounds-firsts-k-in-loop-k
bounds-firsts-k-in-loop-k c = grind (arith)

pub bounds-ends-k-in-loop-k : goal.bounds-ends-k-in-loop-k
bounds-ends-k-in-loop-k c = grind (arith)

pub part-part-requires-clause-chord : goal.part-part-requires-clause-chord
part-part-requires-clause-chord c = grind (arith)
