use Rattle.std.proofs.Common.{◌+◌, ◌*◌, ◌<◌, ℕ, length, arith}
use Rattle.cam_tiles.proofs.PartlyDrawn.{drawn_further}
use Rattle.cam_tiles.proofs.RowsInOrder.{IsRowThere, begins, row_there}
use Rattle.cam_tiles.proofs.TileCounts.{few_across, few_tiles, some_across}
use Rattle.cam_tiles.proofs.drawing.draw_quickly.Goals.{After-min-end, In-loop-row}
use Rattle.cam_tiles.proofs.drawing.draw_quickly.Goals as goal

pub div_ceil-row-end-requires : goal.div_ceil-row-end-requires
div_ceil-row-end-requires c =
    omega (arith, c.across-across.ensures, some_across c.args.window.now c.requires.accepted)

here : (c : After-min-end) → IsRowThere c.args.window.now c.args.first c.loop-row.tiles
    (c.loop-row.row * c.across-across.result) c.min-end.result
here c =
    let size : ℕ = length c.args.tiles.now in
    row_there c.args.window.now c.args.first c.loop-row.tiles size c.loop-row.row c.across-across.result c.min-end.result
    c.requires.accepted c.across-across.ensures (rw c.across-across.ensures at c.if-first-across-ne0.false) c.loop-row.auto.tiles c.requires.within
    (omega (arith, c.loop-row-test.true, c.div_ceil-row-end.ensures))
    (omega (arith, c.min-end.ensures, c.loop-row.auto.tiles))

pub overflow_add-first : goal.overflow_add-first
overflow_add-first c = let few = (here (goal.at.overflow_add-first c).After-min-end).few in omega (arith, few)

pub overflow_cast-start : goal.overflow_cast-start
overflow_cast-start c = let few = (here (goal.at.overflow_cast-start c).After-min-end).few in omega (arith, few)

pub draw_row-requires-clause-row : goal.draw_row-requires-clause-row
draw_row-requires-clause-row c = (here (goal.at.draw_row-requires-clause-row c).After-min-end).row

pub returns-in_err-draw_row : goal.returns-in_err-draw_row
returns-in_err-draw_row c =
    drawn_further _ c.args.first _ _ _ c.loop-row.invariant.drawn
    ((here (goal.at.returns-in_err-draw_row c).After-min-end).drawn _ _ c.draw_row.ensures.tiles)

pub loop-row-preserved : goal.loop-row-preserved
loop-row-preserved c = record {
  drawn = drawn_further _ c.args.first _ _ _ c.loop-row.invariant.drawn
      ((here (goal.at.loop-row-preserved c).After-min-end).drawn _ _ c.draw_row.ensures.tiles);
  index = c.in_ok-draw_row.ensures.index;
}

-- a row of tiles, even the last one, ends within the numbers
begun : (c : In-loop-row) → c.loop-row.row * c.across-across.result + c.across-across.result < 4294967296
begun c =
    let w = c.args.window.now in
    let wide = c.across-across.result in
    let some : 0 < wide = omega (arith, c.across-across.ensures, some_across w c.requires.accepted) in
    let before = begins c.loop-row.row (length c.args.tiles.now) wide some
    (omega (arith, c.loop-row-test.true, c.div_ceil-row-end.ensures)) in
    omega (
      arith,
      before,
      c.across-across.ensures,
      few_across w c.requires.accepted,
      few_tiles w c.requires.accepted,
      c.requires.within,
    )

pub overflow_mul-start : goal.overflow_mul-start
overflow_mul-start c = omega (arith, begun c)

pub overflow_add-start : goal.overflow_add-start
overflow_add-start c = omega (arith, begun c)

pub offset_bounds-tiles-start : goal.offset_bounds-tiles-start
offset_bounds-tiles-start c = let few = (here c).few in omega (arith, few)

pub returns-then-first-across-ne0 : goal.returns-then-first-across-ne0
returns-then-first-across-ne0 c = grind (arith)

pub draw_row-requires-clause-index : goal.draw_row-requires-clause-index
draw_row-requires-clause-index c = assumption arith

pub slice_bounds-part-start : goal.slice_bounds-part-start
slice_bounds-part-start c = grind (arith, some_across)

pub same-swath : goal.same-swath
same-swath c = grind (arith)

pub nonzero_rem-first : goal.nonzero_rem-first
nonzero_rem-first c = grind (arith, some_across)

pub loop-row-init : goal.loop-row-init
loop-row-init c = grind (arith)

pub returns-in_default : goal.returns-in_default
returns-in_default c = grind (arith)

pub slice_bounds-part-count : goal.slice_bounds-part-count
slice_bounds-part-count c = grind (arith, some_across)
