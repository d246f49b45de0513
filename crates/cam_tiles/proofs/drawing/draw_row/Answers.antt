use Rattle.std.proofs.Common.{ℕ, ◌+◌, ◌-◌, ap, arith}
use borrow.Rule.Slice.PartMut.{mid_of}
use Rattle.cam_objects.specs.Tests.{is_black}
use Rattle.cam_tiles.specs.Machinery.Levels.{levels_of}
use Rattle.cam_tiles.specs.Machinery.Shown.{leaves_of}
use Rattle.cam_tiles.specs.Machinery.Swaths.{IsRowOfTiles}
use Rattle.cam_tiles.specs.Tiles.{grid_of, tile_rows}
use Rattle.cam_tiles.proofs.DrawnSwaths.{all_columns, drawn_dirty, part_of_row}
use Rattle.cam_tiles.proofs.PartlyDrawn.{all_partly_drawn, none_partly_drawn, part_partly_drawn}
use Rattle.cam_tiles.proofs.TileCounts.{few_across, few_tiles}
use Rattle.cam_tiles.proofs.drawing.draw_row.Goals.{Else-dirty}
use Rattle.cam_tiles.proofs.drawing.draw_row.Goals as goal

pub dirty_among-dirty-requires : goal.dirty_among-dirty-requires
dirty_among-dirty-requires c =
    omega (arith, c.requires.row.fits, few_across c.args.window.now c.requires.accepted)

pub overflow_add-start : goal.overflow_add-start
overflow_add-start c =
    omega (
      arith,
      c.if-dirty.false,
      c.dirty_among-dirty.ensures.end,
      c.requires.row.within,
      few_tiles c.args.window.now c.requires.accepted,
    )

-- the tiles between which all dirty ones lie are tiles of the row
row : (c : Else-dirty) → IsRowOfTiles c.args.window.now (c.args.first + c.dirty_among-dirty.result.first)
    (mid_of c.dirty_among-dirty.result.first (c.dirty_among-dirty.result.end - c.dirty_among-dirty.result.first) c.args.tiles.now)
row c =
    part_of_row c.args.window.now c.args.first c.args.tiles.now c.requires.row c.dirty_among-dirty.result.first
    c.dirty_among-dirty.result.end (omega (arith, c.if-dirty.false)) c.dirty_among-dirty.ensures.end

pub turn_to-requires-clause-row : goal.turn_to-requires-clause-row
turn_to-requires-clause-row c = row (goal.at.turn_to-requires-clause-row c).Else-dirty

pub paint-requires-clause-tile : goal.paint-requires-clause-tile
paint-requires-clause-tile c =
    omega (arith, c.requires.row.within, c.if-dirty.false, c.dirty_among-dirty.ensures.end)

pub paint-requires-clause-rows : goal.paint-requires-clause-rows
paint-requires-clause-rows c = ap levels_of c.in_ok-turn_to.ensures.grid

pub put-requires : goal.put-requires
put-requires c =
    let first : ℕ = c.args.first + c.dirty_among-dirty.result.first in
    all_columns c.args.window.now first _ (row (goal.at.put-requires c).Else-dirty) c.requires.accepted c.turn_to.new.self
    c.paint.new.swath (leaves_of c.args.shown.now) c.in_ok-turn_to.ensures.grid c.in_ok-turn_to.ensures.columns
    c.in_ok-paint.ensures.painted

pub returns-clause-tiles : goal.returns-clause-tiles
returns-clause-tiles c =
    let w = c.args.window.now in
    let leaves = leaves_of c.args.shown.now in
    let start = c.dirty_among-dirty.result.first in
    let first : ℕ = c.args.first + start in
    let drawn = all_partly_drawn (λ k. tile_rows (is_black leaves) (grid_of w k)) first _ c.put.new.tiles
    (c.put.ensures (is_black leaves) (grid_of w) first
    (drawn_dirty w first _ (row (goal.at.returns-clause-tiles c).Else-dirty) c.requires.accepted c.turn_to.new.self
    c.paint.new.swath leaves c.in_ok-turn_to.ensures.grid c.in_ok-turn_to.ensures.columns c.in_ok-paint.ensures.painted
    c.in_ok-turn_to.ensures.open)) in
    part_partly_drawn _ c.args.first start _ c.args.tiles.now c.put.new.tiles
    (omega (arith, c.if-dirty.false, c.dirty_among-dirty.ensures.end)) drawn

pub returns-in_err-turn_to-clause-tiles : goal.returns-in_err-turn_to-clause-tiles
returns-in_err-turn_to-clause-tiles c =
    part_partly_drawn _ c.args.first c.dirty_among-dirty.result.first _ c.args.tiles.now _
    (omega (arith, c.if-dirty.false, c.dirty_among-dirty.ensures.end)) (none_partly_drawn _ _ _)

pub returns-in_err-paint-clause-tiles : goal.returns-in_err-paint-clause-tiles
returns-in_err-paint-clause-tiles c =
    part_partly_drawn _ c.args.first c.dirty_among-dirty.result.first _ c.args.tiles.now _
    (omega (arith, c.if-dirty.false, c.dirty_among-dirty.ensures.end)) (none_partly_drawn _ _ _)

pub returns-clause-index : goal.returns-clause-index
returns-clause-index c = grind (arith)

pub returns-then-dirty-clause-tiles : goal.returns-then-dirty-clause-tiles
returns-then-dirty-clause-tiles c = grind (arith)
