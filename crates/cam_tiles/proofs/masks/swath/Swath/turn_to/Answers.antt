use Rattle.std.proofs.Common.{◌≡◌, ◌-◌, ◌*◌, ◌%◌, length, min, refl, sym, ap, subst, ◌∙◌, arith}
use Rattle.cam_tiles.specs.declared.grid.Grid.{Grid}
use Rattle.cam_tiles.specs.declared.masks.swath.Swath.TheInside.{Inside}
use Rattle.cam_tiles.specs.Machinery.Runs.{IsWideGrid}
use Rattle.cam_tiles.specs.Machinery.Swaths.{IsSwath, columns_of}
use Rattle.cam_tiles.specs.Tiles.{IsGrid}
use Rattle.cam_tiles.proofs.GridLemmas.{left_within}
use Rattle.cam_tiles.proofs.SwathTiles.{clear_past_open, dirty_open, row_is_wide, tiles_taken_up}
use Rattle.cam_tiles.proofs.TileCounts.{few_across}
use Rattle.cam_tiles.proofs.WindowLemmas.{accepted}
use Rattle.cam_tiles.proofs.masks.swath.Swath.turn_to.Goals.{After-min-columns}
use Rattle.cam_tiles.proofs.masks.swath.Swath.turn_to.Goals as goal

pub overflow_mul-left : goal.overflow_mul-left
overflow_mul-left c =
    let w = c.args.window.now in
    let limits = accepted w c.requires.accepted in
    let from = left_within w c.args.first limits.width.0 in
    omega (arith, ap (λ n. 64 * (c.args.first % n)) c.across.ensures, from, limits.width.1)

pub overflow_mul-tiles : goal.overflow_mul-tiles
overflow_mul-tiles c =
    let few = few_across c.args.window.now c.requires.accepted in
    omega (arith, few, c.requires.row.fits)

pub turn_to-requires-clause-few : goal.turn_to-requires-clause-few
turn_to-requires-clause-few c =
    let few = few_across c.args.window.now c.requires.accepted in
    omega (arith, few, c.requires.row.fits)

-- the columns
columns_are : (c : After-min-columns) → c.min-columns.result ≡ columns_of c.args.window.now c.args.first (length c.args.tiles.now)
columns_are c =
    c.min-columns.ensures
    ∙ ap (λ n. min (c.args.window.now.width - 64 * (c.args.first % n)) (64 * length c.args.tiles.now)) c.across.ensures

pub wide_bounds-self-inside-requires : goal.wide_bounds-self-inside-requires
wide_bounds-self-inside-requires c =
    let w = c.args.window.now in
    let first = c.args.first in
    subst (λ (g : Grid). IsWideGrid g c.min-columns.result) (sym c.grid-grid.ensures.value)
    (row_is_wide w first c.min-columns.result c.args.tiles.now c.requires.accepted c.requires.row
    (columns_are (goal.at.wide_bounds-self-inside-requires c).After-min-columns))

pub invariant_of-self-2 : goal.invariant_of-self-2
invariant_of-self-2 c =
    let w = c.args.window.now in
    let tiles = c.args.tiles.now in
    let columns = c.min-columns.result in
    let are = columns_are (goal.at.invariant_of-self-2 c).After-min-columns in
    let limits = accepted w c.requires.accepted in
    let now = c.in_ok-turn_to.ensures.open in
    let wide = subst (λ (g : Grid). IsWideGrid g columns) (sym c.grid-grid.ensures.value)
    (row_is_wide w c.args.first columns tiles c.requires.accepted c.requires.row are) in
    record {
      grid = c.grid-grid.ensures.grid;
      wide = λ some. wide;
      few = wide.count.1;
      tiles = now.tiles ∙ tiles_taken_up w c.args.first columns tiles c.requires.accepted c.requires.row are;
      marks = omega (arith, now.tiles, c.in_ok-resize.ensures.len);
      spare = omega (arith, now.tiles, c.in_ok-resize-2.ensures.len);
      held = c.wide_bounds-self-inside.ensures;
      outside = clear_past_open tiles columns c.grid-grid.result.rows c.turn_to.new.self now c.grid-grid.result refl;
    }

pub returns-clause-open : goal.returns-clause-open
returns-clause-open c = λ column row inside.
    dirty_open c.args.tiles.now c.min-columns.result c.grid-grid.result.rows c.turn_to.new.self c.in_ok-turn_to.ensures.open
    row column inside.1 inside.0 c.grid-grid.ensures.grid.rows.1 (omega (arith, c.min-columns.ensures))

-- without a column or a tile it is one, whatever else it holds
no_columns : (s : Inside) → IsGrid s.grid → s.columns ≡ 0 → s.inks.tiles ≡ 0 → IsSwath s
no_columns s grid columns tiles = record {
  grid = grid;
  wide = λ some. absurd (omega (arith, some, columns));
  few = omega (arith, columns);
  tiles = omega (arith, columns, tiles);
  marks = omega (arith, tiles);
  spare = omega (arith, tiles);
  held = λ column row inside below. absurd (omega (arith, inside, columns));
  outside = λ row column below there out. absurd (omega (arith, there, tiles));
}

pub invariant_of-self : goal.invariant_of-self
invariant_of-self c = no_columns _ c.self.invariant.grid refl c.clear.ensures

pub invariant_of-self-in_err-resize-2 : goal.invariant_of-self-in_err-resize-2
invariant_of-self-in_err-resize-2 c = no_columns _ c.self.invariant.grid refl c.clear.ensures

pub invariant_of-self-in_err-turn_to : goal.invariant_of-self-in_err-turn_to
invariant_of-self-in_err-turn_to c = no_columns _ c.self.invariant.grid refl c.in_err-turn_to.ensures.none

pub returns-clause-columns : goal.returns-clause-columns
returns-clause-columns c = grind (arith)

pub returns-clause-grid : goal.returns-clause-grid
returns-clause-grid c = assumption arith
