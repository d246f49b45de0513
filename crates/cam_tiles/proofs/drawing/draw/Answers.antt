use Rattle.std.proofs.Common.{◌≡◌, ◌+◌, ◌<◌, ℕ, List, Some, None, length, get_or, ap, sym, subst, ◌∙◌, arith}
use Rattle.std.proofs.lemmas.List.{get_or_default}
use Rattle.cam_tiles.proofs.TileCounts.{few_tiles}
use Rattle.cam_objects.specs.Tests.{is_black}
use Rattle.cam_tiles.specs.Machinery.Shown.{leaves_of}
use Rattle.cam_tiles.specs.Tables.{Tile, all_drawn_from}
use Rattle.cam_tiles.specs.Tiles.{grid_of, tile_rows}
use Rattle.cam_tiles.proofs.PartlyDrawn.{drawn_in_the_end}
use Rattle.cam_tiles.proofs.TilesInOrder.{all_done, drawn_on, next_clean, next_dirty, none_yet, read_clean, read_dirty}
use Rattle.cam_tiles.proofs.drawing.draw.Goals.{then-is_none, else-is_none}
use Rattle.cam_tiles.proofs.drawing.draw.Goals as goal

pub loop-k-init : goal.loop-k-init
loop-k-init c =
    let draw : ℕ → List ℕ = λ k. tile_rows (is_black (leaves_of c.args.shown.now)) (grid_of c.args.window.now k) in
    sym (drawn_in_the_end draw c.args.first _ _ c.draw_quickly.ensures) ∙ none_yet draw c.args.first c.draw_quickly.new.tiles

pub loop-k-preserved : goal.loop-k-preserved
loop-k-preserved c =
    let picture = is_black (leaves_of c.args.shown.now) in
    let draw : ℕ → List ℕ = λ k. tile_rows picture (grid_of c.args.window.now k) in
    let k = c.loop-k.k in
    let now = c.loop-k.tiles in
    let first = c.args.first in
    let all = all_drawn_from draw first c.args.tiles.now in
    let within : k < length now = omega arith in
    elim c.if-is_none.branch [
      | then-is_none w ↦
          (let read = read_dirty (get_or now k None) c.is_none.result c.is_none.ensures w.if-is_none.true in
          let rows : w.tile_of-rows.result ≡ draw (first + k) =
          w.tile_of-rows.ensures ∙ ap (tile_rows picture) w.grid.ensures.value in
          subst (λ (tiles : List Tile). all ≡ drawn_on draw first (k + 1) tiles) (sym w.tiles-is)
          (c.loop-k.invariant ∙ next_dirty draw first k now w.tile_of-rows.result within read rows))
      | else-is_none w ↦
          (let found = read_clean (get_or now k None) c.is_none.result c.is_none.ensures w.if-is_none.false in
          let read = get_or_default now k (Some found.0) None within ∙ found.1 in
          subst (λ (tiles : List Tile). all ≡ drawn_on draw first (k + 1) tiles) (sym w.tiles-is)
          (c.loop-k.invariant ∙ next_clean draw first k now found.0 within read))
    ]

pub returns : goal.returns
returns c =
    let draw : ℕ → List ℕ = λ k. tile_rows (is_black (leaves_of c.args.shown.now)) (grid_of c.args.window.now k) in
    sym (c.loop-k.invariant ∙ all_done draw c.args.first c.loop-k.k c.loop-k.tiles (omega arith))

pub overflow_cast-k : goal.overflow_cast-k
overflow_cast-k c = grind (arith, few_tiles)

pub overflow_add-first : goal.overflow_add-first
overflow_add-first c = grind (arith, few_tiles)

pub offset_bounds-tiles-k-then-is_none : goal.offset_bounds-tiles-k-then-is_none
offset_bounds-tiles-k-then-is_none c = grind (arith)

pub bounds-tiles-k-then-is_none : goal.bounds-tiles-k-then-is_none
bounds-tiles-k-then-is_none c = grind (arith)
