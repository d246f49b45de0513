use Rattle.std.proofs.Common.{◌≡◌, ◌+◌, ◌<◌, ℕ, List, [], Some, None, length, drop, get_or, ap, sym, subst, ◌∙◌, arith}
use Rattle.std.proofs.lemmas.List.{drop_all, get_or_default}
use Rattle.cam_tiles.specs.Tables.{Tile, all_drawn_from}
use Rattle.cam_tiles.specs.Tiles.{grid_of, tile_rows}
use Rattle.cam_tiles.proofs.DrawnTiles.{dirty}
use Rattle.cam_tiles.proofs.TileCounts.{few_tiles}
use Rattle.cam_tiles.proofs.TilesInOrder.{all_done, drawn_on, next_clean, next_dirty, none_yet, read_clean, read_dirty}
use Rattle.cam_tiles.proofs.TilesInOrder.{dirty_past_clean, dirty_past_dirty}
use Rattle.cam_tiles.proofs.painter.Painter.draw.Goals.{then-is_none, else-is_none}
use Rattle.cam_tiles.proofs.painter.Painter.draw.Goals as goal

pub tile-rows-requires-clause-room : goal.tile-rows-requires-clause-room
tile-rows-requires-clause-room g c =
    let now = c.loop-k.tiles in
    let within : c.loop-k.k < length now = omega arith in
    let read = read_dirty (get_or now c.loop-k.k None) c.is_none.result c.is_none.ensures c.if-is_none.true in
    omega (arith, dirty_past_dirty c.loop-k.k now [] within read, c.loop-k.invariant.asked, c.requires.room)

pub loop-k-init : goal.loop-k-init
loop-k-init g c = grind (arith, none_yet)

pub loop-k-preserved : goal.loop-k-preserved
loop-k-preserved g c =
    let draw : ℕ → List ℕ = λ k. tile_rows (g.Self.Painter.picture c.args.self.now) (grid_of c.args.window.now k) in
    let k = c.loop-k.k in
    let now = c.loop-k.tiles in
    let inv = c.loop-k.invariant in
    let first = c.args.first in
    let all = all_drawn_from draw first c.args.tiles.now in
    let total = g.Self.Painter.count c.args.self.now + dirty c.args.tiles.now in
    let within : k < length now = omega arith in
    elim c.if-is_none.branch [
      | then-is_none w ↦
          (let read = read_dirty (get_or now k None) c.is_none.result c.is_none.ensures w.if-is_none.true in
          let told = w.tile-rows.ensures in
          let rows : w.tile-rows.result ≡ draw (first + k) =
          told.rows ∙ ap (λ picture. tile_rows picture w.grid.result) inv.kept
          ∙ ap (tile_rows (g.Self.Painter.picture c.args.self.now)) w.grid.ensures.value in
          record {
            drawn = subst (λ (tiles : List Tile). all ≡ drawn_on draw first (k + 1) tiles) (sym w.tiles-is)
                (inv.drawn ∙ next_dirty draw first k now w.tile-rows.result within read rows);
            kept = ap g.Self.Painter.picture w.self-is ∙ told.kept ∙ inv.kept;
            asked = ap (λ tiles. g.Self.Painter.count c.if-is_none.self + dirty (drop (k + 1) tiles)) w.tiles-is
                ∙ omega (arith, ap g.Self.Painter.count w.self-is, told.asked, dirty_past_dirty k now w.tile-rows.result within read, inv.asked);
          })
      | else-is_none w ↦
          (let found = read_clean (get_or now k None) c.is_none.result c.is_none.ensures w.if-is_none.false in
          let read = get_or_default now k (Some found.0) None within ∙ found.1 in
          record {
            drawn = subst (λ (tiles : List Tile). all ≡ drawn_on draw first (k + 1) tiles) (sym w.tiles-is)
                (inv.drawn ∙ next_clean draw first k now found.0 within read);
            kept = ap g.Self.Painter.picture w.self-is ∙ inv.kept;
            asked = ap (λ tiles. g.Self.Painter.count c.if-is_none.self + dirty (drop (k + 1) tiles)) w.tiles-is
                ∙ omega (arith, ap g.Self.Painter.count w.self-is, dirty_past_clean k now found.0 within read, inv.asked);
          })
    ]

pub returns-clause-tiles : goal.returns-clause-tiles
returns-clause-tiles g c = grind (arith, all_done)

pub returns-clause-asked : goal.returns-clause-asked
returns-clause-asked g c = grind (arith, drop_all, dirty)

pub overflow_cast-k : goal.overflow_cast-k
overflow_cast-k g c = grind (arith, few_tiles)

pub overflow_add-first : goal.overflow_add-first
overflow_add-first g c = grind (arith, few_tiles)

pub bounds-tiles-k-then-is_none : goal.bounds-tiles-k-then-is_none
bounds-tiles-k-then-is_none c = grind (arith)
