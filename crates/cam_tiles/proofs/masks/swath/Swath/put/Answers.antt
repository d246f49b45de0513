use Rattle.std.proofs.Common.{◌≡◌, ℕ, ◌+◌, ◌*◌, ◌/◌, ◌^◌, ◌<◌, ◌≤◌, ◌&&◌, List, [], length, get_or, None, Some, refl, sym, ap, subst, ◌∙◌, arith, rules}
use Rattle.std.proofs.lemmas.List.{get_or-set_other, get_or_default}
use Rattle.cam_tiles.specs.Machinery.Marks.{is_marked, is_set}
use Rattle.cam_tiles.specs.Machinery.Swaths.{Swathed}
use Rattle.cam_tiles.specs.Tables.{Tile}
use Rattle.cam_tiles.specs.Tiles.{tile_rows}
use Rattle.cam_tiles.proofs.SwathInks.{IsClearPast}
use Rattle.cam_tiles.proofs.SwathTiles.{rows_drawn}
use Rattle.cam_tiles.proofs.TilesInOrder.{all_done, drawn_on, next_clean, next_dirty, none_yet, read_clean, read_dirty}
use Rattle.cam_tiles.proofs.masks.swath.Swath.put.Goals.{then-is_none, else-is_none}
use Rattle.cam_tiles.proofs.masks.swath.Swath.put.Goals as goal

pub loop-k-init : goal.loop-k-init
loop-k-init c = record {
  drawn = λ image grid first shows. none_yet (λ k. tile_rows image (grid k)) first c.args.tiles.now;
  rest = λ j after. refl;
}

pub loop-k-preserved : goal.loop-k-preserved
loop-k-preserved c =
    let s = c.args.self.now in
    let old = c.args.tiles.now in
    let now = c.loop-k.tiles in
    let k = c.loop-k.k in
    let so_far = c.loop-k.invariant in
    let within : k < length now = omega (arith, c.loop-k.auto.tiles, c.loop-k-test.true) in
    let low = subst (λ (v : Swathed). v.grid.rows ≤ 64) c.self.view_is c.self.invariant.grid.rows.1 in
    let clear = subst (λ (v : Swathed). IsClearPast v.grid v.columns v.inks) c.self.view_is c.self.invariant.outside in
    let count = subst (λ (v : Swathed). v.inks.tiles ≡ (v.columns + 63) / 64) c.self.view_is c.self.invariant.tiles in
    let inside : k < s.inks.tiles = omega (arith, c.loop-k-test.true, c.requires, count) in
    elim c.if-is_none.branch [
      | then-is_none w ↦
          (let read = read_dirty (get_or now k None) c.is_none.result c.is_none.ensures w.if-is_none.true in
          let was : get_or old k (Some []) ≡ None =
          sym (so_far.rest k (omega arith)) ∙ get_or_default now k (Some []) None within ∙ read in
          record {
            drawn = λ image grid first shows.
                let there : k < length old = c.loop-k-test.true in
                let fits : (row : ℕ) → get_or w.rows.result row 0 < 2 ^ 64 = search rules in
                let rows = rows_drawn image s k (grid (first + k)) low clear inside
                (λ column row. shows.pixels k column row there) (λ column row. shows.places k column row there)
                (λ column row there here. shows.inks column row there (ap (λ j. get_or old j (Some [])) here ∙ was))
                w.rows.result w.rows.ensures.size fits
                (subst (λ (v : Swathed). (row i : ℕ) → row < 64 → i < 64 → is_set (get_or w.rows.result row 0) i
                ≡ (is_marked v.inks.decided row (64 * k + i) && is_marked v.inks.dark row (64 * k + i)))
                c.self.view_is w.rows.ensures.each) in
                so_far.drawn image grid first shows
                ∙ next_dirty (λ k. tile_rows image (grid k)) first k now w.rows.result within read rows
                ∙ ap (drawn_on (λ k. tile_rows image (grid k)) first (k + 1)) (sym w.tiles-is);
            rest = λ j after. ap (λ (ts : List Tile). get_or ts j (Some [])) w.tiles-is
                ∙ get_or-set_other now k j (Some w.rows.result) (Some []) (λ same. omega arith)
                ∙ so_far.rest j (omega arith);
          })
      | else-is_none w ↦
          (let found = read_clean (get_or now k None) c.is_none.result c.is_none.ensures w.if-is_none.false in
          let read = get_or_default now k (Some found.0) None within ∙ found.1 in
          record {
            drawn = λ image grid first shows. so_far.drawn image grid first shows
                ∙ next_clean (λ k. tile_rows image (grid k)) first k now found.0 within read
                ∙ ap (drawn_on (λ k. tile_rows image (grid k)) first (k + 1)) (sym w.tiles-is);
            rest = λ j after. ap (λ (ts : List Tile). get_or ts j (Some [])) w.tiles-is ∙ so_far.rest j (omega arith);
          })
    ]

pub returns : goal.returns
returns c = λ image grid first shows.
    sym (c.loop-k.invariant.drawn image grid first shows
    ∙ all_done (λ k. tile_rows image (grid k)) first c.loop-k.k c.loop-k.tiles (omega (arith, c.loop-k.auto.tiles, c.loop-k-test.false)))
