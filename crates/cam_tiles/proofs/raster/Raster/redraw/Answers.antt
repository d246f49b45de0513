use Rattle.std.proofs.Common.{◌≡◌, ◌≤◌, ◌-◌, List, length, take, ap, sym, ◌∙◌, arith}
use Rattle.std.specs.Vec.{with_items}
use Rattle.std.proofs.lemmas.List.{with_items_is}
use Rattle.cam_tiles.proofs.TileCounts.{some_across}
use Rattle.cam_tiles.specs.Machinery.Kept.{table_of}
use Rattle.cam_tiles.specs.Tables.{Table, Tile, redrawn}
use Rattle.cam_tiles.proofs.DrawnTiles.{clean_before, clean_first, dirty, redrawn_is}
use Rattle.cam_tiles.proofs.raster.Raster.redraw.Goals.{then-self-eq0, else-self-eq0}
use Rattle.cam_tiles.proofs.raster.Raster.redraw.Goals as goal

pub draw_between-requires-clause-clean : goal.draw_between-requires-clause-clean
draw_between-requires-clause-clean g c = grind (arith, dirty, clean_before)

pub invariant_of-self : goal.invariant_of-self
invariant_of-self g c =
    let raster = c.self.inside in
    let was = c.deref_mut.ensures.value in
    let told = redrawn_is (g.P.Painter.picture c.args.painter.now) c.args.at_most c.min-drawn.result
    c.end_of_first-end.result raster.dirty (table_of raster) c.deref-2.result.now c.deref_mut.result.now _ c.min-drawn.ensures
    c.self.invariant.counted c.deref-2.ensures.value was c.end_of_first-end.ensures.first c.draw_between.ensures.tiles in
    let items = with_items_is raster.tiles _ (told.size ∙ sym (ap length was) ∙ c.deref_mut.ensures.len) in
    let counted = ap (λ n. n - c.min-drawn.result) c.self.invariant.counted ∙ sym (ap dirty items ∙ told.left) in
    let begun : (c.if-self-eq0.self ≤ length (with_items raster.tiles c.draw_between.new.tiles).items)
    × (dirty (take c.if-self-eq0.self (with_items raster.tiles c.draw_between.new.tiles).items) ≡ 0) =
    elim c.if-self-eq0.branch [
      | then-self-eq0 w ↦ (
        omega (arith, w.self-is, w.len-self-inside.ensures, c.deref_mut.ensures.len, ap length was, told.size, ap length items),
        clean_first _ c.if-self-eq0.self (sym counted ∙ w.if-self-eq0.true),
      )
      | else-self-eq0 w ↦ (
        omega (arith, w.self-is, c.end_of_first-end.ensures.within, ap length c.deref-2.ensures.value, told.size, ap length items),
        ap dirty (ap (take c.if-self-eq0.self) items ∙ ap (λ n. take n c.draw_between.new.tiles) w.self-is) ∙ told.clean,
      )
    ] in
    record {
      table = record {
        accepted = c.self.invariant.table.accepted;
        full = ap length items ∙ told.size ∙ c.self.invariant.table.full;
      };
      wide = c.self.invariant.wide;
      counted = counted;
      few = begun.0;
      clean = begun.1;
    }

pub returns-clause-tiles : goal.returns-clause-tiles
returns-clause-tiles g c =
    let image = g.P.Painter.picture c.args.painter.now in
    let raster = c.self.inside in
    let was = c.deref_mut.ensures.value in
    let told = redrawn_is image c.args.at_most c.min-drawn.result c.end_of_first-end.result raster.dirty (table_of raster)
    c.deref-2.result.now c.deref_mut.result.now _ c.min-drawn.ensures c.self.invariant.counted c.deref-2.ensures.value was
    c.end_of_first-end.ensures.first c.draw_between.ensures.tiles in
    let table : List Tile → Table = λ tiles. record { window = raster.window; tiles = tiles } in
    let items = with_items_is raster.tiles _ (told.size ∙ sym (ap length was) ∙ c.deref_mut.ensures.len) in
    ap table (items ∙ told.as_many) ∙ ap (redrawn image c.args.at_most) c.self.view_is

pub returns-clause-drawn : goal.returns-clause-drawn
returns-clause-drawn c = grind (arith)

pub returns-clause-asked : goal.returns-clause-asked
returns-clause-asked c = grind (arith)

pub nonzero_rem-start : goal.nonzero_rem-start
nonzero_rem-start c = grind (arith, some_across)
