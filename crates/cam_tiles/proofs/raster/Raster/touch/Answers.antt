use Rattle.std.proofs.Common.{◌≡◌, ◌%◌, ◌/◌, ◌&&◌, ℕ, Bool, cond, count_by, get_or, length, take, sym, ap, ◌∙◌, arith}
use Rattle.std.specs.Prelude.{None, is_none}
use Rattle.std.proofs.lemmas.List.{with_items_is}
use Rattle.std.proofs.lemmas.List.Sums.{count_by-le-length}
use Rattle.cam_tiles.specs.Machinery.Kept.{table_of}
use Rattle.cam_tiles.specs.Machinery.Spans.{is_in_span}
use Rattle.cam_tiles.specs.Touched.{box_touched}
use Rattle.cam_tiles.proofs.TileCounts.{few_tiles, some_across}
use Rattle.cam_tiles.proofs.DrawnTiles.{dirty}
use Rattle.cam_tiles.proofs.WipedTiles.{still_clean, touched_empty, touched_spans}
use Rattle.cam_tiles.proofs.raster.Raster.touch.Goals as goal

pub returns-in_default : goal.returns-in_default
returns-in_default c =
    sym (touched_empty c.args.self.now) ∙ ap (λ box. box_touched box c.args.self.now) (sym c.in_default.is)

pub overflow_add-self : goal.overflow_add-self
overflow_add-self c =
    let kept = c.self.invariant in
    let full : length c.wipe.new.tiles ≡ length c.deref_mut.result.now = omega arith in
    omega (
      arith,
      kept.counted,
      c.wipe.ensures.count,
      ap (count_by is_none) c.deref_mut.ensures.value,
      count_by-le-length is_none c.wipe.new.tiles,
      full,
      ap length c.deref_mut.ensures.value,
      kept.table.full,
      few_tiles c.self.inside.window kept.table.accepted,
    )

pub invariant_of-self : goal.invariant_of-self
invariant_of-self c =
    let kept = c.self.invariant in
    let first = c.first_in-self-inside in
    let was = c.deref_mut.result.now in
    let full : length c.wipe.new.tiles ≡ length was = omega arith in
    let now = with_items_is c.self.inside.tiles c.wipe.new.tiles (full ∙ c.deref_mut.ensures.len) in
    let size = ap length now ∙ full ∙ ap length c.deref_mut.ensures.value in
    record {
      table = record {
        accepted = kept.table.accepted;
        full = size ∙ kept.table.full;
      };
      wide = kept.wide;
      counted = omega (arith, kept.counted, c.wipe.ensures.count, ap dirty now, ap dirty c.deref_mut.ensures.value);
      few = omega (arith, first.ensures.few, kept.few, size);
      clean = ap (λ tiles. dirty (take first.result tiles)) now
          ∙ still_clean was c.wipe.new.tiles c.self.inside.clean first.result full first.ensures.few
          (ap (λ tiles. dirty (take c.self.inside.clean tiles)) c.deref_mut.ensures.value ∙ kept.clean)
          (λ k before. c.wipe.ensures.each k
          ∙ ap (λ b. cond b None (get_or was k None)) (first.ensures.none k before));
    }

pub returns : goal.returns
returns c =
    let kept = c.self.inside in
    let columns = c.columns_between-columns in
    let rows = c.rows_between-rows in
    let here : ℕ → Bool = λ k.
    is_in_span columns.result (k % kept.across) && is_in_span rows.result (k / kept.across) in
    let full : length c.wipe.new.tiles ≡ length c.deref_mut.result.now = omega arith in
    ap (λ tiles. record { window = kept.window; tiles = tiles })
    (with_items_is kept.tiles c.wipe.new.tiles (full ∙ c.deref_mut.ensures.len))
    ∙ touched_spans (table_of kept) c.in-Closed.low c.in-Closed.high columns.result rows.result kept.across
    c.wipe.new.tiles c.self.invariant.table columns.ensures.each rows.ensures.each c.self.invariant.wide
    (full ∙ ap length c.deref_mut.ensures.value)
    (λ k. c.wipe.ensures.each k ∙ ap (λ tiles. cond (here k) None (get_or tiles k None)) c.deref_mut.ensures.value)
    ∙ ap (λ box. box_touched box (table_of kept)) (sym c.in-Closed.is)
    ∙ ap (box_touched c.args.bounds) c.self.view_is

pub wipe-requires-clause-wide : goal.wipe-requires-clause-wide
wipe-requires-clause-wide c = grind (arith, few_tiles, some_across)

pub wipe-requires-clause-few : goal.wipe-requires-clause-few
wipe-requires-clause-few c = grind (arith, few_tiles, some_across)

pub wipe-requires-clause-above : goal.wipe-requires-clause-above
wipe-requires-clause-above c = grind (arith, few_tiles, some_across)

pub first_in-self-inside-requires : goal.first_in-self-inside-requires
first_in-self-inside-requires c = grind (arith, few_tiles, some_across)
