use Rattle.std.proofs.Common.{◌+◌, ◌*◌, ◌/◌, ◌<◌, length, max, min, slice_index, refl, arith}
use Rattle.cam_tiles.specs.Machinery.Inks.{Inked, Takes, in_box, words_of}
use Rattle.cam_tiles.proofs.BoxInks.{box_past, box_told, same_box}
use Rattle.cam_tiles.proofs.RunInks.{known_stays, takes_both, takes_done, takes_same}
use Rattle.cam_tiles.proofs.SwathInks.{some_ink}
use Rattle.cam_tiles.proofs.masks.inks.taking.take_box.Goals as goal

pub returns-then-end-columns : goal.returns-then-end-columns
returns-then-end-columns c =
    let n = length c.args.next.now in
    takes_done c.args.ink 0 n _ (words_of n c.args.decided.now c.args.dark.now) (λ row column low within on.
    let h = (box_told c.args.rows c.args.columns.first c.args.columns.end row column).0 on in
    absurd (omega (arith, h.1.0, h.1.1, within, c.min-end.ensures, c.if-end-columns.true)))

pub loop-tile-init : goal.loop-tile-init
loop-tile-init c = record {
  few = omega (arith, c.min-end.ensures, c.if-end-columns.false);
  near = omega arith;
  taken = λ polarity inked.
      let n = length c.args.next.now in
      takes_done polarity 0 n _ (words_of n c.args.decided.now c.args.dark.now) (λ row column low within on.
      let h = (box_told c.args.rows c.args.columns.first _ row column).0 on in absurd (omega (arith, h.1.0, h.1.1)));
}

-- tiles that are passed over
pub loop-tile-preserved-then-open-tile : goal.loop-tile-preserved-then-open-tile
loop-tile-preserved-then-open-tile c =
    let n = length c.args.next.now in
    let rows = c.args.rows in
    let first = c.args.columns.first in
    let end = c.min-end.result in
    let tile = c.loop-tile.tile in
    let old : Inked = words_of n c.args.decided.now c.args.dark.now in
    let now : Inked = words_of n c.loop-tile.decided c.loop-tile.dark in
    let so_far = c.loop-tile.invariant in
    let inside : tile < n = omega (arith, c.loop-tile-test.true, c.min-end.ensures) in
    let known = c.requires.known in
    record {
      few = known.within tile inside;
      near = omega (arith, so_far.near, c.if-open-tile.true);
      taken = λ polarity inked.
          let before = so_far.taken polarity inked in
          let to = slice_index c.args.next.now tile in
          takes_both polarity n (in_box rows first (min end (64 * tile))) (in_box rows (max first (64 * tile)) (min end (64 * to)))
          (in_box rows first (min end (64 * to))) old now now before
          (takes_done polarity 0 n (in_box rows (max first (64 * tile)) (min end (64 * to))) now (λ row column low within on.
          let h = (box_told rows (max first (64 * tile)) (min end (64 * to)) row column).0 on in
          let there = column / 64 in
          some_ink _ _ (known_stays polarity _ old now there 64 before (omega (arith, within)) (omega arith)
          (known.known tile there inside (omega (arith, h.1.0)) (omega (arith, h.1.1))) row column low refl)))
          (λ row column low within. box_past rows first end tile to row column (omega (arith, c.if-open-tile.true)));
    }

-- one that is taken
pub loop-tile-preserved : goal.loop-tile-preserved
loop-tile-preserved c =
    let n = length c.args.next.now in
    let rows = c.args.rows in
    let first = c.args.columns.first in
    let end = c.min-end.result in
    let tile = c.loop-tile.tile in
    let old : Inked = words_of n c.args.decided.now c.args.dark.now in
    let now : Inked = words_of n c.loop-tile.decided c.loop-tile.dark in
    let next : Inked = words_of n c.take_part_of_rows.new.decided c.take_part_of_rows.new.dark in
    let so_far = c.loop-tile.invariant in
    record {
      few = omega (arith, c.loop-tile-test.true, c.min-end.ensures);
      near = omega (arith, so_far.near);
      taken = λ polarity inked.
          let part : Takes 0 n (in_box rows (max first (64 * tile)) (min end (64 * (tile + 1)))) polarity now next =
          takes_same polarity n _ (in_box rows (max first (64 * tile)) (min end (64 * (tile + 1)))) now next
          (c.take_part_of_rows.ensures n polarity inked) (λ row column low within.
          same_box rows _ _ _ _ row column (
            (λ h. (omega (arith, h.0, c.max.ensures), omega (arith, h.1, c.min.ensures, c.loop-tile-test.true))),
            (λ h. (omega (arith, h.0, c.max.ensures), omega (arith, h.1, c.min.ensures, c.loop-tile-test.true))),
          )) in
          takes_both polarity n (in_box rows first (min end (64 * tile))) (in_box rows (max first (64 * tile)) (min end (64 * (tile + 1))))
          (in_box rows first (min end (64 * (tile + 1)))) old now next (so_far.taken polarity inked) part
          (λ row column low within. box_past rows first end tile (tile + 1) row column (omega arith));
    }

pub returns : goal.returns
returns c =
    let n = length c.args.next.now in
    let rows = c.args.rows in
    let first = c.args.columns.first in
    let end = c.min-end.result in
    let tile = c.loop-tile.tile in
    takes_same c.args.ink n (in_box rows first (min end (64 * tile))) (in_box rows first c.args.columns.end)
    (words_of n c.args.decided.now c.args.dark.now) (words_of n c.loop-tile.decided c.loop-tile.dark)
    (c.loop-tile.invariant.taken c.args.ink c.ink_word-ink.ensures) (λ row column low within.
    same_box rows first (min end (64 * tile)) first c.args.columns.end row column (
      (λ h. (h.0, omega (arith, h.1, c.min-end.ensures))),
      (λ h. (h.0, omega (arith, h.1, within, c.min-end.ensures, c.loop-tile-test.false))),
    ))
