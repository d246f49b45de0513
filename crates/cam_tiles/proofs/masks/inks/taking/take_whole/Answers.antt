use Rattle.std.proofs.Common.{◌≡◌, ◌+◌, ◌*◌, ◌/◌, length, refl, arith}
use Rattle.cam_tiles.specs.Machinery.Inks.{Inked, Takes, in_row, words_of}
use Rattle.cam_tiles.proofs.RunInks.{known_stays, row_told, same_columns, takes_both, takes_done, takes_same, two_parts}
use Rattle.cam_tiles.proofs.SwathInks.{some_ink}
use Rattle.cam_tiles.proofs.masks.inks.taking.take_whole.Goals as goal

pub loop-tile-init : goal.loop-tile-init
loop-tile-init c = grind (arith, takes_done, row_told)

-- tiles that are passed over
pub loop-tile-preserved-then-open-tile : goal.loop-tile-preserved-then-open-tile
loop-tile-preserved-then-open-tile c =
    let n = length c.args.next.now in
    let of = c.args.row in
    let first = c.args.tiles.first in
    let tile = c.loop-tile.tile in
    let to = c.min-tile.result in
    let old : Inked = words_of n c.args.decided.now c.args.dark.now in
    let now : Inked = words_of n c.loop-tile.decided c.loop-tile.dark in
    let so_far = c.loop-tile.invariant in
    record {
      order = omega (arith, so_far.order, c.if-open-tile.true, c.loop-tile-test.true);
      until = omega arith;
      taken = λ polarity inked.
          let before = so_far.taken polarity inked in
          takes_both polarity n (in_row of (64 * first) (64 * tile)) (in_row of (64 * tile) (64 * to)) (in_row of (64 * first) (64 * to))
          old now now before
          (takes_done polarity 0 n (in_row of (64 * tile) (64 * to)) now (λ row column low within on.
          let h = (row_told of (64 * tile) (64 * to) row column).0 on in
          let there = column / 64 in
          some_ink _ _ (known_stays polarity _ old now there 64 before (omega (arith, within)) (omega arith)
          (c.requires.known.known tile there (omega (arith, c.loop-tile-test.true, c.requires.end)) (omega (arith, h.1.0))
          (omega (arith, h.1.1))) row column low refl)))
          (λ row column low within.
          two_parts of row column (64 * first) (64 * tile) (64 * to) (omega (arith, so_far.order))
          (omega (arith, c.if-open-tile.true, c.loop-tile-test.true)));
    }

-- one that is taken
pub loop-tile-preserved : goal.loop-tile-preserved
loop-tile-preserved c =
    let n = length c.args.next.now in
    let of = c.args.row in
    let first = c.args.tiles.first in
    let tile = c.loop-tile.tile in
    let old : Inked = words_of n c.args.decided.now c.args.dark.now in
    let now : Inked = words_of n c.loop-tile.decided c.loop-tile.dark in
    let next : Inked = words_of n c.take_part.new.decided c.take_part.new.dark in
    let so_far = c.loop-tile.invariant in
    record {
      order = omega (arith, so_far.order);
      until = omega (arith, c.loop-tile-test.true);
      taken = λ polarity inked.
          let part : Takes 0 n (in_row of (64 * tile) (64 * (tile + 1))) polarity now next =
          takes_same polarity n (in_row of (64 * tile + 0) (64 * tile + 64)) (in_row of (64 * tile) (64 * (tile + 1))) now next
          (c.take_part.ensures n polarity inked) (λ row column low within.
          same_columns of row column (64 * tile + 0) (64 * tile + 64) (64 * tile) (64 * (tile + 1)) (
            (λ h. (omega (arith, h.0), omega (arith, h.1))),
            (λ h. (omega (arith, h.0), omega (arith, h.1))),
          )) in
          takes_both polarity n (in_row of (64 * first) (64 * tile)) (in_row of (64 * tile) (64 * (tile + 1)))
          (in_row of (64 * first) (64 * (tile + 1))) old now next (so_far.taken polarity inked) part
          (λ row column low within.
          two_parts of row column (64 * first) (64 * tile) (64 * (tile + 1)) (omega (arith, so_far.order)) (omega arith));
    }

pub returns : goal.returns
returns c = λ polarity inked.
    let n = length c.args.next.now in
    let of = c.args.row in
    let first = c.args.tiles.first in
    let tile = c.loop-tile.tile in
    let end = c.args.tiles.end in
    let so_far = c.loop-tile.invariant in
    let same : tile ≡ end = omega (arith, so_far.until, c.loop-tile-test.false) in
    rw same at so_far.taken polarity inked
