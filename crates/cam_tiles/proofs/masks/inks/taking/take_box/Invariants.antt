use Rattle.std.proofs.Common.{◌+◌, ◌*◌, ◌-◌, ◌<◌, ◌≤◌, Bool, length, min}
use Rattle.cam_tiles.specs.Machinery.Inks.{IsInk, Takes, in_box, words_of}
use Rattle.cam_tiles.proofs.masks.inks.taking.take_box.Given as goal

abbrev pub invariant-loop-tile : goal.invariant-loop-tile
invariant-loop-tile l = record {
  few : l.tile ≤ length l.next;
  near : l.fn.columns.first < 64 * l.tile + 64;
  taken : (polarity : Bool) → IsInk polarity l.ink
      → Takes 0 (length l.next) (in_box l.fn.rows l.fn.columns.first (min l.end (64 * l.tile))) polarity
      (words_of (length l.next) l.fn.decided l.fn.dark) (words_of (length l.next) l.decided l.dark);
}

abbrev pub decreases-loop-tile : goal.decreases-loop-tile
decreases-loop-tile l = length l.next - l.tile
