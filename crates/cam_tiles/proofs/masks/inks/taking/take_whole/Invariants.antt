use Rattle.std.proofs.Common.{◌*◌, ◌-◌, ◌≤◌, Bool, length}
use Rattle.cam_tiles.specs.Machinery.Inks.{IsInk, Takes, in_row, words_of}
use Rattle.cam_tiles.proofs.masks.inks.taking.take_whole.Given as goal

abbrev pub invariant-loop-tile : goal.invariant-loop-tile
invariant-loop-tile l = record {
  order : l.first ≤ l.tile;
  until : l.tile ≤ l.end;
  taken : (polarity : Bool) → IsInk polarity l.ink
      → Takes 0 (length l.next) (in_row l.row (64 * l.first) (64 * l.tile)) polarity
      (words_of (length l.next) l.fn.decided l.fn.dark) (words_of (length l.next) l.decided l.dark);
}

abbrev pub decreases-loop-tile : goal.decreases-loop-tile
decreases-loop-tile l = l.end - l.tile
