use Rattle.std.proofs.Common.{ℕ, ◌+◌, ◌*◌, Bool}
use Rattle.cam_tiles.specs.Machinery.Inks.{IsInk, Takes, words_of}
use Rattle.cam_tiles.proofs.BoxInks.{in_box_above}
use Rattle.cam_tiles.proofs.masks.inks.taking.take_part_of_rows.Given as goal

abbrev pub invariant-loop-row : goal.invariant-loop-row
invariant-loop-row l =
    (tiles : ℕ) (polarity : Bool) → IsInk polarity l.ink
    → Takes 0 tiles (in_box_above l.fn.rows l.row (64 * l.tile + l.columns.first) (64 * l.tile + l.columns.end)) polarity
    (words_of tiles l.fn.decided l.fn.dark) (words_of tiles l.decided l.dark)
