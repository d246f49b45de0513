use Rattle.std.proofs.Common.{◌≡◌, ◌-◌, ◌/◌, ◌<◌, ◌≤◌, ℕ, true}
use Rattle.cam_tiles.specs.Machinery.Marks.{is_marked}
use Rattle.cam_tiles.proofs.masks.inks.Inks.is_decided.Given as goal

abbrev pub invariant-loop-tile : goal.invariant-loop-tile
invariant-loop-tile l =
    (row column : ℕ) → l.rows.first ≤ row → row < l.rows.end → l.columns.first ≤ column → column < l.columns.end
    → column / 64 < l.tile → is_marked l.fn.self.decided row column ≡ true

abbrev pub decreases-loop-tile : goal.decreases-loop-tile
decreases-loop-tile l = l.end - l.tile
