use Rattle.std.proofs.Common.{ℕ, ◌<◌, ◌≤◌}
use Rattle.cam_tiles.specs.Machinery.Runs.{AreAlike}
use Rattle.cam_tiles.proofs.masks.runs.Runs.are_box.Given as goal

abbrev pub invariant-loop-row : goal.invariant-loop-row
invariant-loop-row l =
    (row : ℕ) → l.self.band.first ≤ row → row < l.row → AreAlike l.self l.self.band.first row
