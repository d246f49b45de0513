use Rattle.std.proofs.Common.{ℕ, ◌<◌, ◌≤◌, slice_index}
use Rattle.cam_tiles.proofs.masks.runs.Runs.tiles.Given as goal

abbrev pub invariant-loop-row : goal.invariant-loop-row
invariant-loop-row l = (k : ℕ) → l.self.band.first ≤ k → k < l.row
    → (l.columns.first ≤ slice_index l.self.firsts k) × (slice_index l.self.ends k ≤ l.columns.end)
