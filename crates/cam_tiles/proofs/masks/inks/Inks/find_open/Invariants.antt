use Rattle.std.proofs.Common.{◌≡◌, ℕ, ◌-◌, ◌<◌, ◌≤◌}
use Rattle.cam_tiles.specs.Machinery.Inks.{IsDoneTile}
use Rattle.cam_tiles.proofs.masks.inks.Inks.find_open.Given as goal

abbrev pub invariant-loop-tile : goal.invariant-loop-tile
invariant-loop-tile l = record {
  same : l.self ≡ l.fn.self;
  after : l.from ≤ l.tile;
  few : l.tile ≤ l.fn.self.tiles;
  done : (tile : ℕ) → l.from ≤ tile → tile < l.tile → IsDoneTile l.fn.self tile;
}

abbrev pub decreases-loop-tile : goal.decreases-loop-tile
decreases-loop-tile l = l.fn.self.tiles - l.tile
