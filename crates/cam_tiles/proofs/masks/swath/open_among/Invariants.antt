use Rattle.std.proofs.Common.{◌-◌, ◌≡◌, ◌<◌, ◌≤◌, ℕ}
use Rattle.cam_tiles.specs.Machinery.Inks.{IsDoneTile}
use Rattle.cam_tiles.proofs.masks.swath.open_among.Given as goal

abbrev pub invariant-loop-end : goal.invariant-loop-end
invariant-loop-end l = record {
  kept : l.inks ≡ l.fn.inks;
  high : l.end ≤ l.fn.tiles.end;
  done : (tile : ℕ) → l.end ≤ tile → tile < l.fn.tiles.end → IsDoneTile l.fn.inks tile;
}

abbrev pub decreases-loop-end : goal.decreases-loop-end
decreases-loop-end l = l.end - l.first
