use Rattle.std.proofs.Common.{◌≡◌, ◌-◌}
use Rattle.cam_tiles.proofs.masks.inks.Inks.look.Given as goal

abbrev pub invariant-loop-tile : goal.invariant-loop-tile
invariant-loop-tile l = l.self ≡ l.fn.self

abbrev pub decreases-loop-tile : goal.decreases-loop-tile
decreases-loop-tile l = l.end - l.tile
