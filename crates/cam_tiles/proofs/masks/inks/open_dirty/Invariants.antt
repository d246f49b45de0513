use Rattle.cam_tiles.proofs.OpenedWords.{AreOpenBefore}
use Rattle.cam_tiles.proofs.masks.inks.open_dirty.Given as goal

abbrev pub invariant-loop-tile : goal.invariant-loop-tile
invariant-loop-tile l = AreOpenBefore l.tile l.columns l.rows l.tiles l.fn.decided l.decided
