use Rattle.cam_tiles.proofs.OpenedWords.{AreOpened}
use Rattle.cam_tiles.proofs.masks.inks.open.Given as goal

abbrev pub invariant-loop-row : goal.invariant-loop-row
invariant-loop-row l = AreOpened l.tile l.columns l.row l.fn.decided l.decided
