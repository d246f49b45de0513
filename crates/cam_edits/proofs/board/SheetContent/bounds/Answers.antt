use Rattle.std.proofs.Common.{arith}
use Rattle.cam_edits.proofs.board.SheetContent.bounds.Goals as goal

pub bounds-requires : goal.bounds-requires
bounds-requires c = grind (arith)
