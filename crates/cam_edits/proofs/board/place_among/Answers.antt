use Rattle.std.proofs.Common.{arith}
use Rattle.cam_edits.proofs.board.place_among.Goals as goal

pub returns-clause-within : goal.returns-clause-within
returns-clause-within c = grind (arith)
