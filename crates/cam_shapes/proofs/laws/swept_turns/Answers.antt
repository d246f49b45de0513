use Rattle.cam_shapes.proofs.SweptWays.{turn}
use Rattle.cam_shapes.proofs.laws.swept_turns.Goals as goal

pub returns : goal.returns
returns c = turn
