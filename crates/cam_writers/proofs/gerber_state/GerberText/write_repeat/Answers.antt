use Rattle.std.proofs.Common.{arith}
use Rattle.cam_writers.specs.Phrases.{spelled}
use Rattle.cam_writers.proofs.GerberTracks.{written}
use Rattle.cam_writers.proofs.Walks.{on_ok}
use Rattle.cam_writers.proofs.gerber_state.GerberText.write_repeat.Goals as goal

pub returns : goal.returns
unfolding spelled
returns c = λ phrases h. grind (arith, written, on_ok)
