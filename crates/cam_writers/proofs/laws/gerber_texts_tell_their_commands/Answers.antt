use Rattle.cam_writers.proofs.GerberReadingBack.{tells_its_commands}
use Rattle.cam_writers.proofs.laws.gerber_texts_tell_their_commands.Goals as goal

pub returns : goal.returns
returns c = tells_its_commands
