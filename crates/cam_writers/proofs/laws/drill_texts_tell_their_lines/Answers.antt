use Rattle.cam_writers.proofs.ReadingBack.{tells_its_lines}
use Rattle.cam_writers.proofs.laws.drill_texts_tell_their_lines.Goals as goal

pub returns : goal.returns
returns c = tells_its_lines
