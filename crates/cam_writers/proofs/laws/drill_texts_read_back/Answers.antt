use Rattle.cam_writers.proofs.ReadingBack.{reads_back}
use Rattle.cam_writers.proofs.laws.drill_texts_read_back.Goals as goal

pub returns : goal.returns
returns c = reads_back
