use Rattle.cam_writers.proofs.ReadingBack.{writes_again}
use Rattle.cam_writers.proofs.laws.drill_texts_write_again.Goals as goal

pub returns : goal.returns
returns c = writes_again
