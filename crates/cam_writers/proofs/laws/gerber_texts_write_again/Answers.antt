use Rattle.cam_writers.proofs.GerberReadingBack.{gerber_writes_again}
use Rattle.cam_writers.proofs.laws.gerber_texts_write_again.Goals as goal

pub returns : goal.returns
returns c = gerber_writes_again
