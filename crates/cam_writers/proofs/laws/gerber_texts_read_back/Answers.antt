use Rattle.cam_writers.proofs.GerberReadingBack.{gerber_reads_back}
use Rattle.cam_writers.proofs.laws.gerber_texts_read_back.Goals as goal

pub returns : goal.returns
returns c = gerber_reads_back
