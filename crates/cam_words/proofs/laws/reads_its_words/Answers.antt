use Rattle.cam_words.proofs.Cuttings.{reads_its_words}
use Rattle.cam_words.proofs.laws.reads_its_words.Goals as goal

pub returns : goal.returns
returns c = reads_its_words
