use Rattle.cam_words.proofs.Cuttings.{at_most_one_cutting}
use Rattle.cam_words.proofs.laws.at_most_one_cutting.Goals as goal

pub returns : goal.returns
returns c = at_most_one_cutting
