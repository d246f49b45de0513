use Rattle.cam_script.proofs.Insertions.{words_read_back_lem}
use Rattle.cam_script.proofs.laws.words_read_back.Goals as goal

pub returns : goal.returns
returns c = words_read_back_lem
