use Rattle.cam_macros.proofs.OneReading.{one_tree}
use Rattle.cam_macros.proofs.laws.texts_have_one_tree.Goals as goal

pub returns : goal.returns
returns c = one_tree
