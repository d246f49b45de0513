use Rattle.cam_objects.proofs.TurningLemmas.{matrix_of-after}
use Rattle.cam_objects.proofs.laws.turns_follow_their_matrices.Goals as goal

pub returns : goal.returns
returns c = matrix_of-after
