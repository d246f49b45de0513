use Rattle.cam_objects.proofs.LastInks.{last_law}
use Rattle.cam_objects.proofs.laws.last_leaves_make_the_image.Goals as goal

pub returns : goal.returns
returns c = last_law
