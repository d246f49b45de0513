use Rattle.cam_objects.proofs.Topmost.{topmost_law}
use Rattle.cam_objects.proofs.laws.topmost_items_make_the_image.Goals as goal

pub returns : goal.returns
returns c = topmost_law
