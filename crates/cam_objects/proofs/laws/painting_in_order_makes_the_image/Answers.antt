use Rattle.cam_objects.proofs.TestLaws.{black_law}
use Rattle.cam_objects.proofs.laws.painting_in_order_makes_the_image.Goals as goal

pub returns : goal.returns
returns c = black_law
