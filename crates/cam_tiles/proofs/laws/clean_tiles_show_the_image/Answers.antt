use Rattle.std.proofs.Common.{arith}
use Rattle.cam_tiles.proofs.Pictures.{picture_law}
use Rattle.cam_tiles.proofs.laws.clean_tiles_show_the_image.Goals as goal

pub returns : goal.returns
returns c = grind (arith, picture_law)
