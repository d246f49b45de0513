use Rattle.cam_tiles.proofs.PictureLemmas.{plot_law}
use Rattle.cam_tiles.proofs.laws.plots_show_the_image.Goals as goal

pub returns : goal.returns
returns c = plot_law
