use Rattle.cam_tiles.proofs.PlotLemmas.{one_plot_law}
use Rattle.cam_tiles.proofs.laws.one_file_shows_the_image.Goals as goal

pub returns : goal.returns
returns c = one_plot_law
