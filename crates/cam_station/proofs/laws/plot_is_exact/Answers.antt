use Rattle.cam_station.proofs.PlotLaws.{exact_plot}
use Rattle.cam_station.proofs.laws.plot_is_exact.Goals as goal

pub returns : goal.returns
returns c = exact_plot
