use Rattle.std.proofs.Common.{subst, arith}
use Rattle.cam_writers.specs.Machinery.Tracking.{ArePoints}
use Rattle.cam_writers.proofs.gerber_state.GerberText.write_object.Goals as goal

pub write_contour-requires : goal.write_contour-requires
write_contour-requires c = subst ArePoints c.in-Region.is c.requires

pub returns-in_ok-start_at-in-Draw : goal.returns-in_ok-start_at-in-Draw
returns-in_ok-start_at-in-Draw c = grind (arith)

pub returns-in_ok-start_at-in-Arc : goal.returns-in_ok-start_at-in-Arc
returns-in_ok-start_at-in-Arc c = grind (arith)

pub returns-in_ok-select-in-Flash : goal.returns-in_ok-select-in-Flash
returns-in_ok-select-in-Flash c = grind (arith)

pub plot_arc-requires-clause-centre : goal.plot_arc-requires-clause-centre
plot_arc-requires-clause-centre c = grind (arith)

pub plot_arc-requires-clause-from : goal.plot_arc-requires-clause-from
plot_arc-requires-clause-from c = grind (arith)

pub returns-in_ok-set_polarity-in-Region : goal.returns-in_ok-set_polarity-in-Region
returns-in_ok-set_polarity-in-Region c = grind (arith)
