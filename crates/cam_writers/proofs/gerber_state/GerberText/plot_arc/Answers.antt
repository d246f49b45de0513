use Rattle.cam_writers.specs.Phrases.{ArcTo}
use Rattle.cam_writers.proofs.GerberTracks.{written}
use Rattle.cam_writers.proofs.gerber_state.GerberText.plot_arc.Goals as goal

pub returns : goal.returns
returns c =
    λ phrases h. written (ArcTo c.args.from c.args.to c.args.centre) phrases c.args.self.now c.push_arc.new.text h c.in_ok-push_arc.ensures
