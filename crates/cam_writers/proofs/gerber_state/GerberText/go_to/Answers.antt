use Rattle.std.proofs.Common.{append_assoc}
use Rattle.cam_writers.specs.Phrases.{MoveTo, spelled}
use Rattle.cam_writers.proofs.GerberTracks.{written}
use Rattle.cam_writers.proofs.gerber_state.GerberText.go_to.Goals as goal

pub returns : goal.returns
unfolding spelled
returns c =
    λ phrases h. written (MoveTo c.args.to) phrases c.args.self.now c.push_operation.new.text h
    (simp append_assoc c.in_ok-push_operation.ensures)
