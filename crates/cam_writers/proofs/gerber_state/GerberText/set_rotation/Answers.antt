use Rattle.std.proofs.Common.{◌∙◌, sym, arith}
use Rattle.cam_writers.proofs.GerberTracks.{rotation_written}
use Rattle.cam_writers.proofs.gerber_state.GerberText.set_rotation.Goals as goal

pub returns-in_ok-push_rotation : goal.returns-in_ok-push_rotation
returns-in_ok-push_rotation c =
    λ phrases h. rotation_written phrases c.args.self.now c.push_rotation.new.text h c.args.turn c.rotation_of-rotation.result
    c.rotation_of-rotation.ensures (sym c.is_same_turn.ensures ∙ c.if-not-is_same_turn.true)
    c.in_ok-push_rotation.ensures

pub returns-else-not-is_same_turn : goal.returns-else-not-is_same_turn
returns-else-not-is_same_turn c = grind (arith)
