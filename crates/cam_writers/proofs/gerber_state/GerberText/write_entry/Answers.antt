use Rattle.std.proofs.Common.{arith}
use Rattle.cam_writers.specs.Phrases.{spelled}
use Rattle.cam_writers.proofs.GerberTracks.{defined, written}
use Rattle.cam_writers.proofs.Walks.{on_ok}
use Rattle.cam_writers.proofs.gerber_state.GerberText.write_entry.Goals as goal

pub returns-in-Aperture : goal.returns-in-Aperture
returns-in-Aperture c =
    λ phrases h.
    rw c.in-Aperture.is
    (on_ok c.push_aperture.result
    (defined phrases c.args.self.now c.push_aperture.new.text c.args.number c.in-Aperture.aperture h) c.push_aperture.ensures)

pub returns-in_ok-write_objects-in-Block : goal.returns-in_ok-write_objects-in-Block
unfolding spelled
returns-in_ok-write_objects-in-Block c = λ phrases h. grind (arith, written, on_ok)
