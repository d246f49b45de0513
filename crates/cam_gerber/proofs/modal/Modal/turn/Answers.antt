use Rattle.cam_objects.proofs.TurningLemmas.{after_from_product}
use Rattle.cam_gerber.proofs.modal.Modal.turn.Goals as goal

pub returns : goal.returns
returns c = after_from_product c.args.self.now.mirror c.args.self.now.rotation c.then.result c.then.ensures
