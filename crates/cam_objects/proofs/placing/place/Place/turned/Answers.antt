use Rattle.cam_objects.proofs.TurningLemmas.{after_from_product}
use Rattle.cam_objects.proofs.placing.place.Place.turned.Goals as goal

pub returns : goal.returns
returns c = after_from_product c.args.turn c.args.self.turn c.then.result c.then.ensures
