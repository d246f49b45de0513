use Rattle.std.proofs.Common.{subst}
use Rattle.cam_objects.specs.Soundness.{IsSoundItem}
use Rattle.cam_edits.proofs.touched.bounds_with_aperture.Goals as goal

pub bounds_of-requires : goal.bounds_of-requires
bounds_of-requires c = subst (IsSoundItem c.args.layer.now.apertures) c.in-Some.ensures.changed c.requires

pub bounds_of-requires-in-None : goal.bounds_of-requires-in-None
bounds_of-requires-in-None c = subst (IsSoundItem c.args.layer.now.apertures) c.in-None.ensures.changed c.requires
