use Rattle.std.proofs.Common.{arith, ap, ◌∙◌}
use Rattle.cam_objects.specs.Bounds.{moved}
use Rattle.cam_objects.proofs.CopyBoxes.{unturned}
use Rattle.cam_objects.proofs.PlacedJoins.{near_turnable, near_turned}
use Rattle.cam_objects.proofs.placing.place.Place.bounds.Goals as goal

pub turned-requires : goal.turned-requires
turned-requires c = near_turnable c.args.bounds c.requires.bounds

pub returns-in-R0 : goal.returns-in-R0
returns-in-R0 c = grind (arith, unturned)

pub moved-requires-in_default-clause-bounds : goal.moved-requires-in_default-clause-bounds
moved-requires-in_default-clause-bounds c = grind (arith, near_turned)

pub returns-in_default : goal.returns-in_default
returns-in_default c = c.moved-in_default.ensures ∙ ap (moved c.args.self.now.offset) c.turned.ensures
