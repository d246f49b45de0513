use Rattle.std.proofs.Common.{rules}
use Rattle.cam_apertures.proofs.Corners.{small_joined}
use Rattle.cam_apertures.proofs.boxes.primitive_box.Goals as goal

pub returns-in-Bar-clause-small : goal.returns-in-Bar-clause-small
returns-in-Bar-clause-small c = search (rules, small_joined)
