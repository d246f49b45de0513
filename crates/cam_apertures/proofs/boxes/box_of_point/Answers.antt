use Rattle.std.proofs.Common.{rules}
use Rattle.cam_apertures.proofs.boxes.box_of_point.Goals as goal

pub returns-clause-small : goal.returns-clause-small
returns-clause-small c = search rules

pub returns-clause-value : goal.returns-clause-value
returns-clause-value c = search rules
