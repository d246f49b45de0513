use Rattle.std.proofs.Common.{rules}
use Rattle.cam_units.proofs.bounds.least.Goals as goal

pub returns : goal.returns
returns c = search rules
