use Rattle.std.proofs.Common.{rules}
use Rattle.cam_units.proofs.bounds.greatest.Goals as goal

pub returns : goal.returns
returns c = search rules
