use Rattle.std.proofs.Common.{rules}
use Rattle.cam_objects.proofs.cells.reach.Reach.of.Goals as goal

pub returns-in-Closed : goal.returns-in-Closed
returns-in-Closed c = search rules
