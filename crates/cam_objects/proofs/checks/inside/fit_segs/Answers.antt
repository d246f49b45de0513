use Rattle.std.proofs.Common.{arith}
use Rattle.cam_objects.proofs.checks.inside.fit_segs.Goals as goal

pub returns : goal.returns
returns c = grind (arith)
