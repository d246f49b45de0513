use Rattle.std.proofs.Common.{arith}
use Rattle.cam_c.proofs.session.Session.redraw.Goals as goal

pub returns : goal.returns
returns c = grind (arith)
