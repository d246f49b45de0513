use Rattle.std.proofs.Common.{rules}
use Rattle.cam_gerber.proofs.running.Running.set_rotation.Goals as goal

pub returns : goal.returns
returns c = search rules
