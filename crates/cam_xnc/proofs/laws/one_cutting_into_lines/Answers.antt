use Rattle.cam_xnc.proofs.Cuttings.{one_cutting}
use Rattle.cam_xnc.proofs.laws.one_cutting_into_lines.Goals as goal

pub returns : goal.returns
returns c = one_cutting
