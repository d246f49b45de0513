use Rattle.cam_gerber.proofs.Pasts.{homes_apart}
use Rattle.cam_gerber.proofs.laws.homes_stay_apart.Goals as goal

pub returns : goal.returns
returns c = homes_apart
