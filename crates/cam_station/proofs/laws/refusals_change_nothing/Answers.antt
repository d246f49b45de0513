use Rattle.cam_station.proofs.Refusing.{refusal_stays}
use Rattle.cam_station.proofs.laws.refusals_change_nothing.Goals as goal

pub returns : goal.returns
returns c = refusal_stays
