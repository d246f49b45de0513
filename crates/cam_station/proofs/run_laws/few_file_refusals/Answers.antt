use Rattle.cam_station.proofs.RunLawProofs.{few_refusals}
use Rattle.cam_station.proofs.run_laws.few_file_refusals.Goals as goal

pub returns : goal.returns
returns c = few_refusals
