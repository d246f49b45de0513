use Rattle.cam_station.proofs.WriteLaws.{exact_write}
use Rattle.cam_station.proofs.laws.write_is_exact.Goals as goal

pub returns : goal.returns
returns c = exact_write
