use Rattle.cam_station.proofs.FilesPut.{files_put}
use Rattle.cam_station.proofs.run_laws.files_are_exact.Goals as goal

pub returns : goal.returns
returns c = files_put
