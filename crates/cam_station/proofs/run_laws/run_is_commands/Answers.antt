use Rattle.cam_station.proofs.RunLawProofs.{run_commands}
use Rattle.cam_station.proofs.run_laws.run_is_commands.Goals as goal

pub returns : goal.returns
returns c = run_commands
