use Rattle.cam_rows.proofs.ArcRuns.{arc_is_its_runs}
use Rattle.cam_rows.proofs.laws.arc_is_its_runs.Goals as goal

pub returns : goal.returns
returns c = arc_is_its_runs
