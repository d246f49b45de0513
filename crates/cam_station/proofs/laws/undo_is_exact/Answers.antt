use Rattle.cam_writers.proofs.GerberReadingBack.{tells_its_commands}
use Rattle.cam_writers.proofs.ReadingBack.{tells_its_lines}
use Rattle.cam_station.proofs.UndoLaws.{exact_everywhere, exact_undo}
use Rattle.cam_station.proofs.laws.undo_is_exact.Goals as goal

pub returns-clause-reached : goal.returns-clause-reached
returns-clause-reached c = exact_undo

pub returns-clause-everywhere : goal.returns-clause-everywhere
returns-clause-everywhere c = exact_everywhere

pub returns-clause-commands : goal.returns-clause-commands
returns-clause-commands c = tells_its_commands

pub returns-clause-lines : goal.returns-clause-lines
returns-clause-lines c = tells_its_lines
