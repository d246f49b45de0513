use Rattle.cam_station.proofs.WriteLaws.{is_accepted, loads_again}
use Rattle.cam_station.proofs.laws.written_texts_load_again.Goals as goal

pub returns-clause-again : goal.returns-clause-again
returns-clause-again c = loads_again

pub returns-clause-accepted : goal.returns-clause-accepted
returns-clause-accepted c = is_accepted
