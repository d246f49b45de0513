use Rattle.cam_station.proofs.ShownTables.{kept_ways}
use Rattle.cam_station.proofs.laws.ways_lead_between_documents.Goals as goal

pub returns : goal.returns
returns c = kept_ways
