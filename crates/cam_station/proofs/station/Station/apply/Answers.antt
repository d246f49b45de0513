use Rattle.cam_station.proofs.Refusing.{refused_leaves}
use Rattle.cam_station.proofs.station.Station.apply.Goals as goal

pub returns-clause-refused : goal.returns-clause-refused
returns-clause-refused c =
    refused_leaves c.args.self.now c.args.command c.step.new.self c.step.result c.step.ensures
