use Rattle.std.proofs.Common.{arith}
use Rattle.std.specs.Option.{option_copied}
use Rattle.cam_station.specs.Machine.{memory_of}
use Rattle.cam_station.proofs.ServedLine.{load_served}
use Rattle.cam_station.proofs.serving.load.Goals as goal

pub returns-in-Ok : goal.returns-in-Ok
returns-in-Ok c =
    load_served (option_copied c.args.file) c.args.station.now c.args.name c.args.kind c.args.path.now c.in-Ok.file
    (memory_of c.apply.result) c.apply.new.self c.apply.result c.told.result.reply c.told.result.file c.in-Ok.ensures
    c.apply.ensures.step c.told.ensures.reply c.told.ensures.file

pub returns-in-Err : goal.returns-in-Err
returns-in-Err c = grind (arith)
