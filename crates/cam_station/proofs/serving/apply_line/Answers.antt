use Rattle.std.proofs.Common.{◌∙◌, ap}
use Rattle.std.specs.Option.{option_copied}
use Rattle.cam_station.specs.Machine.{memory_of, fault}
use Rattle.cam_station.proofs.ServedLine as served
use Rattle.cam_station.proofs.serving.apply_line.Goals as goal

pub returns-in-Err : goal.returns-in-Err
returns-in-Err c =
    served.line_refused (option_copied c.args.file) c.args.station.now c.args.line.now c.in-Err.fault c.without_place.result
    c.told.result.reply c.told.result.file
    (c.without_place.ensures ∙ ap fault c.refusal.ensures) c.told.ensures.reply c.told.ensures.file c.in-Err.ensures

pub returns-in-Ok-None : goal.returns-in-Ok-None
returns-in-Ok-None c =
    served.line_empty (option_copied c.args.file) c.args.station.now c.args.line.now (rw c.in-Ok-None.field-0-is at c.in-Ok-None.ensures)

pub returns-in-Ok-Some-Command : goal.returns-in-Ok-Some-Command
returns-in-Ok-Some-Command c =
    served.line_applies (option_copied c.args.file) c.args.station.now c.args.line.now c.in-Ok-Some-Command.command
    (memory_of c.apply.result) c.apply.new.self c.apply.result
    c.told-in-Ok-Some-Command.result.reply c.told-in-Ok-Some-Command.result.file
    c.told-in-Ok-Some-Command.ensures.reply c.told-in-Ok-Some-Command.ensures.file
    (rw (c.in-Ok-Some-Command.field-0-is, c.in-Ok-Some-Command.field-0-0-is) at c.in-Ok-Some-Command.ensures) c.apply.ensures.step

pub returns-in-Ok-Some-Load : goal.returns-in-Ok-Some-Load
returns-in-Ok-Some-Load c =
    served.line_loads (option_copied c.args.file) c.args.station.now c.args.line.now c.in-Ok-Some-Load.name c.in-Ok-Some-Load.kind
    c.in-Ok-Some-Load.path c.load.new.station c.load.result.reply c.load.result.file
    (rw (c.in-Ok-Some-Load.field-0-is, c.in-Ok-Some-Load.field-0-0-is) at c.in-Ok-Some-Load.ensures) c.load.ensures

pub returns-in-Ok-Some-Plot : goal.returns-in-Ok-Some-Plot
returns-in-Ok-Some-Plot c =
    served.line_plots (option_copied c.args.file) c.args.station.now c.args.line.now c.in-Ok-Some-Plot.name c.in-Ok-Some-Plot.path
    c.plot.new.station c.plot.result.reply c.plot.result.file
    (rw (c.in-Ok-Some-Plot.field-0-is, c.in-Ok-Some-Plot.field-0-0-is) at c.in-Ok-Some-Plot.ensures) (c.plot.ensures (option_copied c.args.file))

pub returns-in-Ok-Some-Write : goal.returns-in-Ok-Some-Write
returns-in-Ok-Some-Write c =
    served.line_writes (option_copied c.args.file) c.args.station.now c.args.line.now c.in-Ok-Some-Write.name c.in-Ok-Some-Write.path
    c.write.new.station c.write.result.reply c.write.result.file
    (rw (c.in-Ok-Some-Write.field-0-is, c.in-Ok-Some-Write.field-0-0-is) at c.in-Ok-Some-Write.ensures) (c.write.ensures (option_copied c.args.file))
