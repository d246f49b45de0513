use Rattle.std.proofs.Common.{Some, ◌∙◌, ap}
use Rattle.cam_station.specs.Machine.{memory_of, fault}
use Rattle.cam_station.specs.Run.{files_seen}
use Rattle.cam_station.proofs.OneLine as one
use Rattle.cam_station.proofs.running.run_line.Goals as goal

pub returns-in-Err : goal.returns-in-Err
returns-in-Err g c =
    one.line_refused c.args.station.now c.args.line.now c.in-Err.fault c.without_place.result
    (files_seen (g.F.Files.contents c.args.files.now) (g.F.Files.failed c.args.files.now))
    (c.without_place.ensures ∙ ap fault c.refusal.ensures) c.in-Err.ensures

pub returns-in-Ok-None : goal.returns-in-Ok-None
returns-in-Ok-None g c =
    one.line_empty c.args.station.now c.args.line.now (files_seen (g.F.Files.contents c.args.files.now) (g.F.Files.failed c.args.files.now))
    (rw c.in-Ok-None.field-0-is at c.in-Ok-None.ensures)

pub returns-in-Ok-Some-Command : goal.returns-in-Ok-Some-Command
returns-in-Ok-Some-Command g c =
    one.line_applies c.args.station.now c.args.line.now c.in-Ok-Some-Command.command
    (memory_of c.apply.result) c.apply.new.self c.apply.result
    (files_seen (g.F.Files.contents c.args.files.now) (g.F.Files.failed c.args.files.now))
    (rw (c.in-Ok-Some-Command.field-0-is, c.in-Ok-Some-Command.field-0-0-is) at c.in-Ok-Some-Command.ensures) c.apply.ensures.step

pub returns-in-Ok-Some-Load : goal.returns-in-Ok-Some-Load
returns-in-Ok-Some-Load g c =
    one.line_loads c.args.station.now c.args.line.now c.in-Ok-Some-Load.name c.in-Ok-Some-Load.kind
    c.in-Ok-Some-Load.path c.load.new.station (Some c.load.result)
    (files_seen (g.F.Files.contents c.args.files.now) (g.F.Files.failed c.args.files.now))
    (files_seen (g.F.Files.contents c.load.new.files) (g.F.Files.failed c.load.new.files))
    (rw (c.in-Ok-Some-Load.field-0-is, c.in-Ok-Some-Load.field-0-0-is) at c.in-Ok-Some-Load.ensures) c.load.ensures

pub returns-in-Ok-Some-Plot : goal.returns-in-Ok-Some-Plot
returns-in-Ok-Some-Plot g c =
    one.line_plots c.args.station.now c.args.line.now c.in-Ok-Some-Plot.name c.in-Ok-Some-Plot.path c.put.new.station (Some c.put.result)
    (files_seen (g.F.Files.contents c.args.files.now) (g.F.Files.failed c.args.files.now))
    (files_seen (g.F.Files.contents c.put.new.files) (g.F.Files.failed c.put.new.files))
    (rw (c.in-Ok-Some-Plot.field-0-is, c.in-Ok-Some-Plot.field-0-0-is) at c.in-Ok-Some-Plot.ensures) c.put.ensures

pub returns-in-Ok-Some-Write : goal.returns-in-Ok-Some-Write
returns-in-Ok-Some-Write g c =
    one.line_writes c.args.station.now c.args.line.now c.in-Ok-Some-Write.name c.in-Ok-Some-Write.path c.put-in-Ok-Some-Write.new.station
    (Some c.put-in-Ok-Some-Write.result)
    (files_seen (g.F.Files.contents c.args.files.now) (g.F.Files.failed c.args.files.now))
    (files_seen (g.F.Files.contents c.put-in-Ok-Some-Write.new.files) (g.F.Files.failed c.put-in-Ok-Some-Write.new.files))
    (rw (c.in-Ok-Some-Write.field-0-is, c.in-Ok-Some-Write.field-0-0-is) at c.in-Ok-Some-Write.ensures) c.put-in-Ok-Some-Write.ensures
