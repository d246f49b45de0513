use Rattle.cam_station.specs.Machine.{memory_of}
use Rattle.cam_station.specs.Run.{files_seen}
use Rattle.cam_station.proofs.OneLine.{load_gets, load_gets_none}
use Rattle.cam_station.proofs.running.load.Goals as goal

pub returns-in-Ok : goal.returns-in-Ok
returns-in-Ok g c =
    load_gets c.args.station.now c.args.name c.args.kind c.args.path.now c.in-Ok.bytes.items
    (memory_of c.apply.result) c.apply.new.self c.apply.result
    (files_seen (g.F.Files.contents c.args.files.now) (g.F.Files.failed c.args.files.now))
    (files_seen (g.F.Files.contents c.get.new.self) (g.F.Files.failed c.get.new.self))
    (rw c.from_vec.ensures at c.apply.ensures.step)
    (record { contents = (c.in-Ok.ensures.kept, rw c.as_str.ensures at c.in-Ok.ensures.held); failures = c.in-Ok.ensures.counted })

pub returns-in-Err : goal.returns-in-Err
returns-in-Err g c =
    load_gets_none c.args.station.now c.args.name c.args.kind c.args.path.now c.in-Err.fault c.file_refusal.result
    (files_seen (g.F.Files.contents c.args.files.now) (g.F.Files.failed c.args.files.now))
    (files_seen (g.F.Files.contents c.get.new.self) (g.F.Files.failed c.get.new.self))
    c.file_refusal.ensures (record {
      contents = (c.in-Err.ensures.kept, rw c.as_str.ensures at c.in-Err.ensures.absent);
      failures = c.in-Err.ensures.counted;
    })
