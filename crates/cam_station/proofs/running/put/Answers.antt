use Rattle.std.proofs.Common.{ℕ, List, Ok, length, ap}
use Rattle.cam_station.specs.declared.reply.Reply.TheVariants.{Numbers}
use Rattle.cam_station.specs.declared.reply.Numbers.TheVariants.{One}
use Rattle.cam_station.specs.Machine.{Outcome, memory_of}
use Rattle.cam_station.specs.Machinery.Lines.{tells}
use Rattle.cam_station.specs.Run.{files_seen}
use Rattle.cam_station.proofs.OneLine.{put_fails, puts, puts_nothing}
use Rattle.cam_station.proofs.running.put.Goals as goal

-- the reply that counts these bytes
abbrev told_by : List ℕ → Outcome
told_by bytes = Ok (Numbers (One (length bytes)))

pub returns-in_default : goal.returns-in_default
returns-in_default g c =
    puts_nothing (tells c.args.counts) c.args.station.now c.args.command c.args.path.now (memory_of c.apply_watched-answer.result)
    c.apply_watched-answer.new.self c.apply_watched-answer.result
    (files_seen (g.F.Files.contents c.args.files.now) (g.F.Files.failed c.args.files.now)) c.apply_watched-answer.ensures.step
    c.in_default.ensures.none

pub returns-then-counts : goal.returns-then-counts
returns-then-counts g c =
    puts (tells c.args.counts) c.args.station.now c.args.command c.args.path.now c.in-Some.bytes.now
    (memory_of c.apply_watched-answer.result) c.apply_watched-answer.new.self c.apply_watched-answer.result (told_by c.as_slice-text.result.now)
    (files_seen (g.F.Files.contents c.args.files.now) (g.F.Files.failed c.args.files.now))
    (files_seen (g.F.Files.contents c.put.new.self) (g.F.Files.failed c.put.new.self))
    (c.in-Some.ensures.some.0, c.in-Some.ensures.some.1, rw c.if-counts.true (ap told_by c.as_slice-text.ensures)) c.apply_watched-answer.ensures.step
    (record { contents = rw (c.as_str.ensures, c.as_slice-text.ensures) at c.in-Ok.ensures.stored; failures = c.in-Ok.ensures.counted })

pub returns-in-Err : goal.returns-in-Err
returns-in-Err g c =
    put_fails (tells c.args.counts) c.args.station.now c.args.command c.args.path.now c.in-Some.bytes.now
    (memory_of c.apply_watched-answer.result) c.apply_watched-answer.new.self c.apply_watched-answer.result
    c.in-Err.fault c.file_refusal.result
    (files_seen (g.F.Files.contents c.args.files.now) (g.F.Files.failed c.args.files.now))
    (files_seen (g.F.Files.contents c.put.new.self) (g.F.Files.failed c.put.new.self))
    c.in-Some.ensures.some c.apply_watched-answer.ensures.step c.file_refusal.ensures
    (record { contents = rw c.as_str.ensures at c.in-Err.ensures.lost; failures = c.in-Err.ensures.counted })
