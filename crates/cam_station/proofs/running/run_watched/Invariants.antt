use Rattle.std.proofs.Common.{◌≡◌, ◌≤◌, ◌+◌, List, length, true}
use Rattle.std.specs.Str.Lines.{lines}
use Rattle.cam_station.specs.Machine.{fresh, is_depth}
use Rattle.cam_station.specs.Run.{World, Moment, RunsAllLines, StopsAtUnsaidReply, moment}
use Rattle.cam_station.proofs.running.run_watched.Given as goal

-- what the lines that are left come to is, behind those that were run, what all of them come to
abbrev pub invariant-loop-line : goal.invariant-loop-line
invariant-loop-line g l =
    record {
      depth : is_depth l.fn.depth ≡ true;
      finishes : (ws : List World) (after : Moment)
          → RunsAllLines l.station l.lines ws (moment (g.F.Files.contents l.files) (g.F.Files.failed l.files)
          (g.O.Out.said l.out) (g.O.Out.failed l.out) l.refused) after
          → (all : List World) × RunsAllLines (fresh l.fn.depth) (lines l.script) all
          (moment (g.F.Files.contents l.fn.files) (g.F.Files.failed l.fn.files) (g.O.Out.said l.fn.out) (g.O.Out.failed l.fn.out) 0) after;
      stops : (ws : List World) (after : Moment)
          → StopsAtUnsaidReply l.station l.lines ws (moment (g.F.Files.contents l.files) (g.F.Files.failed l.files)
          (g.O.Out.said l.out) (g.O.Out.failed l.out) l.refused) after
          → (all : List World) × StopsAtUnsaidReply (fresh l.fn.depth) (lines l.script) all
          (moment (g.F.Files.contents l.fn.files) (g.F.Files.failed l.fn.files) (g.O.Out.said l.fn.out) (g.O.Out.failed l.fn.out) 0) after;
      few : l.refused + length l.lines ≤ length l.script;
    }

abbrev pub decreases-loop-line : goal.decreases-loop-line
decreases-loop-line g l = length l.lines
