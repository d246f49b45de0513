use Rattle.std.proofs.Common.{◌≡◌, ◌≤◌, ◌+◌, List, ◌++◌, vec_len}
use Rattle.std.specs.Prelude.{vec_capacity}
use Rattle.std.specs.VecDeque.{deque_len}
use Rattle.cam_script.specs.declared.command.Command.{Command}
use Rattle.cam_station.specs.Calls.{IsRun}
use Rattle.cam_station.proofs.station.Station.apply_all.Given as goal

-- the commands so far, with their answers, are a run; there is room for the answers to the others
abbrev pub invariant-loop-command : goal.invariant-loop-command
invariant-loop-command l =
    record {
      applied : List Command;
      split : l.initial.commands.items ≡ applied ++ l.commands.items;
      run : IsRun l.initial.self applied l.answers.items l.self;
      room : vec_len l.answers + deque_len l.commands ≤ vec_capacity l.answers;
    }

abbrev pub decreases-loop-command : goal.decreases-loop-command
decreases-loop-command l = deque_len l.commands
