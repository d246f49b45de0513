use Rattle.std.proofs.Common.{[], ◌∷◌, ◌++◌, append_assoc, arith}
use Rattle.std.proofs.lemmas.Grind.{common_steps}
use Rattle.cam_station.proofs.Runs.{run_more}
use Rattle.cam_station.proofs.station.Station.apply_all.Goals as goal

pub loop-command-preserved : goal.loop-command-preserved
loop-command-preserved c =
    let i = c.loop-command.invariant in
    record {
      applied = i.applied ++ c.in-Some.command ∷ [];
      split = rw (i.split, c.in-Some.ensures.items, append_assoc);
      run = rw c.push_reserved.ensures.items (run_more _ _ _ _ _ _ _ i.run c.apply-answer.ensures.step);
      room = omega (arith, i.room, c.push_reserved.ensures.len, c.push_reserved.ensures.capacity, c.in-Some.ensures.len);
    }

pub loop-command-init : goal.loop-command-init
loop-command-init c = grind (arith)

pub returns-clause-ok : goal.returns-clause-ok
returns-clause-ok c = grind (arith, common_steps)
