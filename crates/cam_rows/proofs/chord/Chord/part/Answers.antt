use Rattle.std.proofs.Common.{arith}
use Rattle.std.proofs.lemmas.Grind.{common_steps}
use Rattle.cam_rows.proofs.chord.Chord.part.Goals as goal

pub returns-then-not-this-2-clause-each : goal.returns-then-not-this-2-clause-each
returns-then-not-this-2-clause-each c = grind (arith)

pub returns-then-run-clause-each : goal.returns-then-run-clause-each
returns-then-run-clause-each c = grind (arith)

pub walk-chord-requires-clause-sides : goal.walk-chord-requires-clause-sides
walk-chord-requires-clause-sides c = grind (arith)

pub returns-clause-each : goal.returns-clause-each
returns-clause-each c = grind (arith, common_steps)

pub returns-then-not-this-clause-each : goal.returns-then-not-this-clause-each
returns-then-not-this-clause-each c = grind (arith, common_steps)
