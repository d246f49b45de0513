use Rattle.std.proofs.Common.{length}
use Rattle.cam_gerber.proofs.Leading.{LeadsOn}
use Rattle.cam_gerber.proofs.running.Running.read.Given as goal

-- what the words still to come lead to
abbrev pub invariant-loop-answer : goal.invariant-loop-answer
invariant-loop-answer l = LeadsOn l.fn.bytes l.self l.words

abbrev pub decreases-loop-answer : goal.decreases-loop-answer
decreases-loop-answer l = length l.words
