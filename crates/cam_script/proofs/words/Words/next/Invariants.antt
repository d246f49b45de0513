use Rattle.std.proofs.Common.{◌≡◌, length}
use Rattle.cam_script.specs.Words.{words}
use Rattle.cam_script.proofs.words.Words.next.Given as goal

abbrev pub invariant-loop-self : goal.invariant-loop-self
invariant-loop-self l = l.fn.self ≡ words l.self-inside.rest.now

abbrev pub decreases-loop-self : goal.decreases-loop-self
decreases-loop-self l = length l.self-inside.rest.now
