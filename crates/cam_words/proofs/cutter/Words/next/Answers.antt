use Rattle.std.proofs.Common.{arith, sym, ◌∙◌}
use Rattle.cam_words.specs.Reading.{reading_within}
use Rattle.cam_words.proofs.Steps.{nothing_given, fault_given, word_given, reading-nil}
use Rattle.cam_words.proofs.cutter.Words.next.Goals as goal

pub returns-in-None-clause-none : goal.returns-in-None-clause-none
returns-in-None-clause-none c = grind (arith, nothing_given, reading-nil)

pub returns-in-Some-Err-clause-some : goal.returns-in-Some-Err-clause-some
unfolding reading_within
returns-in-Some-Err-clause-some c =
    let found = rw c.in-Some-Err.field-0-is at c.in-Some-Err.ensures in
    sym c.self.view_is
    ∙ fault_given c.self.inside.at _ _ c.leading_skipped-skipped.ensures.value c.in-Some-Err.code found.value

pub returns-in-Some-Err-clause-after_fault : goal.returns-in-Some-Err-clause-after_fault
returns-in-Some-Err-clause-after_fault c _ = reading-nil _

pub returns-in-Some-Ok-clause-some : goal.returns-in-Some-Ok-clause-some
returns-in-Some-Ok-clause-some c = grind (arith, word_given)

pub invariant_of-self-in-Some-Ok : goal.invariant_of-self-in-Some-Ok
invariant_of-self-in-Some-Ok c = grind (arith)
