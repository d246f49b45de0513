use Rattle.cam_macros.specs.Reading.{pieces_between, parts_spoken}
use Rattle.cam_macros.proofs.ReadingLemmas.{ArePartsBefore, text_left}
use Rattle.cam_words.specs.Bytes.{star}
use Rattle.cam_macros.proofs.parsing.parts.parts_of.Given as goal

abbrev pub decreases-loop-rest : goal.decreases-loop-rest
decreases-loop-rest l = text_left l.rest

abbrev pub invariant-loop-rest : goal.invariant-loop-rest
invariant-loop-rest l =
    ArePartsBefore (parts_spoken (pieces_between star l.rest)) (parts_spoken (pieces_between star l.fn.texts)) l.items.items
