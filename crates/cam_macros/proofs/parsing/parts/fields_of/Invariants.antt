use Rattle.cam_macros.specs.Reading.{pieces_between}
use Rattle.cam_macros.proofs.ReadingLemmas.{AreReadBefore, text_left}
use Rattle.cam_macros.specs.Bytes.{comma_sign}
use Rattle.cam_macros.proofs.parsing.parts.fields_of.Given as goal

abbrev pub decreases-loop-rest : goal.decreases-loop-rest
decreases-loop-rest l = text_left l.rest

abbrev pub invariant-loop-rest : goal.invariant-loop-rest
invariant-loop-rest l = AreReadBefore (pieces_between comma_sign l.rest) (pieces_between comma_sign l.fn.texts) l.fields
