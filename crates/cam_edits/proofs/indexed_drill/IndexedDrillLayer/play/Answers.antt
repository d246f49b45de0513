use Rattle.std.proofs.Common.{arith, ◌∷◌, ◌++◌, [], subst, sym}
use Rattle.cam_edits.specs.DrillSteps.{HasDrillRoom}
use Rattle.cam_edits.proofs.ItemTools.{were_tools}
use Rattle.cam_edits.proofs.KeptDrilling.{kept_before}
use Rattle.cam_edits.proofs.indexed_drill.IndexedDrillLayer.play.Goals as goal

pub follow-requires : goal.follow-requires
follow-requires c = grind (arith, were_tools)

pub mend_kept-requires-clause-was : goal.mend_kept-requires-clause-was
mend_kept-requires-clause-was c = grind (arith, kept_before)

pub mend_kept-requires-clause-known : goal.mend_kept-requires-clause-known
mend_kept-requires-clause-known c = c.follow.ensures

pub invariant_of-self : goal.invariant_of-self
invariant_of-self c = record { kept = c.mend_kept.ensures; tools = c.follow.ensures }

pub returns-clause-room : goal.returns-clause-room
returns-clause-room c = λ rest room.
    c.play-answer.ensures.room rest (subst (HasDrillRoom (rest ++ c.args.step ∷ [])) (sym c.self.view_is) room)

pub play-answer-requires-clause-room : goal.play-answer-requires-clause-room
play-answer-requires-clause-room c = grind (arith)

pub play-answer-requires-clause-fits : goal.play-answer-requires-clause-fits
play-answer-requires-clause-fits c = grind (arith)
