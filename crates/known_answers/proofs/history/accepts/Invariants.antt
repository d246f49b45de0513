use Rattle.cam_undo.specs.Timelines.{IsTied}
use Rattle.known_answers.proofs.history.accepts.Given as goal
use Rattle.known_answers.specs.contracts.history.sheet.PutReversible.TheImpl.{ghosts}

abbrev pub invariant-loop-call : goal.invariant-loop-call
invariant-loop-call l = IsTied ghosts l.history l.doc
