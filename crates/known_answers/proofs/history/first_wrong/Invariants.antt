use Rattle.cam_undo.specs.Timelines.{IsTied}
use Rattle.known_answers.proofs.history.first_wrong.Given as goal
use Rattle.known_answers.specs.contracts.history.sheet.PutReversible.TheImpl.{ghosts}

abbrev pub invariant-loop-step : goal.invariant-loop-step
invariant-loop-step l = IsTied ghosts l.history l.doc
