use Rattle.std.proofs.Common.{arith}
use Rattle.cam_undo.proofs.history.History.clear.Goals as goal

pub returns-clause-tied : goal.returns-clause-tied
returns-clause-tied c = grind (arith)

pub returns-clause-cleared : goal.returns-clause-cleared
returns-clause-cleared c = grind (arith)

pub returns-clause-kept : goal.returns-clause-kept
returns-clause-kept c = grind (arith)
