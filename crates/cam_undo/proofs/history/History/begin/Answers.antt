use Rattle.std.proofs.Common.{arith}
use Rattle.cam_undo.proofs.history.History.begin.Goals as goal

pub returns-clause-kept : goal.returns-clause-kept
returns-clause-kept c = grind (arith)

pub returns-clause-begun : goal.returns-clause-begun
returns-clause-begun c = grind (arith)

pub returns-clause-tied : goal.returns-clause-tied
returns-clause-tied c = grind (arith)
