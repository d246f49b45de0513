use Rattle.std.proofs.Common.{arith}
use Rattle.cam_xnc.proofs.Packing.{packed_whole}
use Rattle.cam_xnc.proofs.syntax.statement_of.Goals as goal

pub returns-then-not-holds_skipped : goal.returns-then-not-holds_skipped
returns-then-not-holds_skipped c = grind (arith, packed_whole)
