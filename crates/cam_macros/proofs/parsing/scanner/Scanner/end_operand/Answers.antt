use Rattle.std.proofs.Common.{arith}
use Rattle.cam_macros.proofs.parsing.scanner.Scanner.end_operand.Goals as goal

pub invariant_of-self-2 : goal.invariant_of-self-2
invariant_of-self-2 c = grind (arith)
