use Rattle.std.proofs.Common.{arith}
use Rattle.cam_macros.proofs.ScannerLemmas.{few_less}
use Rattle.cam_macros.proofs.parsing.scanner.Scanner.charge.Goals as goal

pub invariant_of-self : goal.invariant_of-self
invariant_of-self c = grind (arith, few_less)
