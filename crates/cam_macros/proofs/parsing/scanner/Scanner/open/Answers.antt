use Rattle.std.proofs.Common.{refl, arith}
use Rattle.cam_macros.proofs.ScannerLemmas.{counts_push, reverse_push}
use Rattle.cam_macros.proofs.parsing.scanner.Scanner.open.Goals as goal

pub invariant_of-self-2 : goal.invariant_of-self-2
invariant_of-self-2 c =
    rw c.in_ok-push.ensures.items
    (counts_push c.self.inside.level _ c.self.inside.outer.items c.self.inside.room _ c.self.inside.budget
    (omega arith) refl c.self.invariant)

pub returns : goal.returns
returns c = grind (arith, counts_push, reverse_push)

pub invariant_of-self : goal.invariant_of-self
invariant_of-self c = grind (arith)
