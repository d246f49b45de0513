use Rattle.std.proofs.Common.{◌≡◌, ◌∷◌, ◌++◌, [], arith}
use Rattle.cam_macros.proofs.ScannerLemmas.{counts_pop, reverse_push}
use Rattle.cam_macros.proofs.parsing.scanner.Scanner.close.Goals as goal

pub invariant_of-self-2 : goal.invariant_of-self-2
invariant_of-self-2 c =
    let popped : c.self.inside.outer.items ≡ c.pop.new.self.items ++ c.in-Some.level ∷ [] = c.in-Some.ensures.items in
    counts_pop c.self.inside.level c.in-Some.level c.pop.new.self.items c.self.inside.room c.self.inside.budget
    (rw (← popped) c.self.invariant)

pub returns : goal.returns
returns c = grind (arith, reverse_push)

pub invariant_of-self-in_default : goal.invariant_of-self-in_default
invariant_of-self-in_default c = grind (arith)
