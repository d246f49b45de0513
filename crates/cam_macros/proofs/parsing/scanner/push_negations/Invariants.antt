use Rattle.std.proofs.Common.{◌≡◌, ◌++◌, replicate}
use Rattle.cam_macros.specs.declared.expression.Step.TheVariants.{Negate}
use Rattle.cam_macros.proofs.parsing.scanner.push_negations.Given as goal

abbrev pub invariant-loop-i : goal.invariant-loop-i
invariant-loop-i l = l.steps.items ≡ l.fn.steps.items ++ replicate l._i Negate
