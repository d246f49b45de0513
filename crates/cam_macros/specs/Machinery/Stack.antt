-- Evaluation on a stack, the top first.
use Rattle.std.specs.Prelude.{List, [], ◌∷◌, reverse, ℤ, pos, neg_ℤ, Option, Some, None, option_and_then, Result}
use Rattle.std.specs.Prelude.{Ok, Err}
use Rattle.cam_macros.specs.declared.expansion.arithmetic.Fixed.{Fixed}
use Rattle.cam_macros.specs.declared.expression.Step.{Step}
use Rattle.cam_macros.specs.declared.expression.Step.TheVariants.{Push, Read, Negate, Apply}
use Rattle.cam_macros.specs.declared.fault.MacroFault.{MacroFault}
use Rattle.cam_macros.specs.declared.fault.MacroFault.TheVariants.{Malformed}
use Rattle.cam_macros.specs.Arithmetic.{Values, within, operator_applied}
use Rattle.cam_macros.specs.Machinery.Values.{numbers}

abbrev pub stack_of : List Fixed → List ℤ
stack_of values = reverse (numbers values)

-- the stack with a value more
abbrev pub put : List ℤ → Option ℤ → Option (List ℤ)
put stack v = option_and_then (λ n. Some (n ∷ stack)) v

-- the stack after a step
abbrev pub stepped : Values → Step → List ℤ → Option (List ℤ)
stepped values (Push n) stack = put stack (within (pos n))
stepped values (Read n) stack = put stack (within (values n))
stepped values Negate [] = None
stepped values Negate (a ∷ stack) = put stack (within (neg_ℤ a))
stepped values (Apply o) [] = None
stepped values (Apply o) (b ∷ []) = None
stepped values (Apply o) (b ∷ a ∷ stack) = put stack (option_and_then within (operator_applied o a b))

abbrev pub run : Values → List Step → List ℤ → Option (List ℤ)
run values [] stack = Some stack
run values (step ∷ steps) stack = option_and_then (run values steps) (stepped values step stack)

-- all that is left, the top last
abbrev pub answers : Option (List ℤ) → Result (List ℤ) MacroFault
answers None = Err Malformed
answers (Some stack) = Ok (reverse stack)

-- what is on top
abbrev pub answer : Option (List ℤ) → Result ℤ MacroFault
answer None = Err Malformed
answer (Some []) = Err Malformed
answer (Some (v ∷ _)) = Ok v
