-- Expressions that stand one behind the other in postfix order.
use Rattle.std.proofs.lemmas.Grind.{common_steps}
use Rattle.std.proofs.Common.{arith, ◌≡◌, List, [], ◌∷◌, ◌++◌, ℤ, Option, Some, Ok, refl, ap, sym, ◌∙◌, append_assoc, append-nil}
use Rattle.std.proofs.Common.{reverse}
use Rattle.std.proofs.lemmas.List.{reverse-append, reverse-reverse}
use Rattle.cam_macros.specs.declared.expression.Step.{Step}
use Rattle.cam_macros.specs.declared.expansion.arithmetic.Fixed.{Fixed}
use Rattle.cam_macros.specs.declared.fault.MacroFault.{MacroFault}
use Rattle.cam_macros.specs.Answers.{IsUnlessMemory}
use Rattle.cam_macros.specs.Arithmetic.{Values}
use Rattle.cam_macros.specs.Expansion.{all_worth, ◌>>=◌}
use Rattle.cam_macros.specs.Machinery.Scanning.{IsFaultOf}
use Rattle.cam_macros.specs.Machinery.Stack.{answers, run, stack_of}
use Rattle.cam_macros.specs.Machinery.Values.{numbers}
use Rattle.cam_macros.specs.Postfix.{built, built-postfix, postfix, postfixes, trees_of}
use Rattle.cam_macros.specs.Tree.{Tree}
use Rattle.cam_macros.proofs.Evaluation.{run-postfix}

built_postfixes : (trees stack : List Tree) → built (postfixes trees) stack ≡ reverse trees ++ stack
built_postfixes [] stack = refl
built_postfixes (t ∷ trees) stack =
    built-postfix t (postfixes trees) stack
    ∙ built_postfixes trees (t ∷ stack)
    ∙ sym (append_assoc (reverse trees) (t ∷ []) stack)
    ∙ ap (λ l. l ++ stack) (sym (reverse-append (t ∷ []) trees))

-- the trees of their steps
trees_again : (trees : List Tree) → trees_of (postfixes trees) ≡ trees
trees_again trees = grind (arith, built_postfixes, append-nil, reverse-reverse)

postfixes_push : (trees : List Tree) (t : Tree) → postfixes (trees ++ t ∷ []) ≡ postfixes trees ++ postfix t
postfixes_push [] t = append-nil (postfix t)
postfixes_push (u ∷ trees) t = grind (arith, append_assoc, postfixes_push trees t)

-- steps with those of one more expression behind them
steps_pushed : (steps more : List Step) (t : Tree) → steps ≡ postfixes (trees_of steps) → more ≡ postfix t
    → steps ++ more ≡ postfixes (trees_of steps ++ t ∷ [])
steps_pushed steps more t h e = grind (arith, postfixes_push)

pub trees_pushed : (steps more : List Step) (t : Tree) → steps ≡ postfixes (trees_of steps) → more ≡ postfix t
    → trees_of (steps ++ more) ≡ trees_of steps ++ t ∷ []
trees_pushed steps more t h e =
    ap trees_of (steps_pushed steps more t h e) ∙ trees_again (trees_of steps ++ t ∷ [])

pub kept_pushed : (steps more : List Step) (t : Tree) → steps ≡ postfixes (trees_of steps) → more ≡ postfix t
    → steps ++ more ≡ postfixes (trees_of (steps ++ more))
kept_pushed steps more t h e =
    steps_pushed steps more t h e ∙ ap postfixes (sym (trees_pushed steps more t h e))

pub ruleset pushed = (trees_pushed, kept_pushed)

answers_are : (values : Values) (trees : List Tree) (stack : List ℤ)
    → answers (run values (postfixes trees) stack) ≡ (all_worth values trees >>= λ vs. Ok (reverse stack ++ vs))
answers_are values [] stack = ap Ok (sym (append-nil (reverse stack)))
answers_are values (t ∷ trees) stack = grind (arith, common_steps, run-postfix, answers_are values trees)

all_worth_is : (values : Values) (steps : List Step) → steps ≡ postfixes (trees_of steps)
    → answers (run values steps []) ≡ all_worth values (trees_of steps)
all_worth_is values steps h = grind (arith, answers_are)

-- the values that the steps leave are those of the expressions
pub values_left : (values : Values) (steps : List Step) (trees : List Tree) (stack : List ℤ) (left : List Fixed)
    → steps ≡ postfixes (trees_of steps) → trees_of steps ≡ trees → run values steps [] ≡ Some stack
    → stack_of left ≡ stack → all_worth values trees ≡ Ok (numbers left)
values_left values steps trees stack left h view e is =
    ap (all_worth values) (sym view) ∙ sym (all_worth_is values steps h) ∙ ap answers e
    ∙ ap (λ s. Ok (reverse s)) (sym is) ∙ ap Ok (reverse-reverse (numbers left))

answers_fault : (fault : MacroFault) (left : Option (List ℤ)) → IsFaultOf fault left
    → IsUnlessMemory fault (answers left)
answers_fault fault left f = grind arith

pub fault_left : (values : Values) (steps : List Step) (trees : List Tree) (fault : MacroFault)
    → steps ≡ postfixes (trees_of steps) → trees_of steps ≡ trees → IsFaultOf fault (run values steps [])
    → IsUnlessMemory fault (all_worth values trees)
fault_left values steps trees fault h view f = grind (arith, all_worth_is, answers_fault)
