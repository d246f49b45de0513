-- Evaluation on a stack, the top first.
use Rattle.std.proofs.Common.{arith, ◌≡◌, List, [], ◌∷◌, ◌++◌, ℤ, neg_ℤ, Some, None, refl, ap, sym, ◌∙◌, append_assoc, append-nil}
use Rattle.std.proofs.Common.{reverse}
use Rattle.std.specs.Prelude.{option_and_then}
use Rattle.std.proofs.lemmas.List.{reverse-append}
use Rattle.cam_macros.specs.declared.expression.Step.{Step}
use Rattle.cam_macros.specs.declared.expression.Step.TheVariants.{Negate, Apply}
use Rattle.cam_macros.specs.Tree.{Tree, Number, Variable, Negative, Binary}
use Rattle.cam_macros.specs.Postfix.{postfix}
use Rattle.cam_macros.specs.Arithmetic.{Values, within, operator_applied, tree_value}
use Rattle.cam_macros.specs.Machinery.Values.{numbers}
use Rattle.cam_macros.specs.declared.expansion.arithmetic.Fixed.{Fixed}
use Rattle.cam_macros.specs.Expansion.{worth}
use Rattle.cam_macros.specs.Machinery.Stack.{stack_of, put, run, answer}

pub run-postfix : (values : Values) (t : Tree) (more : List Step) (stack : List ℤ)
    → run values (postfix t ++ more) stack ≡ option_and_then (λ v. run values more (v ∷ stack)) (tree_value values t)
run-postfix values (Number n) more stack = grind arith
run-postfix values (Variable n) more stack = grind arith
run-postfix values (Negative t) more stack =
    ap (λ s. run values s stack) (append_assoc (postfix t) (Negate ∷ []) more)
    ∙ run-postfix values t (Negate ∷ more) stack
    ∙ (elim (tree_value values t) as
    (λ o. option_and_then (λ v. run values (Negate ∷ more) (v ∷ stack)) o
    ≡ option_and_then (λ v. run values more (v ∷ stack)) (option_and_then (λ v. within (neg_ℤ v)) o)) [
      | Some v ↦
          elim (within (neg_ℤ v)) as
          (λ w. option_and_then (run values more) (put stack w)
          ≡ option_and_then (λ v. run values more (v ∷ stack)) w) [ Some v ↦ refl | None ↦ refl ]
      | None ↦ refl
    ])
run-postfix values (Binary o a b) more stack =
    ap (λ s. run values s stack) (append_assoc (postfix a) (postfix b ++ Apply o ∷ []) more)
    ∙ run-postfix values a ((postfix b ++ Apply o ∷ []) ++ more) stack
    ∙ (elim (tree_value values a) as
    (λ w. option_and_then (λ x. run values ((postfix b ++ Apply o ∷ []) ++ more) (x ∷ stack)) w
    ≡ option_and_then (λ v. run values more (v ∷ stack))
    (option_and_then (λ x. option_and_then (λ y. option_and_then within (operator_applied o x y)) (tree_value values b)) w)) [
      | None ↦ refl
      | Some x ↦
          ap (λ s. run values s (x ∷ stack)) (append_assoc (postfix b) (Apply o ∷ []) more)
          ∙ run-postfix values b (Apply o ∷ more) (x ∷ stack)
          ∙ (elim (tree_value values b) as
          (λ w. option_and_then (λ y. run values (Apply o ∷ more) (y ∷ x ∷ stack)) w
          ≡ option_and_then (λ v. run values more (v ∷ stack))
          (option_and_then (λ y. option_and_then within (operator_applied o x y)) w)) [
            | None ↦ refl
            | Some y ↦
                elim (option_and_then within (operator_applied o x y)) as
                (λ w. option_and_then (run values more) (put stack w)
                ≡ option_and_then (λ v. run values more (v ∷ stack)) w) [ Some v ↦ refl | None ↦ refl ]
          ])
    ])

-- a whole expression leaves its value alone
pub run_whole : (values : Values) (t : Tree)
    → run values (postfix t) [] ≡ option_and_then (λ v. Some (v ∷ [])) (tree_value values t)
run_whole values t = ap (λ s. run values s []) (sym (append-nil (postfix t))) ∙ run-postfix values t [] []

-- the value of an expression is on top in the end
pub worth_is : (values : Values) (t : Tree) → answer (run values (postfix t) []) ≡ worth values t
worth_is values t = grind (arith, run_whole)

pub numbers_push : (values : List Fixed) (v : Fixed) → numbers (values ++ v ∷ []) ≡ numbers values ++ v.billionths ∷ []
numbers_push [] v = refl
numbers_push (w ∷ values) v = ap (λ l. w.billionths ∷ l) (numbers_push values v)

pub stack_of_push : (values : List Fixed) (v : Fixed) → stack_of (values ++ v ∷ []) ≡ v.billionths ∷ stack_of values
stack_of_push values v = ap reverse (numbers_push values v) ∙ reverse-append (numbers values) (v.billionths ∷ [])
