-- Expressions in postfix order, each operand before its operator.
use Rattle.std.specs.Prelude.{◌≡◌, ℕ, zero, suc, List, [], ◌∷◌, ◌++◌, reverse, refl}
use Rattle.std.specs.Coded.{Coded, code_by, coded_list, coded×, coded_ℕ}
use Rattle.std.proofs.Common.{append_assoc, append-nil, ap, ◌∙◌, sym}
use Rattle.cam_macros.specs.declared.expression.Operator.{Operator}
use Rattle.cam_macros.specs.declared.expression.Operator.TheVariants.{Add, Subtract, Multiply, Divide}
use Rattle.cam_macros.specs.declared.expression.Step.{Step}
use Rattle.cam_macros.specs.declared.expression.Step.TheVariants.{Push, Read, Negate, Apply}
use Rattle.cam_macros.specs.Tree.{Tree, Number, Variable, Negative, Binary}

abbrev pub postfix : Tree → List Step
postfix (Number n) = Push n ∷ []
postfix (Variable n) = Read n ∷ []
postfix (Negative t) = postfix t ++ Negate ∷ []
postfix (Binary o a b) = postfix a ++ (postfix b ++ Apply o ∷ [])

-- the trees that steps leave on a stack of trees
abbrev pub built : List Step → List Tree → List Tree
built [] stack = stack
built (Push n ∷ steps) stack = built steps (Number n ∷ stack)
built (Read n ∷ steps) stack = built steps (Variable n ∷ stack)
built (Negate ∷ steps) [] = []
built (Negate ∷ steps) (a ∷ stack) = built steps (Negative a ∷ stack)
built (Apply o ∷ steps) [] = []
built (Apply o ∷ steps) (b ∷ []) = []
built (Apply o ∷ steps) (b ∷ a ∷ stack) = built steps (Binary o a b ∷ stack)

abbrev pub top_tree : List Tree → Tree
top_tree [] = Number 0
top_tree (t ∷ _) = t

-- the tree of steps in postfix order
abbrev pub tree_of : List Step → Tree
tree_of steps = top_tree (built steps [])

pub built-postfix : (t : Tree) (more : List Step) (stack : List Tree)
    → built (postfix t ++ more) stack ≡ built more (t ∷ stack)
built-postfix (Number n) more stack = refl
built-postfix (Variable n) more stack = refl
built-postfix (Negative t) more stack =
    ap (λ s. built s stack) (append_assoc (postfix t) (Negate ∷ []) more) ∙ built-postfix t (Negate ∷ more) stack
built-postfix (Binary o a b) more stack =
    ap (λ s. built s stack) (append_assoc (postfix a) (postfix b ++ Apply o ∷ []) more)
    ∙ built-postfix a ((postfix b ++ Apply o ∷ []) ++ more) stack
    ∙ ap (λ s. built s (a ∷ stack)) (append_assoc (postfix b) (Apply o ∷ []) more)
    ∙ built-postfix b (Apply o ∷ more) (a ∷ stack)

pub tree_of-postfix : (t : Tree) → tree_of (postfix t) ≡ t
tree_of-postfix t = ap (λ s. tree_of s) (sym (append-nil (postfix t))) ∙ ap top_tree (built-postfix t [] [])

-- expressions one behind the other
abbrev pub postfixes : List Tree → List Step
postfixes [] = []
postfixes (t ∷ trees) = postfix t ++ postfixes trees

abbrev pub trees_of : List Step → List Tree
trees_of steps = reverse (built steps [])

-- a step as two numbers
abbrev pub numbers_of : Step → ℕ × ℕ
numbers_of (Push n) = (0, n)
numbers_of (Read n) = (1, n)
numbers_of Negate = (2, 0)
numbers_of (Apply Add) = (3, 0)
numbers_of (Apply Subtract) = (3, 1)
numbers_of (Apply Multiply) = (3, 2)
numbers_of (Apply Divide) = (3, 3)

abbrev pub operator_at : ℕ → Operator
operator_at zero = Add
operator_at (suc zero) = Subtract
operator_at (suc (suc zero)) = Multiply
operator_at (suc (suc (suc _))) = Divide

abbrev pub step_at : ℕ → ℕ → Step
step_at zero n = Push n
step_at (suc zero) n = Read n
step_at (suc (suc zero)) n = Negate
step_at (suc (suc (suc _))) n = Apply (operator_at n)

pub step_again : (s : Step) → step_at (numbers_of s).0 (numbers_of s).1 ≡ s
step_again (Push n) = refl
step_again (Read n) = refl
step_again Negate = refl
step_again (Apply Add) = refl
step_again (Apply Subtract) = refl
step_again (Apply Multiply) = refl
step_again (Apply Divide) = refl

abbrev pub step_code : Coded Step
step_code = code_by (ℕ × ℕ) (coded× coded_ℕ coded_ℕ) numbers_of (λ p. step_at p.0 p.1) step_again

-- a tree is stored as its steps
abbrev pub tree_code : Coded Tree
tree_code = code_by (List Step) (coded_list step_code) postfix tree_of tree_of-postfix
