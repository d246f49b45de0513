-- Expressions as they are kept.
use Rattle.std.proofs.Common.{◌≡◌, ℕ, List, Some, sym, ap, ◌∙◌, subst}
use Rattle.cam_macros.specs.declared.expression.Step.{Step}
use Rattle.cam_macros.specs.declared.fault.MacroFault.{MacroFault}
use Rattle.cam_macros.specs.Postfix.{postfix, tree_of, tree_of-postfix}
use Rattle.cam_macros.specs.Grammar.{IsExpression}
use Rattle.cam_macros.specs.Scanning.{scanned}
use Rattle.cam_macros.specs.Machinery.Scanning.{IsFaultOf}
use Rattle.cam_macros.specs.Answers.{IsMalformed, Nothing}
use Rattle.cam_macros.proofs.FaultLemmas.{malformed_also}
use Rattle.cam_macros.proofs.Machine.{expression_read}
use Rattle.cam_macros.proofs.Soundness.{steps_found}

pub steps_are : (text : List ℕ) (steps : List Step) → scanned text ≡ Some steps → steps ≡ postfix (tree_of steps)
steps_are text steps e =
    let found = steps_found text steps e in
    found.1 ∙ ap postfix (sym (ap tree_of found.1 ∙ tree_of-postfix found.0))

pub tree_is : (text : List ℕ) (steps : List Step) → scanned text ≡ Some steps → IsExpression text (tree_of steps)
tree_is text steps e =
    let found = steps_found text steps e in
    subst (IsExpression text) (sym (ap tree_of found.1 ∙ tree_of-postfix found.0)) found.2

pub no_expression : (fault : MacroFault) (text : List ℕ) → IsFaultOf fault (scanned text)
    → IsMalformed fault (Nothing (IsExpression text))
no_expression fault text f = malformed_also fault (λ none tree h. cc (expression_read text tree h)) f

-- what a text that is read, or is not, stands for
pub ruleset kept_expressions = (steps_are, tree_is, no_expression)
