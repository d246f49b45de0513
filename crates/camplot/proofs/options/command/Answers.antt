use Rattle.std.proofs.Common.{◌∙◌, ap, ap₂, arith}
use Rattle.std.proofs.lemmas.Result.{IfOk-weaker}
use Rattle.clap.specs.Words.{with_rule}
use Rattle.clap.specs.Simple.{app_of_fields}
use Rattle.camplot.specs.Synopsis.{with_version}
use Rattle.camplot.proofs.options.command.Goals as goal

pub returns : goal.returns
returns c =
    let named = ap app_of_fields c.about.ensures ∙ c.new.ensures.app in
    let told = ap app_of_fields c.after_help.ensures ∙ (ap app_of_fields c.version.ensures ∙ ap with_version named) in
    let first = c.in_ok-arg.ensures.shape c.script_argument.ensures.local ∙ ap₂ with_rule told c.script_argument.ensures.rule in
    let second = c.in_ok-arg-2.ensures.shape c.depth_option.ensures.local ∙ ap₂ with_rule first c.depth_option.ensures.rule in
    let third = c.in_ok-arg-3.ensures.shape c.explain_option.ensures.local ∙ ap₂ with_rule second c.explain_option.ensures.rule in
    IfOk-weaker c.arg-4.result _ _
    (λ made added. added.shape c.progress_option.ensures.local ∙ ap₂ with_rule third c.progress_option.ensures.rule) c.arg-4.ensures

pub after_help-requires : goal.after_help-requires
after_help-requires c = grind (arith)
