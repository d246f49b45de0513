use Rattle.std.proofs.Common.{◌≡◌, ◌∙◌, ap, rules, arith}
use Rattle.std.specs.Prelude.{Some, pos}
use Rattle.clap.specs.declared.builder.value_parser.ValueParser.TheVariants.{Signed}
use Rattle.camplot.proofs.options.depth_option.Goals as goal

pub returns-clause-rule : goal.returns-clause-rule
returns-clause-rule c =
    let range : c.range.result ≡ Signed (pos 1) (pos 1000) = search rules in
    let given = c.value_parser-2.ensures.given in
    let parser : c.value_parser-2.result.value_parser ≡ Some (Signed (pos 1) (pos 1000)) =
    given.1 ∙ ap (λ p. Some p) (given.2 ∙ range) in
    search rules

pub returns-clause-local : goal.returns-clause-local
returns-clause-local c = grind (arith)
