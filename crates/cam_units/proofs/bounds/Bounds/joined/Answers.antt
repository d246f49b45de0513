use Rattle.std.proofs.Common.{sym, ◌∙◌, arith}
use Rattle.cam_units.proofs.BoxLaws.{join_least_at, none_empty}
use Rattle.cam_units.proofs.bounds.Bounds.joined.Goals as goal

pub returns : goal.returns
returns c =
    let e = c.spanned.ensures
    ∙ none_empty c.args.self c.args.other (sym c.is_empty.ensures.value ∙ c.if-is_empty.false)
    (sym c.is_empty-2.ensures.value ∙ c.if-is_empty-2.false) in
    record { value = e; least = join_least_at c.args.self c.args.other c.spanned.result e }

pub returns-then-is_empty-clause-least : goal.returns-then-is_empty-clause-least
returns-then-is_empty-clause-least c = grind (arith)
