use Rattle.std.proofs.Common.{arith}
use Rattle.camplot.proofs.explain.forms.first_misfit.Goals as goal

pub fact_in-result : goal.fact_in-result
fact_in-result c = assumption arith

pub loop-word-preserved-in-Some-form_of : goal.loop-word-preserved-in-Some-form_of
loop-word-preserved-in-Some-form_of c = grind (arith)

pub fact_in-word-in_default-next : goal.fact_in-word-in_default-next
fact_in-word-in_default-next c = assumption arith

pub loop-word-preserved-in-Some-form_of-derived : goal.loop-word-preserved-in-Some-form_of-derived
loop-word-preserved-in-Some-form_of-derived c = grind (arith)

pub loop-word-init-derived : goal.loop-word-init-derived
loop-word-init-derived c = grind (arith)

pub loop-word-preserved-derived : goal.loop-word-preserved-derived
loop-word-preserved-derived c = grind (arith)

pub split_ascii_whitespace-places-requires-text-self : goal.split_ascii_whitespace-places-requires-text-self
split_ascii_whitespace-places-requires-text-self c = assumption arith

pub fact_in-form-2 : goal.fact_in-form-2
fact_in-form-2 c = grind (arith)
