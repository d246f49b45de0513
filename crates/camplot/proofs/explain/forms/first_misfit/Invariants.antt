use denote.Shadow.{shadow}
use denote.Text.{Utf8}
use Rattle.camplot.proofs.explain.forms.first_misfit.Given as goal

-- the form is a text
abbrev pub invariant-loop-word : goal.invariant-loop-word
invariant-loop-word l = shadow (Utf8 l.form)
