use Rattle.std.proofs.Common.{arith, ◌≡◌, ap, ◌∙◌, sym, drop, ℕ}
use Rattle.cam_words.specs.Heads.{packed}
use Rattle.cam_numbers.specs.Numbers.{behind_run}
use Rattle.cam_commands.proofs.Runs.{packed_behind_run, packed_run, field_there, field_other, field_of_nothing}
use Rattle.cam_commands.proofs.field.read_field.Goals as goal

pub returns-in_default-clause-run : goal.returns-in_default-clause-run
returns-in_default-clause-run c = ap (λ p. p.0) (sym (field_of_nothing c.args.letter (packed c.args.text.now) c.in_default.ensures.kept))

pub returns-in_default-clause-behind : goal.returns-in_default-clause-behind
returns-in_default-clause-behind c = ap (λ p. p.1) (sym (field_of_nothing c.args.letter (packed c.args.text.now) c.in_default.ensures.kept))

pub returns-then-first-letter-clause-run : goal.returns-then-first-letter-clause-run
returns-then-first-letter-clause-run c = grind (arith, field_other)

pub returns-then-first-letter-clause-behind : goal.returns-then-first-letter-clause-behind
returns-then-first-letter-clause-behind c = grind (arith, field_other)

pub returns-clause-run : goal.returns-clause-run
returns-clause-run c = grind (arith, packed_run, field_there)

pub returns-clause-behind : goal.returns-clause-behind
returns-clause-behind c =
    let rest = c.in-Some.rest.now in
    let run : packed c.split_at.result.1.now ≡ behind_run (packed rest) = ap packed c.split_at.ensures.back
    ∙ ap (λ (n : ℕ). packed (drop n rest)) c.run_len.ensures.value ∙ packed_behind_run rest in
    run ∙ ap (λ p. p.1)
    (sym (field_there c.args.letter c.in-Some.first (packed c.args.text.now)
    (packed rest) c.in-Some.ensures.kept c.if-first-letter.false))
