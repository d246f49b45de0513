-- Runs of commands, one after another.
use Rattle.std.proofs.Common.{◌≡◌, suc, List, [], ◌∷◌, ◌++◌, refl, ap, ap₂, arith, ◌∙◌}
use Rattle.cam_script.specs.declared.command.Command.{Command}
use Rattle.cam_station.specs.Machine.{State, Outcome, memory_of, step}
use Rattle.cam_station.specs.Calls.{IsRun, answer_to, answers_to, calls_of, state_after, states_after}

pub no_run : (s : State) → IsRun s [] [] s
no_run s = record { each = refl; answers_are = refl; last_is = refl }

-- a run behind one command
run_behind : (s mid last : State) (c : Command) (answer : Outcome) (commands : List Command) (answers : List Outcome)
    → state_after s (c, memory_of answer) ≡ mid → answer_to s (c, memory_of answer) ≡ answer
    → IsRun mid commands answers last → IsRun s (c ∷ commands) (answer ∷ answers) last
run_behind s mid last c answer commands answers after told r =
    record {
      each = ap suc r.each;
      answers_are = ap₂ ◌∷◌ told (ap (λ x. answers_to x (calls_of commands answers)) after ∙ r.answers_are);
      last_is = ap (λ x. states_after x (calls_of commands answers)) after ∙ r.last_is;
    }

first_is : (a b : Outcome) (xs ys : List Outcome) → a ∷ xs ≡ b ∷ ys → a ≡ b
first_is a b xs ys e = cc

others_are : (a b : Outcome) (xs ys : List Outcome) → a ∷ xs ≡ b ∷ ys → xs ≡ ys
others_are a b xs ys e = cc

-- one more command behind a run
pub run_more : (s mid last : State) (c : Command) (answer : Outcome) (commands : List Command) (answers : List Outcome)
    → IsRun s commands answers mid → step mid c (memory_of answer) ≡ (last, answer)
    → IsRun s (commands ++ c ∷ []) (answers ++ answer ∷ []) last
run_more s mid last c answer [] [] r e =
    let here : s ≡ mid = r.last_is in
    let now : step s c (memory_of answer) ≡ (last, answer) = ap (λ x. step x c (memory_of answer)) here ∙ e in
    run_behind s last last c answer [] [] (ap (λ p. p.0) now) (ap (λ p. p.1) now) (no_run last)
run_more s mid last c answer [] (a ∷ answers) r e = absurd (omega (arith, r.each))
run_more s mid last c answer (d ∷ commands) [] r e = absurd (omega (arith, r.each))
run_more s mid last c answer (d ∷ commands) (a ∷ answers) r e =
    let next : State = state_after s (d, memory_of a) in
    run_behind s next last d a (commands ++ c ∷ []) (answers ++ answer ∷ []) refl (first_is _ _ _ _ r.answers_are)
    (run_more next mid last c answer commands answers
    (record { each = omega (arith, r.each); answers_are = others_are _ _ _ _ r.answers_are; last_is = r.last_is }) e)
