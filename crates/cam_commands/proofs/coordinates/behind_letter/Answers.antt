use Rattle.std.proofs.Common.{arith, ◌≡◌, ap, ◌∙◌, take, ℕ, List}
use Rattle.cam_words.specs.Heads.{packed}
use Rattle.cam_numbers.specs.Numbers.{integer, run_of}
use Rattle.cam_commands.specs.WordCommands.{written}
use Rattle.cam_commands.proofs.Runs.{packed_rest, packed_run}
use Rattle.cam_commands.proofs.coordinates.behind_letter.Goals as goal

pub returns-clause-slot : goal.returns-clause-slot
returns-clause-slot c =
    let text = c.args.text.now in
    let number = c.leading_integer-number in
    let run : packed (take number.result.len text) ≡ run_of (packed text) =
    ap (λ (n : ℕ). packed (take n text)) number.ensures.len ∙ packed_run text in
    c.slot_of.ensures ∙ ap written number.ensures.value ∙ ap (λ (r : List ℕ). written (integer r)) run

pub returns-clause-behind : goal.returns-clause-behind
returns-clause-behind c = grind (arith, packed_rest)
