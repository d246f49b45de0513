-- Code numbers, of which those past every limit say the same.
use Rattle.std.proofs.Common.{◌≡◌, ℕ, ◌≤◌, min, List, false, None, Some, Option, refl, arith, ne_eqb}
use Rattle.std.specs.Prelude.{option_map, ◌==◌}
use Rattle.std.proofs.lemmas.Bool.{lt-ltb, le-ltb}
use Rattle.cam_commands.specs.Commands.{Command, Unknown}
use Rattle.cam_numbers.specs.Numbers.{natural, value_limit}
use Rattle.cam_commands.specs.WordCommands.{OperationParts, by_code, operation_of, by_operation_code, operation_code}
use Rattle.cam_commands.specs.WordCommands.{selection, function, lone_function, mode_of, program_code}
use Rattle.cam_numbers.proofs.Counting.{below_or}

-- a meaning of code numbers that no number past the limit changes
pub record IsSettled (meaning : ℕ → Command) : Type 0 where
  pub same : (code : ℕ) → value_limit ≤ code → meaning code ≡ meaning value_limit

pub code_absent : (code : Option ℕ) (meaning : ℕ → Command) → None ≡ option_map (min value_limit) code → Unknown ≡ by_code code meaning
code_absent code meaning e = grind arith

pub code_there : (code : Option ℕ) (capped : ℕ) (meaning : ℕ → Command) → IsSettled meaning
    → Some capped ≡ option_map (min value_limit) code → meaning capped ≡ by_code code meaning
code_there code capped meaning settled e = grind (arith, below_or)

other : (k code : ℕ) → k ≤ 1000 → value_limit ≤ code → (code == k) ≡ false
other k code small past = ne_eqb code k (λ e. absurd (omega arith))

pub settled_program : IsSettled program_code
unfolding program_code
settled_program = record { same = λ code past. rw (other 2 code (omega arith) past, le-ltb code 2 (omega arith)) refl }

pub settled_selection : IsSettled selection
unfolding selection
settled_selection = record { same = λ code past. rw (le-ltb code 10 (omega arith), lt-ltb 2147483647 code (omega arith)) refl }

unselected : (p : OperationParts) (code : ℕ) → value_limit ≤ code → by_operation_code p code None ≡ by_operation_code p value_limit None
unselected p code past = rw (settled_selection.same code past) refl

pub settled_operation : (p : OperationParts) → IsSettled (λ code. by_operation_code p code (operation_code code))
unfolding operation_code
settled_operation p = grind (arith, other, unselected)

pub settled_function : (rest : List ℕ) → IsSettled (function rest)
unfolding function lone_function mode_of
settled_function rest = grind (arith, other)

pub ruleset capped = (code_absent, code_there, settled_program, settled_selection, settled_operation, settled_function)

-- an operation by its D code
pub said_there : (p : OperationParts) (run : List ℕ) (code : ℕ) → p.d ≡ Some run → Some code ≡ option_map (min value_limit) (natural run)
    → by_operation_code p code (operation_code code) ≡ operation_of p
unfolding operation_of
said_there p run code is e = grind (arith, code_there, settled_operation)
