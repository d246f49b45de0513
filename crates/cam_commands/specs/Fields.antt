-- The fields of a command: a letter and its number. Gerber Layer Format Specification, "Syntax", "Fields".
use Rattle.std.specs.Prelude.{ℕ, List, [], ◌∷◌, length, Option, Some, None, Bool, ◌==◌, if◌then◌else◌}
use Rattle.cam_numbers.specs.Numbers.{run_of, behind_run}

-- a text that is one run
abbrev pub is_run : List ℕ → Bool
is_run text = length (behind_run text) == 0

-- the run behind a letter, where the letter stands at the front of a text, and what follows
unfoldable pub field : ℕ → List ℕ → Option (List ℕ) × List ℕ
field letter [] = (None, [])
field letter (first ∷ text) = if first == letter then (Some (run_of text), behind_run text) else (None, first ∷ text)
