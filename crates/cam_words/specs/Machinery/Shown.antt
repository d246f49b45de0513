-- A command as the code shows it: its word as if it stood at place 0, and its length.
use Rattle.std.specs.Prelude.{ℕ, ◌+◌, ◌<◌, ◌≤◌, List, [], ◌∷◌, length, Option, Some, None, Result, Ok, Err}
use Rattle.cam_refusals.specs.declared.refusal.Refusal.{Refusal}
use Rattle.cam_words.specs.declared.command.Command.{Command as CommandSlice}
use Rattle.cam_words.specs.Cutting.{Command, bytes_of_command, FoundWord, word_of}
use Rattle.cam_words.specs.Reading.{command_at}

abbrev pub seen : Result CommandSlice Refusal → Result (FoundWord × ℕ) Refusal
seen (Ok command) = Ok (record { kind = command.kind; text = command.text.now; at = command.before }, command.len)
seen (Err code) = Err code

abbrev pub shown : Result Command Refusal → Result (FoundWord × ℕ) Refusal
shown (Ok command) = Ok (word_of 0 command, length (bytes_of_command command))
shown (Err code) = Err code

abbrev pub front_shown : List ℕ → Option (Result (FoundWord × ℕ) Refusal)
front_shown [] = None
front_shown (first ∷ rest) = Some (shown (command_at first rest))

-- a delimiter follows the text, and the command ends within so many bytes
abbrev pub IsInside : ℕ → CommandSlice → Type 0
IsInside len command = (command.before + length command.text.now < command.len) × (command.len ≤ len)
