-- The text of a reply.
use Rattle.std.specs.Prelude.{ℕ, List, [], ◌∷◌, ◌++◌, Option, None, Some, Ok, Err, codes, decimal}
use Rattle.std.specs.List.{flat_map}
use Rattle.cam_refusals.specs.Refusals.{number_of}
use Rattle.cam_station.specs.declared.reply.Numbers.TheVariants.{One, Two, Three}
use Rattle.cam_station.specs.declared.reply.Reply.{Reply}
use Rattle.cam_station.specs.declared.reply.Reply.TheVariants.{Done, Numbers, Bytes}
use Rattle.cam_station.specs.Machine.{Outcome}

-- the numbers that a reply tells: of bytes for a file, how many tiles were drawn for them
abbrev pub reply_numbers : Reply → List ℕ
reply_numbers Done = []
reply_numbers (Numbers (One a)) = a ∷ []
reply_numbers (Numbers (Two a b)) = a ∷ b ∷ []
reply_numbers (Numbers (Three a b c)) = a ∷ b ∷ c ∷ []
reply_numbers (Bytes bytes drawn) = drawn ∷ []

abbrev pub fault_numbers : ℕ → Option ℕ → List ℕ
fault_numbers code None = code ∷ []
fault_numbers code (Some place) = code ∷ place ∷ []

-- a word, each number behind a space, and the line's end
abbrev pub line_with : List ℕ → List ℕ → List ℕ
line_with word numbers = word ++ flat_map (λ n. codes " " ++ decimal n) numbers ++ codes "\n"

-- `ok` or `refused` with its numbers
abbrev pub reply_line : Outcome → List ℕ
reply_line (Ok reply) = line_with (codes "ok") (reply_numbers reply)
reply_line (Err fault) = line_with (codes "refused") (fault_numbers (number_of fault.code) fault.at)
