-- Where in a file a place lies.
use Rattle.std.specs.Prelude.{ℕ, ◌+◌, ◌==◌, not, List, take, count_by, if◌then◌else◌}
use Rattle.std.specs.List.{list_any, suffix_len}

-- lines end with a line feed or, in a text without one, with a carriage return
abbrev pub line_end : List ℕ → ℕ
line_end text = if list_any (λ byte. byte == 10) text then 10 else 13

-- the line of a place, from 1: one more than lines end before it
abbrev pub line_at : List ℕ → ℕ → ℕ
line_at text place = 1 + count_by (λ byte. byte == line_end text) (take place text)

-- the column of a place, from 1, in bytes: one more than bytes of its line stand before it
abbrev pub column_at : List ℕ → ℕ → ℕ
column_at text place = 1 + suffix_len (λ byte. not (byte == line_end text)) (take place text)
