-- The classes of bytes. Gerber Layer Format Specification, "Syntax", "Character set".
use Rattle.std.specs.Prelude.{◌≡◌, ℕ, Bool, true, ◌==◌, ◌||◌, ◌&&◌, nat_lt, nat_le, not}

-- ends a word: `*`
abbrev pub star : ℕ
star = 42

-- begins and ends an extended command: `%`
abbrev pub percent : ℕ
percent = 37

abbrev pub is_star : ℕ → Bool
is_star byte = byte == 42

abbrev pub is_percent : ℕ → Bool
is_percent byte = byte == 37

-- a line end, a space or a tab
abbrev pub is_skipped : ℕ → Bool
is_skipped byte = (byte == 13) || (byte == 10) || (byte == 32) || (byte == 9)

abbrev pub IsSkipped : ℕ → Type 0
IsSkipped byte = is_skipped byte ≡ true

abbrev pub is_digit : ℕ → Bool
is_digit byte = nat_le 48 byte && nat_le byte 57

-- a control character other than those: no command holds it
abbrev pub is_control : ℕ → Bool
is_control byte = (nat_lt byte 32 || (byte == 127)) && not (is_skipped byte)

-- what an extended command may not hold, unless its text is free
abbrev pub is_forbidden_in_code : ℕ → Bool
is_forbidden_in_code byte = is_control byte || nat_le 128 byte

-- what a word may not hold, unless it is a comment
abbrev pub is_forbidden_in_plain : ℕ → Bool
is_forbidden_in_plain byte = is_forbidden_in_code byte || (byte == 37)
