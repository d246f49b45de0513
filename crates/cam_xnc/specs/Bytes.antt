-- The classes of bytes of an XNC file. XNC Format Specification, "Syntax".
use Rattle.std.specs.Prelude.{ℕ, List, Bool, ◌==◌, ◌||◌, ◌&&◌, not, nat_le, filter}
use Rattle.std.specs.List.{before_first, list_all}

-- LF or CR
abbrev pub is_line_end : ℕ → Bool
is_line_end byte = (byte == 10) || (byte == 13)

-- a space or a tab
abbrev pub is_line_blank : ℕ → Bool
is_line_blank byte = (byte == 32) || (byte == 9)

-- begins a comment: `;`
abbrev pub is_semicolon : ℕ → Bool
is_semicolon byte = byte == 59

-- what no line holds outside its comment
abbrev pub is_bad : ℕ → Bool
is_bad byte = not (is_line_blank byte) && not (nat_le 33 byte && nat_le byte 126)

-- a line without its comment
abbrev pub code_of : List ℕ → List ℕ
code_of text = before_first is_semicolon text

-- without its skipped bytes
abbrev pub line_packed : List ℕ → List ℕ
line_packed text = filter (λ byte. not (is_line_blank byte)) text

-- nothing but skipped bytes
abbrev pub is_blank : List ℕ → Bool
is_blank text = list_all is_line_blank text
