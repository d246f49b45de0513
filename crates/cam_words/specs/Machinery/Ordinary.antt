-- Bytes that any word may hold, and that do not end it.
use Rattle.std.specs.Prelude.{ℕ, Bool, ◌&&◌, nat_le}

-- from `+` to `~`: nearly all bytes of a word
abbrev pub is_ordinary : ℕ → Bool
is_ordinary byte = nat_le 43 byte && nat_le byte 126
