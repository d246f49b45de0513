-- The bytes that a Gerber file may hold anywhere without a meaning. Gerber Layer Format Specification, "Character set".
use Rattle.std.specs.Prelude.{ℕ, List, Bool, false, ◌==◌, ◌||◌, not, filter}
use Rattle.cam_numbers.specs.declared.blanks.Blanks.{Blanks}
use Rattle.cam_numbers.specs.declared.blanks.Blanks.TheVariants.{Refused, Skipped}

-- a line end, a space or a tab
abbrev pub is_blank_byte : ℕ → Bool
is_blank_byte byte = (byte == 13) || (byte == 10) || (byte == 32) || (byte == 9)

-- is passed over
abbrev pub passes : Blanks → ℕ → Bool
passes Refused byte = false
passes Skipped byte = is_blank_byte byte

-- a run without the bytes that are passed over
abbrev pub without_blanks : Blanks → List ℕ → List ℕ
without_blanks Refused run = run
without_blanks Skipped run = filter (λ byte. not (is_blank_byte byte)) run
