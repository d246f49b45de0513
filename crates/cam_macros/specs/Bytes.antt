-- The bytes of aperture macros (Gerber Layer Format Specification, "Aperture macro (AM)"). That of `*` is the words'.
use Rattle.std.specs.Prelude.{ℕ}

abbrev pub dollar : ℕ
dollar = 36

abbrev pub opening_parenthesis : ℕ
opening_parenthesis = 40

abbrev pub closing : ℕ
closing = 41

abbrev pub plus : ℕ
plus = 43

abbrev pub comma_sign : ℕ
comma_sign = 44

abbrev pub minus_sign : ℕ
minus_sign = 45

abbrev pub decimal_point : ℕ
decimal_point = 46

abbrev pub slash : ℕ
slash = 47

abbrev pub nought : ℕ
nought = 48

abbrev pub equals : ℕ
equals = 61

abbrev pub large_x : ℕ
large_x = 88

abbrev pub small_x : ℕ
small_x = 120
