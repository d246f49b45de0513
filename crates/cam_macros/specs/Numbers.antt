-- Numbers of macros, in 10^-9 units. Gerber Layer Format Specification, "Aperture macro (AM)".
use Rattle.std.specs.Prelude.{ℕ, ◌+◌, ◌*◌, List}
use Rattle.cam_numbers.specs.Numbers.{value_of, billionths}

-- one unit, in 10^-9 units
abbrev pub billion : ℕ
billion = 1000000000

-- the number that digits before and behind a point write; past the ninth decimal nothing counts
abbrev pub number_written : List ℕ → List ℕ → ℕ
number_written whole decimals = value_of whole * billion + billionths decimals
