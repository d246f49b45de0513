-- Lengths as canonical texts write them: coordinates of Gerber operations as whole nm, all others in millimetres with
-- exactly six decimals. Gerber Layer Format Specification, "Coordinate data"; XNC Format Specification, "Coordinates"
-- and "Tool declaration".
use Rattle.std.specs.Prelude.{ℕ, suc, ◌+◌, ◌*◌, ◌/◌, ◌%◌, ℤ, pos, negsuc, neg_ℤ, List, [], ◌∷◌, ◌++◌, decimal}

-- the last digit of a number
abbrev pub last_digit : ℕ → ℕ
last_digit n = 48 + n % 10

-- its last six digits
abbrev pub last_six : ℕ → List ℕ
last_six n =
    last_digit (n / 100000) ∷ last_digit (n / 10000) ∷ last_digit (n / 1000)
    ∷ last_digit (n / 100) ∷ last_digit (n / 10) ∷ last_digit n ∷ []

-- so many nm, in mm: the point is 46
unfoldable pub unsigned_mm : ℕ → List ℕ
unsigned_mm nm = decimal (nm / 1000000) ++ 46 ∷ last_six nm

-- a length in nm, in mm: `-`, which is 45, stands before what is below 0
abbrev pub mm : ℤ → List ℕ
mm (pos nm) = unsigned_mm nm
mm (negsuc nm) = 45 ∷ unsigned_mm (suc nm)

-- a length in nm, as a whole number
abbrev pub whole : ℤ → List ℕ
whole (pos nm) = decimal nm
whole (negsuc nm) = 45 ∷ decimal (suc nm)

-- a length in nm as a number of mm, in 10^-9 of a mm
abbrev pub scaled : ℤ → ℤ
scaled (pos nm) = pos (nm * 1000)
scaled (negsuc nm) = neg_ℤ (pos (suc nm * 1000))
