-- The limits of layers and drill layers that are told of no file. The others are those of cam_refusals.
use Rattle.std.specs.Prelude.{ℕ}

-- the least and the greatest number of an aperture or a block
abbrev pub first_number : ℕ
first_number = 10

abbrev pub last_number : ℕ
last_number = 2147483647

-- the greatest number of a tool
abbrev pub last_tool : ℕ
last_tool = 9999

-- how far an item is moved at once along each axis: in nanometres
abbrev pub move_limit : ℕ
move_limit = 4000000000
