-- The limits of files, layers and scripts.
use Rattle.std.specs.Prelude.{ℕ}

-- items of a layer, objects of a block or a repeat, segments of a contour, points of a rout
abbrev pub count_limit : ℕ
count_limit = 1000000

-- leaves of a layer, of an item and of a block; holes and slots of a drill layer
abbrev pub leaf_limit : ℕ
leaf_limit = 4000000

-- blocks in one another
abbrev pub depth_limit : ℕ
depth_limit = 8

-- file attributes of a layer
abbrev pub attribute_limit : ℕ
attribute_limit = 1000

-- the coordinates of a point and the steps of a repeat are under it in absolute value: a metre, in nanometres
abbrev pub board_limit : ℕ
board_limit = 1000000000

-- the greatest diameter, side or width: 200 mm, in nanometres
abbrev pub size_limit : ℕ
size_limit = 200000000

-- bytes of a file
abbrev pub file_limit : ℕ
file_limit = 268435456

-- bytes of a line of a script
abbrev pub line_limit : ℕ
line_limit = 65536
