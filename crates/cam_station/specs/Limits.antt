-- The limit of a station.
use Rattle.std.specs.Prelude.{ℕ}

-- how many layers there may be
abbrev pub layer_limit : ℕ
layer_limit = 32
