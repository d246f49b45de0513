-- Obrounds by their distance from the line between their ends, in one quarter of the plane.
use Rattle.std.specs.Prelude.{ℕ, ◌+◌, ◌-◌, ◌*◌, ◌≤◌, min}

-- how far n is past m
abbrev pub past : ℕ → ℕ → ℕ
past m n = n - m

-- a place that is x to the side of the centre and y over it is in the obround of these sides: at most the shorter one
-- from the straight line between its ends
abbrev pub IsInQuarter : ℕ → ℕ → ℕ → ℕ → Type 0
IsInQuarter x y w h =
    let r = min w h in
    let across = past (w - r) x in
    let along = past (h - r) y in
    across * across + along * along ≤ r * r
