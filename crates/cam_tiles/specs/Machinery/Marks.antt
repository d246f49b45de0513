-- Marks in rows of tiles side by side: each turns over all columns left of it, and its own. Those of its own tile it turns
-- over in the words of the tile; it turns over all columns of a tile left of that, as it does the first one of its own.
use Rattle.std.specs.Prelude.{◌≡◌, ◌↔◌, ◌⊎◌, ℕ, zero, suc, ◌+◌, ◌-◌, ◌*◌, ◌/◌, ◌%◌, ◌<◌, ◌≤◌, ◌==◌, Bool, false, IsTrue, List, length}
use Rattle.std.specs.Prelude.{slice_index}
use Rattle.std.specs.Int.{bit_at}
use Rattle.cam_shapes.specs.Sides.{differ}

-- whether a test holds of an odd number of so many tiles, from one on
abbrev pub is_odd : (ℕ → Bool) → ℕ → ℕ → Bool
is_odd holds zero tile = false
is_odd holds (suc n) tile = differ (holds tile) (is_odd holds n (tile + 1))

-- whether bit i of a word is set
abbrev pub is_set : ℕ → ℕ → Bool
is_set word i = bit_at word i == 1

-- whether a column of a row is marked: each tile has 64 words, one for each of its rows, from the top, and its columns
-- are their bits
abbrev pub is_marked : List ℕ → ℕ → ℕ → Bool
is_marked marks row column = is_set (slice_index marks (64 * (column / 64) + row)) (column % 64)

-- whether what is marked of a tile in a row turns over the columns of all tiles left of it
abbrev pub turns_past : List ℕ → ℕ → ℕ → Bool
turns_past marks row tile = is_set (slice_index marks (64 * tile + row)) 0

-- whether a column of a row is turned over: an odd number of times by its own tile and those right of it
abbrev pub is_turned : List ℕ → ℕ → ℕ → Bool
is_turned marks row column =
    differ (is_marked marks row column)
    (is_odd (turns_past marks row) (length marks / 64 - (column / 64 + 1)) (column / 64 + 1))

-- the columns of a row that something holds are turned over, and the others stay as they were
abbrev pub TurnsRow : ℕ → (ℕ → Type 0) → List ℕ → List ℕ → Type 0
TurnsRow row IsHeld old new =
    (r column : ℕ) → r < 64 → column < length old
    → (let was = IsTrue (is_turned old r column) in
    let held = (r ≡ row) × IsHeld column in
    IsTrue (is_turned new r column) ↔ ((was × (held → ⊥)) ⊎ ((was → ⊥) × held)))

-- and in so many rows from one on those that something holds, by the number of the row among these
abbrev pub TurnsRows : ℕ → ℕ → (ℕ → ℕ → Type 0) → List ℕ → List ℕ → Type 0
TurnsRows first rows IsHeld old new =
    (r column : ℕ) → r < 64 → column < length old
    → (let was = IsTrue (is_turned old r column) in
    let held = (first ≤ r) × (r < first + rows) × IsHeld (r - first) column in
    IsTrue (is_turned new r column) ↔ ((was × (held → ⊥)) ⊎ ((was → ⊥) × held)))

-- the columns that are turned in one list of marks are marked in another
abbrev pub AreSpread : List ℕ → List ℕ → Type 0
AreSpread old new =
    (row column : ℕ) → row < 64 → column < length old
    → is_marked new row column ≡ is_turned old row column
