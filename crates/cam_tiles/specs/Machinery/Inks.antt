-- What is known of the pixels of tiles side by side that are painted from the last leaf on: which are decided, and which of
-- these are dark.
use Rattle.std.specs.Prelude.{◌≡◌, ◌⊎◌, ℕ, ◌*◌, ◌/◌, ◌<◌, ◌≤◌, Bool, true, false, if◌then◌else◌, List, [], length, slice_index}
use Rattle.std.specs.Prelude.{Option, None, Some, ◌&&◌, ◌||◌, ◌==◌, not, nat_le, nat_lt, is_none, slice_index_or}
use Rattle.std.specs.Option.{option_or}
use Rattle.cam_tiles.specs.Machinery.Marks.{is_marked, is_set}
use Rattle.cam_tiles.specs.declared.masks.figure_runs.FigureRuns.{FigureRuns}
use Rattle.cam_tiles.specs.declared.masks.inks.Inks.TheInside.{Inside}
use Rattle.cam_tiles.specs.declared.masks.runs.Runs.{Runs}
use Rattle.cam_tiles.specs.declared.span.Span.{Span}
use Rattle.cam_tiles.specs.Tables.{Tile}

-- so many tiles, with two words for each row of a tile, as marks have one
pub record Inked : Type 0 where
  pub tiles : ℕ
  pub decided : List ℕ
  pub dark : List ℕ

-- the ink of a column in a row, once it is decided
abbrev pub ink_at : Inked → ℕ → ℕ → Option Bool
ink_at k row column = if is_marked k.decided row column then Some (is_marked k.dark row column) else None

-- the ink of a bit of two words
abbrev pub ink_of : ℕ → ℕ → ℕ → Option Bool
ink_of decided dark i = if is_set decided i then Some (is_set dark i) else None

-- the polarity of a leaf, where it covers a place
abbrev pub given : Bool → Bool → Option Bool
given is_covered dark = if is_covered then Some dark else None

-- a word whose bits are all of a polarity
abbrev pub IsInk : Bool → ℕ → Type 0
IsInk dark word = (i : ℕ) → i < 64 → is_set word i ≡ dark

-- each column of a tile is decided
abbrev pub IsDoneTile : Inked → ℕ → Type 0
IsDoneTile k tile = (row column : ℕ) → row < 64 → column / 64 ≡ tile → is_marked k.decided row column ≡ true

-- In tiles from one to another, what is not decided takes a polarity where a test of rows and columns holds; all else stays.
pub record Takes (first end : ℕ) (holds : ℕ → ℕ → Bool) (dark : Bool) (old new : Inked) : Type 0 where
  pub tiles : new.tiles ≡ old.tiles
  pub each : (row column : ℕ) → row < 64 → column < 64 * old.tiles → 64 * first ≤ column → column < 64 * end
      → ink_at new row column ≡ option_or (ink_at old row column) (given (holds row column) dark)
  pub others : (row column : ℕ) → row < 64 → column < 64 * old.tiles → (column < 64 * first) ⊎ (64 * end ≤ column)
      → ink_at new row column ≡ ink_at old row column

-- whether a column of a row is in a run of one row
abbrev pub in_row : ℕ → ℕ → ℕ → ℕ → ℕ → Bool
in_row of first end row column = row == of && (nat_le first column && nat_lt column end)

-- whether it is one of some columns, and its row one of some rows
abbrev pub in_box : Span → ℕ → ℕ → ℕ → ℕ → Bool
in_box rows first end row column =
    (nat_le rows.first row && nat_lt row rows.end) && (nat_le first column && nat_lt column end)

-- whether it is in the run of its row
abbrev pub in_runs : Runs → ℕ → ℕ → Bool
in_runs r row column =
    (nat_le r.band.first row && nat_lt row r.band.end)
    && (nat_le (slice_index r.firsts row) column && nat_lt column (slice_index r.ends row))

-- whether it is in the run of a figure's body, and in none that is taken out of it
abbrev pub in_body : FigureRuns → ℕ → ℕ → Bool
in_body s row column = in_runs s.body row column && not (in_runs s.hollow row column || in_runs s.beyond row column)

-- so many tiles by their words
abbrev pub words_of : ℕ → List ℕ → List ℕ → Inked
words_of tiles decided dark = record { tiles = tiles; decided = decided; dark = dark }

-- what is undecided at first: the dirty ones of tiles, in so many columns and rows
abbrev pub is_open : List Tile → ℕ → ℕ → ℕ → ℕ → Bool
is_open tiles columns rows row column =
    nat_lt row rows && (nat_lt column columns && is_none (slice_index_or tiles (column / 64) (Some [])))

pub record AreOpen (those : List Tile) (columns rows : ℕ) (k : Inked) : Type 0 where
  pub tiles : k.tiles ≡ length those
  pub each : (row column : ℕ) → row < 64 → column < 64 * k.tiles
      → ink_at k row column ≡ (if is_open those columns rows row column then None else Some false)

-- ---- what is kept

abbrev pub inked_of : Inside → Inked
inked_of s = record { tiles = s.tiles; decided = s.decided.items; dark = s.dark.items }

-- so many rows of a tile from the top are decided all along
abbrev pub AreKnown : List ℕ → ℕ → ℕ → Type 0
AreKnown decided tile rows = (row column : ℕ) → row < rows → column / 64 ≡ tile → is_marked decided row column ≡ true

-- for each tile the number of one before which all tiles from it on are decided
pub record AreNext (tiles : ℕ) (next decided : List ℕ) : Type 0 where
  pub within : (tile : ℕ) → tile < tiles → slice_index next tile ≤ tiles
  pub known : (tile other : ℕ) → tile < tiles → tile ≤ other → other < slice_index next tile → AreKnown decided other 64

pub record IsInked (s : Inside) : Type 0 where
  pub few : s.tiles ≤ 512
  pub decided : 64 * s.tiles ≤ length s.decided.items
  pub dark : 64 * s.tiles ≤ length s.dark.items
  pub each : s.tiles ≤ length s.known.items
  pub known : (tile : ℕ) → tile < s.tiles
      → (slice_index s.known.items tile ≤ 64) × AreKnown s.decided.items tile (slice_index s.known.items tile)
  pub pointed : s.tiles ≤ length s.next.items
  pub next : AreNext s.tiles s.next.items s.decided.items
