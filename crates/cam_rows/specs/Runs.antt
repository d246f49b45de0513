-- Runs: the columns of a row that a shape holds, side by side, in rows of up to 32,768 centres.
use Rattle.std.specs.Prelude.{◌↔◌, ℕ, ◌<◌, ◌≤◌, List, None, Option, Some, length, slice_index, pos, ◌≤ℤ◌}
use Rattle.cam_units.specs.Board.{IsInReach}
use Rattle.cam_units.specs.declared.point.Spot.{Spot}
use Rattle.cam_rows.specs.declared.centres.Centres.{Centres}
use Rattle.cam_rows.specs.Rows.{centre_at, row_below}

-- the most columns of a row
abbrev pub most_columns : ℕ
most_columns = 32768

-- up to so many centres, each right of the one before it, all of them places of the board, or as they are seen from a
-- point of it
pub record IsWideRow (c : Centres) : Type 0 where
  pub count : (1 ≤ c.n) × (c.n ≤ most_columns)
  pub step : pos 1 ≤ℤ c.step
  pub centres : (i : ℕ) → i < c.n → IsInReach (centre_at c i)

-- so many of them, one below another from the top one
abbrev pub AreWideRows : Centres → ℕ → Type 0
AreWideRows top n = (k : ℕ) → k < n → IsWideRow (row_below top k)

-- a column is one of a run: from a first one on, and before an end
abbrev pub IsInRun : ℕ → ℕ → ℕ → Type 0
IsInRun first end i = (first ≤ i) × (i < end)

-- the first columns of runs and their ends, in rows one below another from the top one: a column of a row is in its run
-- exactly where the shape holds its centre, and no run goes on behind the last column
pub record AreRuns (firsts ends : List ℕ) (top : Centres) (IsIn : Spot → Type 0) : Type 0 where
  pub each : (k i : ℕ) → k < length firsts → i < top.n
      → IsInRun (slice_index firsts k) (slice_index ends k) i ↔ IsIn (centre_at (row_below top k) i)
  pub within : (k : ℕ) → k < length firsts → slice_index ends k ≤ top.n

-- the end of a row's run: one for all rows, where there is one, and else that which is written for the row
abbrev pub end_in : Option ℕ → List ℕ → ℕ → ℕ
end_in (Some end) ends k = end
end_in None ends k = slice_index ends k

-- runs from the leftmost column on, by their ends, in so many rows one below another from the top one: a column of a row
-- lies before its row's end exactly where the shape holds its centre, and no run goes on behind the last column
pub record AreEnds (end : ℕ → ℕ) (rows : ℕ) (top : Centres) (IsIn : Spot → Type 0) : Type 0 where
  pub each : (k i : ℕ) → k < rows → i < top.n → (i < end k) ↔ IsIn (centre_at (row_below top k) i)
  pub within : (k : ℕ) → k < rows → end k ≤ top.n

-- of the columns that are in the runs of rows all are found that a shape holds, and no column that it does not hold
pub record AreFound (firsts ends : List ℕ) (top : Centres) (IsIn : Spot → Type 0) (new_firsts new_ends : List ℕ)
    : Type 0 where
  pub held : (k i : ℕ) → k < length firsts → i < top.n
      → IsInRun (slice_index new_firsts k) (slice_index new_ends k) i → IsIn (centre_at (row_below top k) i)
  pub all : (k i : ℕ) → k < length firsts → i < top.n
      → IsInRun (slice_index firsts k) (slice_index ends k) i → IsIn (centre_at (row_below top k) i)
      → IsInRun (slice_index new_firsts k) (slice_index new_ends k) i
