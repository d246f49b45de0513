-- Columns of runs, by the bits of masks.
use Rattle.std.proofs.Common.{ap, sym, subst, ◌∙◌, ◌≡◌, ◌↔◌, ℕ, ◌+◌, ◌-◌, ◌<◌, ◌≤◌, ℤ, pos, ◌+ℤ◌, ◌-ℤ◌, ◌*ℤ◌, ◌≤ℤ◌, List, length}
use Rattle.std.proofs.Common.{slice_index, arith}
use borrow.Rule.Slice.PartMut.{mid_of, put_mid}
use Rattle.cam_units.specs.Board.{IsOnBoard}
use Rattle.cam_units.specs.declared.point.Point.{Point}
use Rattle.cam_units.specs.declared.point.Spot.{Spot}
use Rattle.cam_units.proofs.Ring.{equal}
use Rattle.cam_units.proofs.Ring.Polynomial.{Atom, Difference, Product}
use Rattle.cam_objects.specs.Image.{relative}
use Rattle.cam_rows.specs.declared.centres.Centres.{Centres}
use Rattle.cam_rows.specs.Rows.{centre_at, row_below}
use Rattle.cam_rows.specs.Runs.{AreFound, AreWideRows, IsInRun}
use Rattle.cam_tiles.specs.declared.grid.Grid.{Grid}
use Rattle.cam_tiles.specs.declared.masks.heights.Heights.{Heights}
use Rattle.cam_tiles.specs.declared.masks.runs.Runs.{Runs}
use Rattle.cam_tiles.specs.Machinery.Levels.{height, levels_of}
use Rattle.cam_tiles.specs.Machinery.Masks.{IsWithin}
use Rattle.cam_tiles.specs.Machinery.Runs.{Finds, Fits, HasColumn, IsClear, IsWideGrid, Tells}
use Rattle.cam_tiles.specs.Tiles.{centre_in}
use Rattle.cam_tiles.proofs.JoinedCentres.{of_part}
use Rattle.cam_tiles.proofs.SeenRows.{in_reach}
use Rattle.cam_tiles.proofs.TurnedBands.{below_seen, part_at, part_length}

-- ---- runs in the rows of a grid

pub without_rows : (rows : ℕ) (r : Runs) → IsClear r → Fits rows r
without_rows rows r clear = omega (arith, clear.low)

-- runs that hold nothing
pub tells_nothing : (g : Grid) (columns : ℕ) (r : Runs) → IsClear r → Tells g columns (λ s. ⊥) r
tells_nothing g columns r clear = grind (arith, without_rows)

-- rows of a grid at some heights, as they are seen from a point
abbrev pub IsBand : Grid → Point → Heights → ℕ → ℕ → Type 0
IsBand g at h first end =
    (row : ℕ) → row < g.rows → ((first ≤ row) × (row < end)) ↔ IsWithin h (relative at (centre_in g 0 row))

-- nothing is held in a band without rows
pub tells_none : (g : Grid) (columns first end : ℕ) (at : Point) (h : Heights) (IsHeld : Spot → Type 0) (r : Runs)
    → end ≤ first → IsBand g at h first end → IsClear r
    → Tells g columns (λ s. IsHeld (relative at s) × IsWithin h (relative at s)) r
tells_none g columns first end at h IsHeld r empty rows clear = grind (arith, without_rows)

-- the rows below one of a grid that goes on to the right
pub wide_below : (g : Grid) (columns n : ℕ) (at : Point) (top : Centres) (first : ℕ)
    → ((i : ℕ) → centre_at top i ≡ relative at (centre_in g i first)) → IsWideGrid g columns → IsOnBoard at
    → top.n ≡ columns → pos 1 ≤ℤ top.step → first + n ≤ g.rows → AreWideRows top n
wide_below g columns n at top first centres wide board count step within k below = record {
  count = rw count wide.count;
  step = step;
  centres = λ i inside. rw (below_seen g at top first centres k i) (in_reach at (centre_in g i (first + k)) board
      (wide.centres i (first + k) (rw (← count) inside) (omega (arith, within, below))));
}

pub tells_band : (g : Grid) (columns first end : ℕ) (at : Point) (h : Heights) (IsHeld : Spot → Type 0) (top : Centres)
    (clear clear_ends firsts ends : List ℕ)
    → ((i : ℕ) → centre_at top i ≡ relative at (centre_in g i first)) → top.n ≡ columns → first < end
    → end ≤ g.rows → g.rows ≤ 64 → length clear ≡ 64 → length clear_ends ≡ 64 → length firsts ≡ end - first
    → length ends ≡ end - first → IsBand g at h first end
    → ((k i : ℕ) → k < length firsts → i < top.n
    → IsInRun (slice_index firsts k) (slice_index ends k) i ↔ IsHeld (centre_at (row_below top k) i))
    → Tells g columns (λ s. IsHeld (relative at s) × IsWithin h (relative at s)) (record {
      band = record { first = first; end = end };
      firsts = put_mid first (end - first) clear firsts;
      ends = put_mid first (end - first) clear_ends ends;
    })
tells_band g columns first end at h IsHeld top clear clear_ends firsts ends centres count some low few whole
    whole_ends firsts_size ends_size rows told =
    let long : end ≤ length clear = omega (arith, whole, low, few) in
    let long_ends : end ≤ length clear_ends = omega (arith, whole_ends, low, few) in
    record {
      fits = low;
      each = λ column row near within.
          let s = relative at (centre_in g column row) in
          let inside = rows row within in
          let here : first ≤ row → row < end
          → IsInRun (slice_index (put_mid first (end - first) clear firsts) row)
          (slice_index (put_mid first (end - first) clear_ends ends) row) column ↔ IsHeld s = λ after until.
          let k = row - first in
          let same : first + k ≡ row = omega arith in
          rw (
            part_at first end clear firsts some long firsts_size row after until,
            part_at first end clear_ends ends some long_ends ends_size row after until,
          )
          (rw (below_seen g at top first centres k column, same) at (told k column (omega (arith, firsts_size, until, after)) (rw count near))) in (
            (λ on. ((here on.0 on.1).0 on.2, inside.0 (on.0, on.1))),
            (λ held.
                let band = inside.1 held.1 in
                (band.0, band.1, (here band.0 band.1).1 held.0)),
          );
    }

-- other runs, but for those of the band
abbrev pub in_band_of : Runs → List ℕ → List ℕ → Runs
in_band_of r firsts ends =
    let first = r.band.first in
    let size = r.band.end - first in
    record { band = r.band; firsts = put_mid first size r.firsts firsts; ends = put_mid first size r.ends ends }

-- those of a shape where other runs are
pub finds_band : (g : Grid) (columns : ℕ) (at : Point) (IsHeld : Spot → Type 0) (others : Runs) (top : Centres)
    (firsts ends : List ℕ)
    → (let first = others.band.first in
    let end = others.band.end in
    ((i : ℕ) → centre_at top i ≡ relative at (centre_in g i first)) → top.n ≡ columns → first < end
    → end ≤ g.rows → g.rows ≤ 64 → length others.firsts ≡ 64 → length others.ends ≡ 64 → length firsts ≡ end - first
    → length ends ≡ end - first
    → AreFound (mid_of first (end - first) others.firsts) (mid_of first (end - first) others.ends) top IsHeld firsts ends
    → Finds g columns (λ s. IsHeld (relative at s)) others (in_band_of others firsts ends))
finds_band g columns at IsHeld others top firsts ends centres count some low few whole whole_ends firsts_size ends_size found =
    let first = others.band.first in
    let end = others.band.end in
    let long : end ≤ length others.firsts = omega (arith, whole, low, few) in
    let long_ends : end ≤ length others.ends = omega (arith, whole_ends, low, few) in
    let size = part_length first end others.firsts some long in
    let place : (row : ℕ) → first ≤ row → row < end → (column : ℕ)
    → centre_at (row_below top (row - first)) column ≡ relative at (centre_in g column row) = λ row after until column.
    let same : first + (row - first) ≡ row = omega (arith, after) in
    below_seen g at top first centres (row - first) column ∙ ap (λ k. relative at (centre_in g column k)) same in
    record {
      fits = low;
      held = λ column row near within on.
          let here = rw (
            part_at first end others.firsts firsts some long firsts_size row on.0 on.1,
            part_at first end others.ends ends some long_ends ends_size row on.0 on.1,
          ) at on.2 in
          subst IsHeld (place row on.0 on.1 column)
          (found.held (row - first) column (omega (arith, size, on.0, on.1)) (rw count near) here);
      all = λ column row near within on held.
          let was = rw (
            ← of_part first end others.firsts firsts some long firsts_size row on.0 on.1,
            ← of_part first end others.ends ends some long_ends ends_size row on.0 on.1,
          ) at on.2 in
          let here = found.all (row - first) column (omega (arith, size, on.0, on.1)) (rw count near) was
          (subst IsHeld (sym (place row on.0 on.1 column)) held) in (
            on.0,
            on.1,
            rw (
              part_at first end others.firsts firsts some long firsts_size row on.0 on.1,
              part_at first end others.ends ends some long_ends ends_size row on.0 on.1,
            ) here,
          );
    }

-- and where none of them has a column
no_columns : (others : Runs) (firsts ends : List ℕ) (row column : ℕ) → others.band.first < others.band.end
    → others.band.end ≤ length others.firsts → others.band.end ≤ length others.ends
    → length firsts ≡ others.band.end - others.band.first → length ends ≡ others.band.end - others.band.first
    → ((k : ℕ) → k < length firsts → slice_index ends k ≤ slice_index firsts k)
    → HasColumn (in_band_of others firsts ends) row column → ⊥
no_columns others firsts ends row column some long long_ends firsts_size ends_size none on = grind (arith, part_at)

pub finds_none : (g : Grid) (columns : ℕ) (IsHeld : Spot → Type 0) (others : Runs) (firsts ends : List ℕ)
    → others.band.first < others.band.end → others.band.end ≤ length others.firsts → others.band.end ≤ length others.ends
    → length firsts ≡ others.band.end - others.band.first → length ends ≡ others.band.end - others.band.first
    → Finds g columns IsHeld others (in_band_of others firsts ends)
    → ((k : ℕ) → k < length firsts → slice_index ends k ≤ slice_index firsts k)
    → (r : Runs) → IsClear r → Finds g columns IsHeld others r
finds_none g columns IsHeld others firsts ends some long long_ends firsts_size ends_size finds none r clear = record {
  fits = without_rows g.rows r clear;
  held = λ column row _ _ on. absurd (clear.none row column on);
  all = λ column row near within on held.
      absurd (no_columns others firsts ends row column some long long_ends firsts_size ends_size none
      (finds.all column row near within on held));
}

-- a shape that lies between the heights
pub tells_whole : (g : Grid) (columns : ℕ) (at : Point) (h : Heights) (IsHeld : Spot → Type 0) (r : Runs)
    → ((s : Spot) → IsHeld s → IsWithin h s)
    → Tells g columns (λ s. IsHeld (relative at s) × IsWithin h (relative at s)) r
    → Tells g columns (λ s. IsHeld (relative at s)) r
tells_whole g columns at h IsHeld r heights told = grind arith

-- ---- rows that go on to the right

abbrev pub top_of : Grid → ℕ → ℕ → Centres
top_of g columns first = record { x = g.x; y = height (levels_of g) first; step = g.step; n = columns }

pub further_down : (y step : ℤ) (first k : ℕ) → y -ℤ pos first *ℤ step -ℤ pos k *ℤ step ≡ y -ℤ pos (first + k) *ℤ step
further_down y step first k =
    equal
    (Difference (Difference (Atom y) (Product (Atom (pos first)) (Atom step))) (Product (Atom (pos k)) (Atom step)))
    (Difference (Atom y) (Product (Atom (pos (first + k))) (Atom step)))
    (omega arith)

module _ (g : Grid) (columns first : ℕ) where
  pub below_top : (k i : ℕ) → centre_at (row_below (top_of g columns first) k) i ≡ centre_in g i (first + k)
  below_top k i = λ j. record {
    x = g.x +ℤ pos i *ℤ g.step;
    y = further_down g.y g.step first k j;
  }
