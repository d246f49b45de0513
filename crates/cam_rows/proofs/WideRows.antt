-- Wide rows and their runs.
use Rattle.std.proofs.Common.{rules, ◌≡◌, ℕ, ◌+◌, ◌-◌, ◌<◌, ◌≤◌, ◌≢◌, ◌↔◌, List, length, slice_index, slice_set, ℤ, pos, ◌-ℤ◌}
use Rattle.std.proofs.Common.{◌*ℤ◌, ◌≤ℤ◌, ◌<ℤ◌, get_or-set_other, get_or-set_same, inl, inr, subst, arith}
use Rattle.std.proofs.lemmas.Bool.{cases_lt}
use Rattle.std.proofs.lemmas.Int.{ints}
use Rattle.cam_units.specs.Board.{IsOnBoard}
use Rattle.cam_units.specs.Boxes.{IsInBox}
use Rattle.cam_units.specs.declared.point.Point.{Point}
use Rattle.cam_units.specs.declared.point.Spot.{Spot}
use Rattle.cam_shapes.specs.Plane.{seen_from, square}
use Rattle.cam_rows.specs.declared.centres.Centres.{Centres}
use Rattle.cam_rows.specs.declared.half_plane.HalfPlane.{HalfPlane}
use Rattle.cam_rows.specs.declared.chord.Offsets.{Offsets}
use Rattle.cam_rows.specs.Machinery.Chords.{AreOffsetsFrom, AreWideOffsets, offset}
use Rattle.cam_rows.specs.Machinery.HalfPlanes.{IsHalfPlaneOf}
use Rattle.cam_rows.specs.Machinery.Narrowing.{AreNarrowed, IsInRow, IsNearer, IsUp}
use Rattle.cam_rows.specs.Rows.{centre_at, first_centre, row_below}
use Rattle.cam_rows.specs.Runs.{AreRuns, AreWideRows, IsInRun, IsWideRow}
use Rattle.cam_rows.proofs.Chords.{seen_in_chord}
use Rattle.cam_rows.proofs.Columns.{offset_is, offset_short}
use Rattle.cam_rows.proofs.NarrowedRuns.{run_by}
use Rattle.cam_rows.proofs.Slopes.{top_row}

-- the top row is the first of them
pub top_is_wide : (top : Centres) (n : ℕ) → 0 < n → AreWideRows top n → IsWideRow top
top_is_wide top n some rows = subst IsWideRow (top_row top) (rows 0 some)

-- how far the centres lie from a point
module _ (row : Centres) (p : Point) (first step : ℤ) (wide : IsWideRow row) (e : first ≡ row.x -ℤ pos 2 *ℤ p.x)
    (f : step ≡ row.step) where
  pub offsets_from : AreOffsetsFrom row p (record { first = first; step = step; count = row.n })
  offsets_from = grind (arith, offset_is)

  pub wide_offsets : IsOnBoard p → AreWideOffsets (record { first = first; step = step; count = row.n })
  wide_offsets on = grind (arith, offset_short, ints)

-- ---- runs that are narrowed

-- every place
abbrev pub IsAny : Spot → Type 0
IsAny s = 0 ≤ 0

pub whole_runs : (firsts ends : List ℕ) (top : Centres) → ((k : ℕ) → k < length firsts → slice_index firsts k ≡ 0)
    → ((k : ℕ) → k < length firsts → slice_index ends k ≡ top.n) → AreRuns firsts ends top IsAny
whole_runs firsts ends top begin end = grind arith

pub runs_kept : (firsts ends new_firsts new_ends : List ℕ) (top : Centres) (P Q : Spot → Type 0)
    → AreRuns firsts ends top P
    → AreNarrowed top.n firsts ends (λ k i. Q (centre_at (row_below top k) i)) (length firsts) new_firsts new_ends
    → length new_firsts ≡ length firsts → AreRuns new_firsts new_ends top (λ s. P s × Q s)
runs_kept firsts ends new_firsts new_ends top P Q runs narrowed size = grind arith

-- none of the columns is held
pub empty_runs : (firsts ends : List ℕ) (top : Centres) (P : Spot → Type 0)
    → ((k : ℕ) → k < length firsts → slice_index ends k ≡ 0) → ((s : Spot) → P s → ⊥) → AreRuns firsts ends top P
empty_runs firsts ends top P end none = grind arith

-- to a half plane, by its numbers
pub half_narrowed : (columns : ℕ) (firsts ends new_firsts new_ends : List ℕ) (top : Centres) (Q : Spot → Type 0)
    (h : HalfPlane) → IsHalfPlaneOf top Q h
    → AreNarrowed columns firsts ends (IsUp h) (length firsts) new_firsts new_ends
    → AreNarrowed columns firsts ends (λ k i. Q (centre_at (row_below top k) i)) (length firsts) new_firsts new_ends
half_narrowed columns firsts ends new_firsts new_ends top Q h half narrowed = record {
  each = λ k i within small. run_by _ _ _ _ (narrowed.each k i within small) (half.tells k i);
  within = narrowed.within;
  same_firsts = narrowed.same_firsts;
  same_ends = narrowed.same_ends;
}

pub runs_like : (firsts ends : List ℕ) (top : Centres) (P Q : Spot → Type 0) → ((s : Spot) → P s ↔ Q s)
    → AreRuns firsts ends top P → AreRuns firsts ends top Q
runs_like firsts ends top P Q same runs = grind arith

-- ---- runs that are found one after another

pub record AreRunsAbove (firsts ends : List ℕ) (top : Centres) (IsIn : Spot → Type 0) (end : ℕ) : Type 0 where
  pub each : (k i : ℕ) → k < end → i < top.n → IsInRow firsts ends k i ↔ IsIn (centre_at (row_below top k) i)
  pub within : (k : ℕ) → k < end → slice_index ends k ≤ top.n

pub no_run : (firsts ends : List ℕ) (top : Centres) (IsIn : Spot → Type 0) → AreRunsAbove firsts ends top IsIn 0
no_run firsts ends top IsIn = grind arith

pub one_more_run : (firsts ends : List ℕ) (top : Centres) (IsIn : Spot → Type 0) (row first end : ℕ)
    → row < length firsts → row < length ends → AreRunsAbove firsts ends top IsIn row
    → ((i : ℕ) → i < top.n → IsInRun first end i ↔ IsIn (centre_at (row_below top row) i)) → end ≤ top.n
    → AreRunsAbove (slice_set firsts row first) (slice_set ends row end) top IsIn (row + 1)
one_more_run firsts ends top IsIn row first end in_firsts in_ends above here fits = record {
  each = λ k i early small. elim (cases_lt k row) [
    | inl before ↦
        let apart : k ≢ row = omega arith in
        rw (get_or-set_other, get_or-set_other) (above.each k i before small)
    | inr after ↦
        let is : k ≡ row = omega arith in
        rw (is, get_or-set_same, get_or-set_same) (here i small)
  ];
  within = λ k early. elim (cases_lt k row) [
    | inl before ↦ let apart : k ≢ row = omega arith in rw get_or-set_other (above.within k before)
    | inr after ↦ let is : k ≡ row = omega arith in rw (is, get_or-set_same) fits
  ];
}

pub all_found : (firsts ends : List ℕ) (top : Centres) (IsIn : Spot → Type 0) (end : ℕ) → length firsts ≤ end
    → AreRunsAbove firsts ends top IsIn end → AreRuns firsts ends top IsIn
all_found firsts ends top IsIn end all above = grind arith

-- ---- circles

pub in_no_run : (first end i : ℕ) (P : Type 0) → end ≡ 0 → (P → ⊥) → IsInRun first end i ↔ P
in_no_run first end i P none off = ((λ on. absurd (omega (arith, on.1, none))), (λ held. absurd (off held)))

-- a column of a row that lies so high, by its distance to the side
pub near_column : (top : Centres) (p : Point) (o : Offsets) (k i height room bound : ℕ) → AreOffsetsFrom top p o
    → pos height ≡ square (seen_from p (first_centre (row_below top k))).y → room ≡ bound - height
    → (square (offset o.first o.step i) <ℤ pos room) ↔ IsNearer p bound (centre_at (row_below top k) i)
near_column top p o k i height room bound columns e is = search (rules, seen_in_chord)

-- ---- boxes

-- a column between the sides of a box, in a row so high
pub in_box_run : (B R : Type 0) (low high s : Spot) (left right y : ℤ) → left ≡ low.x → right ≡ high.x → y ≡ s.y
    → R ↔ ((left ≤ℤ s.x) × (s.x ≤ℤ right)) → B ↔ (R × (low.y ≤ℤ y) × (y ≤ℤ high.y)) → B ↔ IsInBox low high s
in_box_run B R low high s left right y e f g strip high_enough = grind arith

-- what two facts say alike
pub by_strip : (B S N : Type 0) → B ↔ S → N ↔ S → B ↔ N
by_strip B S N told near = ((λ b. near.1 (told.0 b)), (λ n. told.1 (near.0 n)))
