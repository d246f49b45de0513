-- Centres in the rows of tiles that are joined: those of an outline, by marks, in a part of the tiles.
use Rattle.std.proofs.Common.{◌≡◌, ◌↔◌, ℕ, ◌+◌, ◌-◌, ◌*◌, ◌/◌, ◌%◌, ◌<◌, ◌≤◌, IsTrue, List, ◌++◌, length, slice_index, min}
use Rattle.std.proofs.Common.{rules, arith}
use Rattle.std.proofs.lemmas.List.{get_or_append_left, places}
use borrow.Rule.Slice.PartMut.{mid_of, put_mid}
use Rattle.cam_units.specs.declared.point.Point.{Point}
use Rattle.cam_units.specs.declared.point.Spot.{Spot}
use Rattle.cam_objects.specs.Image.{relative}
use Rattle.cam_tiles.specs.Machinery.Marks.{is_marked}
use Rattle.cam_tiles.specs.declared.grid.Grid.{Grid}
use Rattle.cam_tiles.specs.declared.masks.join.Join.{Join}
use Rattle.cam_tiles.specs.Machinery.Masks.{joined}
use Rattle.cam_tiles.specs.Machinery.Turning.{AreWide, MarksCentres}
use Rattle.cam_tiles.specs.Machinery.Words.{JoinsCentres, JoinsColumns, part_seen}
use Rattle.cam_tiles.specs.Tiles.{centre_in}
use Rattle.cam_tiles.proofs.Joined.{joined_like, joined_none, same}
use Rattle.cam_tiles.proofs.SeenParts.{part_centre}
use Rattle.cam_tiles.proofs.TurnedBands.{by_band}

-- columns by what is held at their centres
pub columns_joined : (g : Grid) (columns all : ℕ) (how : Join) (IsHeld : ℕ → ℕ → Type 0) (P : Spot → Type 0)
    (old new : List ℕ) → g.rows ≤ 64 → columns ≤ all
    → ((column row : ℕ) → column < columns → row < g.rows → IsHeld row column ↔ P (centre_in g column row))
    → JoinsColumns all how IsHeld old new → JoinsCentres g columns how P old new
columns_joined g columns all how IsHeld P old new few within told h = grind (arith, joined_like, same)

-- nothing is held
pub none_joined : (g : Grid) (columns : ℕ) (how : Join) (P : Spot → Type 0) (old : List ℕ)
    → ((column row : ℕ) → column < columns → row < g.rows → P (centre_in g column row) → ⊥)
    → JoinsCentres g columns how P old old
none_joined g columns how P old none = grind (arith, joined_none)

-- words behind those of some columns change none of them
pub marks_kept : (g : Grid) (columns : ℕ) (P : Spot → Type 0) (part rest : List ℕ) → g.rows ≤ 64 → AreWide columns part
    → MarksCentres g columns P part → MarksCentres g columns P (part ++ rest)
marks_kept g columns P part rest few wide told column row near within = grind (arith, same, get_or_append_left)

-- ---- the words of a part of the tiles

module _ (first end : ℕ) (old part : List ℕ) (some : first < end) (long : end ≤ length old)
    (size : length part ≡ end - first) where
  pub before_part : (k : ℕ) → k < first → slice_index (put_mid first (end - first) old part) k ≡ slice_index old k
  before_part k early = search (rules, places)

  pub behind_part : (k : ℕ) → end ≤ k → slice_index (put_mid first (end - first) old part) k ≡ slice_index old k
  behind_part k late = search (rules, places)

  pub in_part : (k : ℕ) → first ≤ k → k < end
      → slice_index (put_mid first (end - first) old part) k ≡ slice_index part (k - first)
  in_part k after until = search (rules, places)

  pub of_part : (k : ℕ) → first ≤ k → k < end → slice_index (mid_of first (end - first) old) (k - first) ≡ slice_index old k
  of_part k after until = search (rules, places)

module _ (g : Grid) (columns : ℕ) (how : Join) (at : Point) (tile end past : ℕ) (P : Spot → Type 0)
    (old new : List ℕ) (some : tile < end) (long : 64 * end ≤ length old) (few : g.rows ≤ 64)
    (size : length new ≡ 64 * end - 64 * tile) (is : past ≡ min columns (64 * end))
    (held : (column row : ℕ) → column < columns → row < g.rows → P (relative at (centre_in g column row))
    → (64 * tile ≤ column) × (column < 64 * end)) where
  abbrev whole : List ℕ
  whole = put_mid (64 * tile) (64 * end - 64 * tile) old new

  abbrev was : List ℕ
  was = mid_of (64 * tile) (64 * end - 64 * tile) old

  kept : (column row : ℕ) → (P (relative at (centre_in g column row)) → ⊥)
      → slice_index whole (64 * (column / 64) + row) ≡ slice_index old (64 * (column / 64) + row)
      → IsTrue (is_marked whole row column)
      ↔ joined how (IsTrue (is_marked old row column)) (P (relative at (centre_in g column row)))
  kept column row none e = rw e (joined_none how _ _ none)

  pub part_joined : JoinsCentres (part_seen g tile at) (past - 64 * tile) how P was new
      → JoinsCentres g columns how (λ s. P (relative at s)) old whole
  part_joined h = record {
    each = λ column row near below.
        let k = 64 * (column / 64) + row in
        by_band (64 * tile) (64 * end) column
        (λ early. kept column row (λ on. omega (arith, (held column row near below on).0, early))
        (before_part (64 * tile) (64 * end) old new (omega (arith, some)) long size k (omega (arith, early, below, few))))
        (λ after until.
        let i = column - 64 * tile in
        let there : 64 * (i / 64) + row ≡ k - 64 * tile = omega (arith, after) in
        let bit : i % 64 ≡ column % 64 = omega (arith, after) in
        let place : 64 * tile + i ≡ column = omega (arith, after) in
        let inside : k < 64 * end = omega (arith, until, below, few) in
        let from : 64 * tile ≤ k = omega (arith, after) in
        let told = h.each i row (omega (arith, near, after, until, is)) below in
        let here = rw (part_centre g tile at i row, place) at told in
        rw (
          in_part (64 * tile) (64 * end) old new (omega (arith, some)) long size k from inside,
          ← of_part (64 * tile) (64 * end) old new (omega (arith, some)) long size k from inside,
        ) (rw (there, bit) at here))
        (λ late. kept column row (λ on. omega (arith, (held column row near below on).1, late))
        (behind_part (64 * tile) (64 * end) old new (omega (arith, some)) long size k (omega (arith, late))));
  }
