-- Words of tiles side by side that are joined, one after another.
use Rattle.std.proofs.Common.{◌≡◌, ◌↔◌, ℕ, ◌+◌, ◌-◌, ◌*◌, ◌/◌, ◌%◌, ◌<◌, ◌≤◌, ◌⊎◌, IsTrue, List, length, slice_index, slice_set, min}
use Rattle.std.proofs.Common.{get_or-set_other, get_or-set_same, inl, inr, arith}
use Rattle.std.specs.Int.{IsBitSet}
use Rattle.std.proofs.lemmas.Bool.{cases_eq, cases_lt, eq-eqb, eqb-true}
use Rattle.std.proofs.lemmas.List.{get_or_past}
use Rattle.cam_tiles.specs.Machinery.Marks.{is_marked, is_set}
use Rattle.cam_rows.specs.Runs.{IsInRun}
use Rattle.cam_rows.proofs.SetBits.{none_set, set_is_one}
use Rattle.cam_apertures.proofs.Painting.{round, through}
use Rattle.cam_tiles.specs.declared.masks.join.Join.{Join}
use Rattle.cam_tiles.specs.declared.masks.runs.Runs.{Runs}
use Rattle.cam_tiles.specs.Machinery.Masks.{joined}
use Rattle.cam_tiles.specs.Machinery.Runs.{HasColumn}
use Rattle.cam_tiles.specs.Machinery.Words.{JoinsColumns}
use Rattle.cam_tiles.proofs.Joined.{joined_like, joined_none}

-- ---- one mark

-- joined with one after the other
joined_twice : (how : Join) (New Now Was P Q R : Type 0) → R ↔ (P ⊎ Q) → Now ↔ joined how Was P → New ↔ joined how Now Q
    → New ↔ joined how Was R
joined_twice how New Now Was P Q R either first second = grind arith

pub bit_told : (word i : ℕ) → IsTrue (is_set word i) ↔ IsBitSet word i
bit_told word i = grind (arith, set_is_one, eqb-true, eq-eqb)

-- no bit is set in words of 0
pub none_marked : (words : List ℕ) → ((k : ℕ) → k < length words → slice_index words k ≡ 0) → (row column : ℕ)
    → IsTrue (is_marked words row column) → ⊥
none_marked words none row column on = grind (arith, cases_lt, get_or_past, none_set, bit_told)

-- ---- columns

module _ (columns : ℕ) (how : Join) where
  pub joins_none : (P : ℕ → ℕ → Type 0) (words : List ℕ) → ((row column : ℕ) → P row column → ⊥)
      → JoinsColumns columns how P words words
  joins_none P words none = grind (arith, joined_none)

  pub joins_more : (P Q R : ℕ → ℕ → Type 0) (old now new : List ℕ)
      → ((row column : ℕ) → row < 64 → column < columns → R row column ↔ (P row column ⊎ Q row column))
      → JoinsColumns columns how P old now → JoinsColumns columns how Q now new → JoinsColumns columns how R old new
  joins_more P Q R old now new either first second = grind (arith, joined_twice)

  -- one word more: bit i of it is column i of its tile
  pub word_joined : (words : List ℕ) (tile row place word bits : ℕ) → place ≡ 64 * tile + row → row < 64
      → place < length words
      → ((i : ℕ) → i < 64 → IsBitSet word i ↔ joined how (IsBitSet (slice_index words place) i) (IsBitSet bits i))
      → JoinsColumns columns how (λ r column. (r ≡ row) × (column / 64 ≡ tile) × IsBitSet bits (column % 64)) words
      (slice_set words place word)
  word_joined words tile row place word bits is low inside set = record {
    each = λ r column small near.
        let i = column % 64 in
        let at = 64 * (column / 64) + r in
        elim (cases_eq at place) [
          | inl e ↦
              let own : r ≡ row = omega (arith, e, is) in
              let there : column / 64 ≡ tile = omega (arith, e, is) in
              rw (e, get_or-set_same words place word 0 inside) (
              through (bit_told word i)
              (joined_like how _ _ _ _ _ (round (bit_told (slice_index words place) i))
              ((λ on. (own, there, on)), (λ held. held.2)) (set i (omega arith)))
              )
          | inr apart ↦
              rw (get_or-set_other words place at word 0 apart)
              (joined_none how _ _ (λ held. apart (omega (arith, held.0, held.1, is))))
        ];
  }

pub joins_fewer : (columns more : ℕ) (how : Join) (P : ℕ → ℕ → Type 0) (old new : List ℕ) → columns ≤ more
    → JoinsColumns more how P old new → JoinsColumns columns how P old new
joins_fewer columns more how P old new few h = grind arith

-- ---- what one word more holds

-- the next word of all
pub next_word : (others : List ℕ) (k r column : ℕ) → r < 64
    → ((64 * (column / 64) + r < k + 1) × IsTrue (is_marked others r column))
    ↔ (((64 * (column / 64) + r < k) × IsTrue (is_marked others r column))
    ⊎ ((r ≡ k % 64) × (column / 64 ≡ k / 64) × IsBitSet (slice_index others k) (column % 64)))
next_word others k r column small = grind (arith, cases_lt, bit_told)

-- the part of a run in the next tile
pub next_part : (row first end tile from to bits r column : ℕ) → first / 64 ≤ tile → from ≡ first - 64 * tile
    → to ≡ min (end - 64 * tile) 64 → ((i : ℕ) → i < 64 → IsBitSet bits i ↔ ((from ≤ i) × (i < to)))
    → ((r ≡ row) × IsInRun first (min end (64 * (tile + 1))) column)
    ↔ (((r ≡ row) × IsInRun first (min end (64 * tile)) column)
    ⊎ ((r ≡ row) × (column / 64 ≡ tile) × IsBitSet bits (column % 64)))
next_part row first end tile from to bits r column after is_from is_to set = grind (arith, cases_lt)

-- the run of the next row
pub next_run : (runs : Runs) (columns k end r column : ℕ) → runs.band.first ≤ k → k < runs.band.end
    → end ≡ min (slice_index runs.ends k) columns → column < columns
    → ((r < k + 1) × HasColumn runs r column)
    ↔ (((r < k) × HasColumn runs r column) ⊎ ((r ≡ k) × IsInRun (slice_index runs.firsts k) end column))
next_run runs columns k end r column after until is near = grind (arith, cases_eq)
