-- Columns that are the same in some rows: the boxes by which runs are taken.
use Rattle.std.proofs.Common.{max, min, ◌↔◌, ◌⊎◌, ℕ, ◌+◌, ◌*◌, ◌<◌, ◌≤◌, Bool, ◌&&◌, nat_lt, slice_index, IsTrue, inl, inr, arith}
use Rattle.std.proofs.lemmas.Bool.{and_from, and_parts, cases_eq, cases_lt, lt-ltb, ltb-true}
use Rattle.cam_rows.specs.Runs.{IsInRun}
use Rattle.cam_tiles.specs.declared.masks.runs.Runs.{Runs}
use Rattle.cam_tiles.specs.declared.span.Span.{Span}
use Rattle.cam_tiles.specs.Machinery.Inks.{in_box, in_row, in_runs}
use Rattle.cam_tiles.specs.Machinery.Runs.{AreAlike}
use Rattle.cam_tiles.proofs.RunInks.{row_told, runs_told, span_told}

pub box_told : (rows : Span) (first end row column : ℕ)
    → IsTrue (in_box rows first end row column) ↔ (IsInRun rows.first rows.end row × IsInRun first end column)
box_told rows first end row column = (
  (λ on. let h = and_parts _ _ on in ((span_told _ _ _).0 h.0, (span_told _ _ _).0 h.1)),
  (λ h. and_from _ _ ((span_told _ _ _).1 h.0) ((span_told _ _ _).1 h.1)),
)

-- those above one
abbrev pub in_box_above : Span → ℕ → ℕ → ℕ → ℕ → ℕ → Bool
in_box_above rows k first end row column = nat_lt row k && in_box rows first end row column

pub box_above_told : (rows : Span) (k first end row column : ℕ)
    → IsTrue (in_box_above rows k first end row column)
    ↔ ((row < k) × IsInRun rows.first rows.end row × IsInRun first end column)
box_above_told rows k first end row column = let law = box_told rows first end row column in (
  (λ on. let h = and_parts _ _ on in let both = law.0 h.1 in (ltb-true _ _ h.0, both.0, both.1)),
  (λ h. and_from _ _ (lt-ltb _ _ h.0) (law.1 (h.1, h.2))),
)

pub next_box_row : (rows : Span) (k first end row column : ℕ) → rows.first ≤ k → k < rows.end
    → IsTrue (in_box_above rows (k + 1) first end row column)
    ↔ (IsTrue (in_box_above rows k first end row column) ⊎ IsTrue (in_row k first end row column))
next_box_row rows k first end row column after until =
    let all = box_above_told rows (k + 1) first end row column in
    let before = box_above_told rows k first end row column in
    let here = row_told k first end row column in (
      (λ on.
          let h = all.0 on in
          elim (cases_eq row k) [
            | inl e ↦ inr (here.1 (e, h.2))
            | inr apart ↦ inl (before.1 (omega (arith, h.0, apart), h.1, h.2))
          ]),
      (λ either. elim either [
        | inl on ↦ let h = before.0 on in all.1 (omega (arith, h.0), h.1, h.2)
        | inr on ↦
            let h = here.0 on in all.1 (omega (arith, h.0), (omega (arith, h.0, after), omega (arith, h.0, until)), h.1)
      ]),
    )

-- its columns before a tile, and those from that on and before another one
pub box_past : (rows : Span) (first end tile to row column : ℕ) → tile ≤ to
    → IsTrue (in_box rows first (min end (64 * to)) row column)
    ↔ (IsTrue (in_box rows first (min end (64 * tile)) row column)
    ⊎ IsTrue (in_box rows (max first (64 * tile)) (min end (64 * to)) row column))
box_past rows first end tile to row column order =
    let all = box_told rows first (min end (64 * to)) row column in
    let before = box_told rows first (min end (64 * tile)) row column in
    let behind = box_told rows (max first (64 * tile)) (min end (64 * to)) row column in (
      (λ on.
          let h = all.0 on in
          elim (cases_lt column (64 * tile)) [
            | inl early ↦ inl (before.1 (h.0, (h.1.0, omega (arith, h.1.1, early))))
            | inr late ↦ inr (behind.1 (h.0, (omega (arith, h.1.0, late), h.1.1)))
          ]),
      (λ either. elim either [
        | inl on ↦ let h = before.0 on in all.1 (h.0, (h.1.0, omega (arith, h.1.1, order)))
        | inr on ↦ let h = behind.0 on in all.1 (h.0, (omega (arith, h.1.0), h.1.1))
      ]),
    )

-- the same columns by other numbers
pub same_box : (rows : Span) (first end from to row column : ℕ) → IsInRun first end column ↔ IsInRun from to column
    → IsTrue (in_box rows first end row column) ↔ IsTrue (in_box rows from to row column)
same_box rows first end from to row column same =
    let one = box_told rows first end row column in
    let other = box_told rows from to row column in (
      (λ on. let h = one.0 on in other.1 (h.0, same.0 h.1)),
      (λ on. let h = other.0 on in one.1 (h.0, same.1 h.1)),
    )

-- a band of rows that all have the same run
pub box_runs : (r : Runs) (row column : ℕ) → ((k : ℕ) → r.band.first ≤ k → k < r.band.end → AreAlike r r.band.first k)
    → IsTrue (in_box r.band (slice_index r.firsts r.band.first) (slice_index r.ends r.band.first) row column)
    ↔ IsTrue (in_runs r row column)
box_runs r row column same =
    let box = box_told r.band (slice_index r.firsts r.band.first) (slice_index r.ends r.band.first) row column in
    let all = runs_told r row column in (
      (λ on.
          let h = box.0 on in
          let alike = same row h.0.0 h.0.1 in
          all.1 (h.0.0, h.0.1, (omega (arith, alike.0, h.1.0), omega (arith, alike.1, h.1.1)))),
      (λ on.
          let h = all.0 on in
          let alike = same row h.0 h.1 in
          box.1 ((h.0, h.1), (omega (arith, alike.0, h.2.0), omega (arith, alike.1, h.2.1)))),
    )
