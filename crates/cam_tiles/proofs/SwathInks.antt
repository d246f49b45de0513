-- Swaths: a leaf that is painted on the inks of tiles side by side.
use Rattle.std.proofs.Common.{◌≡◌, ◌↔◌, ◌⊎◌, ℕ, ◌+◌, ◌-◌, ◌*◌, ◌/◌, ◌<◌, ◌≤◌, min, Bool, true, false, cond, IsTrue}
use Rattle.std.proofs.Common.{List, [], ◌∷◌, Option, None, Some, IsSome, refl, sym, ap, subst, ◌∙◌, inl, inr, arith}
use Rattle.std.proofs.lemmas.Bool.{cases_Bool, cases_lt, false≢true}
use Rattle.cam_units.specs.declared.point.Spot.{Spot}
use Rattle.cam_objects.specs.Image.{Covers}
use Rattle.cam_objects.specs.Leaves.{Shape, leaf}
use Rattle.cam_objects.specs.Tests.{covers}
use Rattle.cam_objects.proofs.Covering.{cover_law}
use Rattle.cam_objects.proofs.LastInks.{or_decided, or_none}
use Rattle.cam_tiles.specs.Machinery.Marks.{is_marked}
use Rattle.cam_tiles.specs.declared.grid.Grid.{Grid}
use Rattle.cam_tiles.specs.declared.masks.figure_runs.FigureRuns.{FigureRuns}
use Rattle.cam_tiles.specs.Machinery.Figures.{HasPart}
use Rattle.cam_tiles.specs.Machinery.Inks.{Inked, IsDoneTile, Takes, ink_at}
use Rattle.cam_tiles.specs.Machinery.Runs.{IsWideGrid, StandsAt}
use Rattle.cam_tiles.specs.Machinery.Swaths.{AreRunsOf, PaintsSwath}
use Rattle.cam_tiles.specs.Machinery.Turning.{MarksCentres}
use Rattle.cam_tiles.specs.Tiles.{centre_in}

-- tests that hold alike
pub same_test : (a b : Bool) → IsTrue a ↔ IsTrue b → a ≡ b
same_test a b h = grind (arith, false≢true)

-- ---- inks that are taken in some tiles

pub some_ink : (decided dark : Bool) → decided ≡ true → IsSome (cond decided (Some dark) None)
some_ink decided dark on = grind (arith, false≢true)

pub ink_decided : (decided dark : Bool) → IsSome (cond decided (Some dark) None) → decided ≡ true
ink_decided decided dark none = grind arith

done_tile : (k : Inked) (tile row column : ℕ) → IsDoneTile k tile → row < 64 → column / 64 ≡ tile
    → IsSome (ink_at k row column)
done_tile k tile row column done low there = some_ink _ _ (done row column low there)

module _ (holds : ℕ → ℕ → Bool) (dark : Bool) where
  -- where all is decided, nothing is
  pub takes_nothing : (first end : ℕ) (k : Inked)
      → ((row column : ℕ) → row < 64 → 64 * first ≤ column → column < 64 * end → IsSome (ink_at k row column))
      → Takes first end holds dark k k
  takes_nothing first end k decided = grind (arith, or_decided)

  module _ (first end : ℕ) (old new : Inked) (takes : Takes first end holds dark old new) where
    -- what is decided stays
    pub takes_decided : (row column : ℕ) → row < 64 → column < 64 * old.tiles → IsSome (ink_at old row column)
        → ink_at new row column ≡ ink_at old row column
    takes_decided row column low within some = grind (arith, cases_lt, or_decided)

    -- by another test that holds alike of what is not decided
    pub takes_like : (other : ℕ → ℕ → Bool)
        → ((row column : ℕ) → row < 64 → column < 64 * old.tiles → 64 * first ≤ column → column < 64 * end
        → IsSome (ink_at old row column) ⊎ (holds row column ≡ other row column))
        → Takes first end other dark old new
    takes_like other like = grind (arith, takes_decided, or_decided)

-- ---- a leaf

-- fewer columns of rows that go on to the right
pub fewer_columns : (g : Grid) (more columns : ℕ) → IsWideGrid g more → 1 ≤ columns → columns ≤ more → IsWideGrid g columns
fewer_columns g more columns wide some few = grind arith

-- whether a shape covers the place of a pixel
abbrev pub covered : Shape → Grid → ℕ → ℕ → Bool
covered shape g row column = covers shape (centre_in g column row)

-- what is past the columns and rows is clear
abbrev pub IsClearPast : Grid → ℕ → Inked → Type 0
IsClearPast g columns k =
    (row column : ℕ) → row < 64 → column < 64 * k.tiles → (column < columns → row < g.rows → ⊥)
    → ink_at k row column ≡ Some false

some_if : (o : Option Bool) (dark : Bool) → o ≡ Some dark → IsSome o
some_if o dark is = subst (λ o. IsSome o) (sym is) refl

module _ (shape : Shape) (g : Grid) (columns : ℕ) where
  not_covered : (row column : ℕ) → (Covers shape (centre_in g column row) → ⊥) → covered shape g row column ≡ false
  not_covered row column off = grind (arith, same_test, cover_law, false≢true)

  -- a pixel is one of the swath, or clear
  there_or_clear : (k : Inked) → IsClearPast g columns k → (row column : ℕ) → row < 64 → column < 64 * k.tiles
      → IsSome (ink_at k row column) ⊎ ((column < columns) × (row < g.rows))
  there_or_clear k clear row column low within = grind (arith, cases_lt, some_if)

  -- the runs of a figure tell its columns
  pub runs_cover : (runs : FigureRuns) (k : Inked)
      → ((column row : ℕ) → column < columns → row < g.rows
      → HasPart runs row column ↔ Covers shape (centre_in g column row))
      → IsClearPast g columns k → AreRunsOf (covered shape g) runs k
  runs_cover runs k told clear row column low within = elim (there_or_clear k clear row column low within) [
    | inl some ↦ inl some
    | inr there ↦
        (let law = cover_law shape (centre_in g column row) in
        let here = told column row there.0 there.1 in
        inr ((λ on. here.1 (law.0 on)), (λ on. law.1 (here.0 on))))
  ]

  -- and so do marks
  pub takes_marks : (dark : Bool) (first end : ℕ) (part : Grid) (marks : List ℕ) (old new : Inked)
      → StandsAt g (64 * first) part
      → MarksCentres part (min columns (64 * end) - 64 * first) (Covers shape) marks → IsClearPast g columns old
      → Takes first end (λ row column. is_marked marks row (column - 64 * first)) dark old new
      → Takes first end (covered shape g) dark old new
  takes_marks dark first end part marks old new stands told clear takes =
      takes_like (λ row column. is_marked marks row (column - 64 * first)) dark first end old new takes (covered shape g)
      (λ row column low within after until. elim (there_or_clear old clear row column low within) [
        | inl some ↦ inl some
        | inr there ↦
            (let i = column - 64 * first in
            let same : 64 * first + i ≡ column = omega arith in
            let place : centre_in part i row ≡ centre_in g column row =
            stands.centres i row ∙ ap (λ n. centre_in g n row) same in
            let law = cover_law shape (centre_in g column row) in
            let here = subst (λ (s : Spot). IsTrue (is_marked marks row i) ↔ Covers shape s) place
            (told i row (omega (arith, there.0)) (omega (arith, there.1, stands.rows))) in
            inr (same_test _ _ ((λ on. law.1 (here.0 on)), (λ on. here.1 (law.0 on)))))
      ])

  -- of tiles outside of which a shape covers nothing, those are missed that are done
  pub missed_done : (k : Inked) (first end low high : ℕ) → g.rows ≤ 64
      → ((column row : ℕ) → column < columns → row < g.rows → Covers shape (centre_in g column row)
      → (low ≤ column / 64) × (column / 64 < high))
      → ((tile : ℕ) → low ≤ tile → tile < high → (tile < first) ⊎ (end ≤ tile) → IsDoneTile k tile)
      → (column row : ℕ) → column < columns → row < g.rows → (column / 64 < first) ⊎ (end ≤ column / 64)
      → IsSome (ink_at k row column) ⊎ (Covers shape (centre_in g column row) → ⊥)
  missed_done k first end low high rows within done column row c r apart =
      let law = cover_law shape (centre_in g column row) in
      elim (cases_Bool (covered shape g row column)) [
        | inl on ↦
            (let there = within column row c r (law.0 on) in
            inl (done_tile k (column / 64) row column (done (column / 64) there.0 there.1 apart) (omega (arith, r, rows)) refl))
        | inr off ↦ inr (λ held. absurd (false≢true (sym off ∙ law.1 held)))
      ]

  module _ (dark : Bool) (first end : ℕ) (old new : Inked) (takes : Takes first end (covered shape g) dark old new)
    where
      -- a leaf is painted where it is taken in each tile of which it covers what is not decided
      pub paints_taken : g.rows ≤ 64 → columns ≤ 64 * old.tiles
          → ((column row : ℕ) → column < columns → row < g.rows → (column < 64 * first) ⊎ (64 * end ≤ column)
          → IsSome (ink_at old row column) ⊎ (Covers shape (centre_in g column row) → ⊥))
          → PaintsSwath (record { grid = g; columns = columns; inks = old }) (leaf shape dark ∷ [])
          (record { grid = g; columns = columns; inks = new })
      paints_taken rows wide missed = grind (arith, or_decided, not_covered, or_none, cases_lt)

      -- and what is past the swath stays clear
      pub clear_past_stays : IsClearPast g columns old → IsClearPast g columns new
      clear_past_stays clear row column low within out = grind (arith, takes_decided, some_if)
