-- Inks that are taken by runs.
use Rattle.std.proofs.Common.{◌≡◌, ◌↔◌, ◌⊎◌, ℕ, ◌+◌, ◌*◌, ◌/◌, ◌%◌, ◌<◌, ◌≤◌, Bool, ◌&&◌, ◌||◌, not, nat_le, nat_lt}
use Rattle.std.proofs.Common.{List, length, slice_index, slice_set, Option, IsSome, IsTrue, refl, sym, subst, inl, inr, arith}
use Rattle.std.proofs.Common.{get_or-set_other, get_or-set_same}
use Rattle.std.specs.Int.{IsBitSet}
use Rattle.std.specs.Option.{option_or}
use Rattle.std.proofs.lemmas.Bool.{and_from, and_parts, cases_Bool, cases_eq, cases_lt, eq-eqb, eqb-true, false≢true, le-leb, leb-true, lt-ltb, ltb-true}
use Rattle.cam_objects.proofs.LastInks.{or_decided, or_none}
use Rattle.cam_tiles.specs.Machinery.Marks.{is_set}
use Rattle.cam_rows.specs.Runs.{IsInRun}
use Rattle.cam_tiles.specs.declared.masks.figure_runs.FigureRuns.{FigureRuns}
use Rattle.cam_tiles.specs.declared.masks.runs.Runs.{Runs}
use Rattle.cam_tiles.specs.declared.span.Span.{Span}
use Rattle.cam_tiles.specs.Machinery.Figures.{HasBody, HasPart}
use Rattle.cam_tiles.specs.Machinery.Inks.{AreKnown, AreNext, Inked, Takes, given, in_body, in_row, in_runs, ink_at, ink_of, words_of}
use Rattle.cam_tiles.specs.Machinery.Runs.{HasColumn}
use Rattle.cam_tiles.proofs.JoinedWords.{bit_told}
use Rattle.cam_tiles.proofs.SwathInks.{same_test}
use Rattle.cam_tiles.proofs.TakenInks.{kept_set}

-- ---- tests

pub span_told : (first end k : ℕ) → IsTrue (nat_le first k && nat_lt k end) ↔ IsInRun first end k
span_told first end k = grind (arith, and_parts, leb-true, ltb-true, and_from, le-leb, lt-ltb)

pub row_told : (of first end row column : ℕ) → IsTrue (in_row of first end row column) ↔ ((row ≡ of) × IsInRun first end column)
row_told of first end row column = grind (arith, and_parts, eqb-true, span_told, and_from, eq-eqb)

pub runs_told : (r : Runs) (row column : ℕ) → IsTrue (in_runs r row column) ↔ HasColumn r row column
runs_told r row column = grind (arith, and_parts, span_told, and_from)

pub or_told : (a b : Bool) → IsTrue (a || b) ↔ (IsTrue a ⊎ IsTrue b)
or_told a b = grind (arith, false≢true)

rest_told : (a b c : Bool) → IsTrue (a && not (b || c)) ↔ (IsTrue a × (IsTrue b → ⊥) × (IsTrue c → ⊥))
rest_told a b c = grind (arith, false≢true)

rest_like : (T A B C P Q R : Type 0) → T ↔ (A × (B → ⊥) × (C → ⊥)) → A ↔ P → B ↔ Q → C ↔ R → T ↔ (P × (Q → ⊥) × (R → ⊥))
rest_like T A B C P Q R law a b c = grind arith

pub body_told : (s : FigureRuns) (row column : ℕ) → IsTrue (in_body s row column) ↔ HasBody s row column
body_told s row column = grind (arith, rest_like, rest_told, runs_told)

-- whether a column is in a figure by its runs
abbrev pub in_part : FigureRuns → ℕ → ℕ → Bool
in_part s row column = (in_body s row column || in_runs s.start row column) || in_runs s.end row column

part_like : (W T B S E Body Start End : Type 0) → W ↔ (T ⊎ E) → T ↔ (B ⊎ S) → B ↔ Body → S ↔ Start → E ↔ End
    → W ↔ ((Body ⊎ Start) ⊎ End)
part_like W T B S E Body Start End whole two body start end = grind arith

pub part_told : (s : FigureRuns) (row column : ℕ) → IsTrue (in_part s row column) ↔ HasPart s row column
part_told s row column = grind (arith, part_like, or_told, body_told, runs_told)

-- ---- what is taken of all tiles

twice : (o : Option Bool) (p q ink : Bool) → option_or (option_or o (given p ink)) (given q ink) ≡ option_or o (given (p || q) ink)
twice o p q ink = grind arith

module _ (ink : Bool) where
  -- by one test, and then by another
  pub takes_both : (n : ℕ) (P Q R : ℕ → ℕ → Bool) (old now new : Inked) → Takes 0 n P ink old now → Takes 0 n Q ink now new
      → ((row column : ℕ) → row < 64 → column < 64 * n
      → IsTrue (R row column) ↔ (IsTrue (P row column) ⊎ IsTrue (Q row column)))
      → Takes 0 n R ink old new
  takes_both n P Q R old now new first next either = grind (arith, or_told, same_test, twice)

  -- by either
  pub takes_either : (n : ℕ) (P Q : ℕ → ℕ → Bool) (old now new : Inked) → Takes 0 n P ink old now → Takes 0 n Q ink now new
      → Takes 0 n (λ row column. P row column || Q row column) ink old new
  takes_either n P Q old now new first next = grind (arith, takes_both, or_told)

  not_given : (o : Option Bool) (b : Bool) → (IsTrue b → ⊥) → o ≡ option_or o (given b ink)
  not_given o b off = grind (arith, same_test, false≢true, or_none)

  -- nothing, where all is decided of which a test holds
  pub takes_done : (first end : ℕ) (P : ℕ → ℕ → Bool) (k : Inked)
      → ((row column : ℕ) → row < 64 → column < 64 * end → IsTrue (P row column) → IsSome (ink_at k row column))
      → Takes first end P ink k k
  takes_done first end P k done = grind (arith, cases_Bool, or_decided, not_given, false≢true)

  -- by a test that is the same there
  pub takes_same : (n : ℕ) (P Q : ℕ → ℕ → Bool) (old new : Inked) → Takes 0 n P ink old new
      → ((row column : ℕ) → row < 64 → column < 64 * n → IsTrue (P row column) ↔ IsTrue (Q row column)) → Takes 0 n Q ink old new
  takes_same n P Q old new takes same = grind (arith, same_test)

  -- what is decided stays so
  pub known_stays : (P : ℕ → ℕ → Bool) (old new : Inked) (tile rows : ℕ) → Takes 0 old.tiles P ink old new → tile < old.tiles
      → rows ≤ 64 → AreKnown old.decided tile rows → AreKnown new.decided tile rows
  known_stays P old new tile rows takes inside few known row column low here = grind (arith, kept_set)

  pub next_stays : (P : ℕ → ℕ → Bool) (old new : Inked) (next : List ℕ) → Takes 0 old.tiles P ink old new
      → AreNext old.tiles next old.decided → AreNext old.tiles next new.decided
  next_stays P old new next takes known = grind (arith, known_stays)

  -- a word of a tile
  pub takes_word : (n tile row bits : ℕ) (P : ℕ → ℕ → Bool) (decided dark : List ℕ) (word other all : ℕ) → row < 64
      → 64 * tile + row < length decided → 64 * tile + row < length dark
      → ((r column : ℕ) → IsTrue (P r column) ↔ ((r ≡ row) × (column / 64 ≡ tile) × IsBitSet bits (column % 64)))
      → ((i : ℕ) → i < 64 → ink_of word other i
      ≡ option_or (ink_of (slice_index decided (64 * tile + row)) (slice_index dark (64 * tile + row)) i)
      (given (is_set bits i) (is_set all i)))
      → ((i : ℕ) → i < 64 → is_set all i ≡ ink)
      → Takes 0 n P ink (words_of n decided dark)
      (words_of n (slice_set decided (64 * tile + row) word) (slice_set dark (64 * tile + row) other))
  takes_word n tile row bits P decided dark word other all small within within_dark told here inked = record {
    tiles = refl;
    each = λ r column low inside after until.
        let k = 64 * tile + row in
        let at = 64 * (column / 64) + r in
        let i = column % 64 in
        let law = told r column in
        elim (cases_eq at k) [
          | inl e ↦
              let own : r ≡ row = omega (arith, e, low, small) in
              let there : column / 64 ≡ tile = omega (arith, e, low, small) in
              let bit = bit_told bits i in
              let same : is_set bits i ≡ P r column = same_test (is_set bits i) (P r column) (
                (λ on. law.1 (own, there, bit.0 on)),
                (λ on. bit.1 (law.0 on).2),
              ) in
              rw (e, get_or-set_same decided k word 0 within, get_or-set_same dark k other 0 within_dark, ← same, ← inked i (omega arith))
              (here i (omega arith))
          | inr apart ↦
              rw (get_or-set_other decided k at word 0 apart, get_or-set_other dark k at other 0 apart)
              (not_given (ink_of (slice_index decided at) (slice_index dark at) i) (P r column)
              (λ on. let h = law.0 on in apart (omega (arith, h.0, h.1))))
        ];
    others = λ r column low inside apart.
        elim apart [ inl early ↦ absurd (omega (arith, early)) | inr late ↦ absurd (omega (arith, inside, late)) ];
  }

-- ---- the run of a row

pub turned : {T A B : Type 0} → T ↔ (A ⊎ B) → T ↔ (B ⊎ A)
turned law = grind arith

module _ (of row column : ℕ) where
  -- its columns before one, and those from that on
  pub two_parts : (first between end : ℕ) → first ≤ between → between ≤ end
      → IsTrue (in_row of first end row column)
      ↔ (IsTrue (in_row of first between row column) ⊎ IsTrue (in_row of between end row column))
  two_parts first between end after until = grind (arith, row_told, cases_lt)

  -- those of another that has the same
  pub same_columns : (first end from to : ℕ) → ((first ≤ column) × (column < end)) ↔ ((from ≤ column) × (column < to))
      → IsTrue (in_row of first end row column) ↔ IsTrue (in_row of from to row column)
  same_columns first end from to same = grind (arith, row_told)

  -- its columns of one tile by bits
  pub part_bits : (tile first end bits : ℕ) → end ≤ 64
      → ((k : ℕ) → k < 64 → IsBitSet bits k ↔ ((first ≤ k) × (k < end)))
      → IsTrue (in_row of (64 * tile + first) (64 * tile + end) row column)
      ↔ ((row ≡ of) × (column / 64 ≡ tile) × IsBitSet bits (column % 64))
  part_bits tile first end bits few set = grind (arith, row_told)

-- ---- rows

-- those above one
abbrev pub in_above : Runs → ℕ → ℕ → ℕ → Bool
in_above r end row column = nat_lt row end && in_runs r row column

pub above_told : (r : Runs) (end row column : ℕ) → IsTrue (in_above r end row column) ↔ ((row < end) × HasColumn r row column)
above_told r end row column = grind (arith, runs_told, and_parts, ltb-true, and_from, lt-ltb)

pub next_row : (r : Runs) (k row column : ℕ) → r.band.first ≤ k → k < r.band.end
    → IsTrue (in_above r (k + 1) row column)
    ↔ (IsTrue (in_above r k row column) ⊎ IsTrue (in_row k (slice_index r.firsts k) (slice_index r.ends k) row column))
next_row r k row column after until = grind (arith, above_told, row_told, cases_eq)

-- all of them, above the end of the band
pub takes_all : (ink : Bool) (n : ℕ) (r : Runs) (k : ℕ) (old new : Inked) → r.band.end ≤ k
    → Takes 0 n (in_above r k) ink old new → Takes 0 n (in_runs r) ink old new
takes_all ink n r k old new past takes = grind (arith, above_told, runs_told)

-- ---- rows of a body

-- those above one
abbrev pub in_body_above : FigureRuns → ℕ → ℕ → ℕ → Bool
in_body_above s end row column = nat_lt row end && in_body s row column

pub body_above_told : (s : FigureRuns) (end row column : ℕ)
    → IsTrue (in_body_above s end row column) ↔ ((row < end) × HasBody s row column)
body_above_told s end row column = grind (arith, body_told, and_parts, ltb-true, and_from, lt-ltb)

module _ (ink : Bool) (n : ℕ) where
  -- all of them, once those above the end of its band are taken
  pub takes_body : (s : FigureRuns) (k : ℕ) (old new : Inked) → Takes 0 n (in_body_above s k) ink old new → s.body.band.end ≤ k
      → Takes 0 n (in_body s) ink old new
  takes_body s k old new takes late =
      takes_same ink n (in_body_above s k) (in_body s) old new takes (λ row column low within.
      let above = body_above_told s k row column in
      let all = body_told s row column in (
        (λ on. all.1 (above.0 on).1),
        (λ on. let h = all.0 on in above.1 (omega (arith, h.0.1, late), h)),
      ))

-- In one row what is not decided takes a polarity where columns are of a kind.
pub record TakesRow (ink : Bool) (n of : ℕ) (IsHeld : ℕ → Type 0) (old new : Inked) : Type 0 where
  pub holds : ℕ → ℕ → Bool
  pub takes : Takes 0 n holds ink old new
  pub told : (row column : ℕ) → IsTrue (holds row column) ↔ ((row ≡ of) × IsHeld column)

either_like : (T P Q E A B : Type 0) → T ↔ (P ⊎ Q) → P ↔ (E × A) → Q ↔ (E × B) → T ↔ (E × (A ⊎ B))
either_like T P Q E A B whole first second = grind arith

module _ (ink : Bool) (n of : ℕ) where
  -- of one kind, and then of another
  pub takes_joined : (A B : ℕ → Type 0) (old now new : Inked) → TakesRow ink n of A old now → TakesRow ink n of B now new
      → TakesRow ink n of (λ column. A column ⊎ B column) old new
  takes_joined A B old now new first next =
      let P : ℕ → ℕ → Bool = first.holds in
      let Q : ℕ → ℕ → Bool = next.holds in
      record {
        holds = λ row column. P row column || Q row column;
        takes = takes_either ink n P Q old now new first.takes next.takes;
        told = λ row column.
            either_like _ _ _ _ _ _ (or_told (P row column) (Q row column)) (first.told row column) (next.told row column);
      }

  takes_run : (a : Span) (old new : Inked) → Takes 0 n (in_row of a.first a.end) ink old new
      → TakesRow ink n of (IsInRun a.first a.end) old new
  takes_run a old new takes = grind (arith, row_told)

  -- in two runs
  pub takes_two : (a b : Span) (old now new : Inked) → Takes 0 n (in_row of a.first a.end) ink old now
      → Takes 0 n (in_row of b.first b.end) ink now new
      → TakesRow ink n of (λ column. IsInRun a.first a.end column ⊎ IsInRun b.first b.end column) old new
  takes_two a b old now new first next =
      takes_joined (IsInRun a.first a.end) (IsInRun b.first b.end) old now new (takes_run a old now first)
      (takes_run b now new next)

  -- those above it, and then its own
  pub takes_next : (s : FigureRuns) (A : ℕ → Type 0) (old now new : Inked) → Takes 0 n (in_body_above s of) ink old now
      → TakesRow ink n of A now new → ((column : ℕ) → A column ↔ HasBody s of column)
      → Takes 0 n (in_body_above s (of + 1)) ink old new
  takes_next s A old now new before here same =
      takes_both ink n (in_body_above s of) here.holds (in_body_above s (of + 1)) old now new before here.takes
      (λ row column low within.
      let all = body_above_told s (of + 1) row column in
      let above = body_above_told s of row column in
      let own = here.told row column in (
        (λ on.
            let h = all.0 on in
            elim (cases_eq row of) [
              | inl e ↦ inr (own.1 (e, (same column).1 (subst (λ r. HasBody s r column) e h.1)))
              | inr apart ↦ inl (above.1 (omega (arith, h.0, apart), h.1))
            ]),
        (λ either. elim either [
          | inl on ↦ let h = above.0 on in all.1 (omega (arith, h.0), h.1)
          | inr on ↦
              let h = own.0 on in
              all.1 (omega (arith, h.0), subst (λ r. HasBody s r column) (sym h.0) ((same column).0 h.1))
        ]),
      ))
