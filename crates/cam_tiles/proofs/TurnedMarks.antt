-- Centres in the rows of tiles that are turned over by marks: those of a contour, one segment after another.
use Rattle.std.proofs.Common.{◌≡◌, ◌≢◌, ◌↔◌, ℕ, ◌+◌, ◌-◌, ◌*◌, ◌/◌, ◌%◌, ◌<◌, ◌≤◌, ◌==◌, ℤ, Bool, false, IsTrue}
use Rattle.std.proofs.Common.{List, ◌++◌, length, slice_index, refl, sym, ap, subst, ◌∙◌, inl, inr, arith}
use Rattle.std.proofs.lemmas.Bool.{cases_lt, false≢true}
use Rattle.std.proofs.lemmas.List.{get_or_append_left, get_or_past}
use Rattle.std.proofs.lemmas.Nat.Bits.{bit_at-zero}
use Rattle.cam_units.specs.declared.point.Point.{Point}
use Rattle.cam_units.specs.declared.point.Spot.{Spot}
use Rattle.cam_shapes.specs.declared.contour.Contour.{Contour}
use Rattle.cam_shapes.specs.declared.segments.Seg.{Seg}
use Rattle.cam_shapes.specs.declared.segments.Seg.TheVariants.{Curve}
use Rattle.cam_shapes.specs.declared.cap.Cap.{Cap}
use Rattle.cam_shapes.specs.Cap.{is_in_cap}
use Rattle.cam_shapes.specs.Contour.{IsInContour}
use Rattle.cam_shapes.specs.Edge.{crosses_ray, edge, is_above}
use Rattle.cam_shapes.specs.Sides.{changes_side, differ}
use Rattle.cam_tiles.specs.Machinery.Marks.{AreSpread, TurnsRows, is_set, is_turned, turns_past}
use Rattle.cam_rows.specs.declared.centres.Centres.{Centres}
use Rattle.cam_rows.specs.Rows.{first_centre, row_below}
use Rattle.cam_rows.specs.Runs.{AreEnds, AreRuns, IsInRun}
use Rattle.cam_tiles.proofs.MarkedColumns.{none_odd}
use Rattle.cam_tiles.specs.declared.masks.field.Field.{Field}
use Rattle.cam_tiles.specs.declared.masks.heights.Heights.{Heights}
use Rattle.cam_tiles.specs.Machinery.Levels.{IsOnRow, height, levels_of}
use Rattle.cam_tiles.specs.Machinery.Masks.{IsWithin}
use Rattle.cam_tiles.specs.Machinery.Turning.{AreWide, MarksCentres, TurnsCentres}
use Rattle.cam_tiles.specs.Tiles.{centre_in}
use Rattle.cam_tiles.proofs.ChangedParities.{from_even, not_turned, true_or_not, turned_like, turned_twice}
use Rattle.cam_tiles.proofs.RunColumns.{below_top, further_down, top_of}
use Rattle.cam_tiles.proofs.TurnedContours.{Turning, inside_turned, turns_side}

pub still_wide : (columns : ℕ) (old new : List ℕ) → length new ≡ length old → AreWide columns old
    → AreWide columns new
still_wide columns old new size wide = record {
  room = omega (arith, size, wide.room);
  tiles = ap (λ n. n % 64) size ∙ wide.tiles;
}

module _ (f : Field) where
  pub turns_like : (P Q : Spot → Type 0) (old new : List ℕ) → ((s : Spot) → P s ↔ Q s)
      → TurnsCentres f P old new → TurnsCentres f Q old new
  turns_like P Q old new alike h = record {
    each = λ column row near within.
        turned_like _ _ _ _ (alike (centre_in f.grid column row)) (h.each column row near within);
  }

  -- two more
  pub turns_twice : (d e : Spot → Bool) (old between new : List ℕ)
      → TurnsCentres f (λ s. IsTrue (d s)) old between
      → TurnsCentres f (λ s. IsTrue (e s)) between new
      → TurnsCentres f (λ s. IsTrue (differ (d s) (e s))) old new
  turns_twice d e old between new h k = record {
    each = λ column row near within.
        turned_twice (d (centre_in f.grid column row)) (e (centre_in f.grid column row)) _ _ _
        (true_or_not (is_turned old row column)) (h.each column row near within) (k.each column row near within);
  }

  -- nothing more
  pub turns_nothing : (P : Spot → Type 0) (old : List ℕ)
      → ((column row : ℕ) → row < f.grid.rows → P (centre_in f.grid column row) → ⊥) → TurnsCentres f P old old
  turns_nothing P old none = record { each = λ column row near within. not_turned _ _ (none column row within) }

  -- where a test says so
  abbrev pub TurnsSo : (Spot → Bool) → List ℕ → List ℕ → Type 0
  TurnsSo test = TurnsCentres f (λ s. IsTrue (test s))

  pub turning : Turning TurnsSo
  turning = record {
    none = λ old. turns_nothing (λ s. IsTrue false) old (λ column row within held. false≢true held);
    twice = turns_twice;
  }

  pub marked_inside : (c : Contour) (old new : List ℕ) → TurnsSo (turns_side c) old new
      → TurnsCentres f (λ s. IsInContour s c) old new
  marked_inside c old new h = turns_like _ _ old new (λ s. inside_turned s c) h

  -- ---- segments

  pub curve_counted : (here to centre : Point) (ccw : Bool) (seg : Seg) (old between new : List ℕ)
      → seg ≡ Curve to centre ccw
      → TurnsCentres f (λ s. IsTrue (crosses_ray s (edge here to))) old between
      → TurnsCentres f
      (λ s. IsTrue (is_in_cap s (record { from = here; to = to; centre = centre; ccw = ccw }))) between new
      → TurnsCentres f (λ s. IsTrue (changes_side s here seg)) old new
  curve_counted here to centre ccw seg old between new e h k =
      let cap : Cap = record { from = here; to = to; centre = centre; ccw = ccw } in
      rw e (turns_twice (λ s. crosses_ray s (edge here to)) (λ s. is_in_cap s cap) old between new h k)

  -- ---- bands of rows

  -- what is turned in a band, outside which nothing is held
  rows_turned : (first n : ℕ) (P : Spot → Type 0) (IsHeld : ℕ → ℕ → Type 0) (old new : List ℕ) → f.columns ≤ length old
      → ((k i : ℕ) → k < n → i < f.columns → IsHeld k i ↔ P (centre_in f.grid i (first + k)))
      → ((column row : ℕ) → row < f.grid.rows → P (centre_in f.grid column row) → (first ≤ row) × (row < first + n))
      → TurnsRows first n IsHeld old new → TurnsCentres f P old new
  rows_turned first n P IsHeld old new room each inside turned = record {
    each = λ column row near within.
        let there : first ≤ row → row < first + n → IsHeld (row - first) column ↔ P (centre_in f.grid column row) =
        λ after until.
        let same : first + (row - first) ≡ row = omega arith in
        subst (λ r. IsHeld (row - first) column ↔ P (centre_in f.grid column r)) same
        (each (row - first) column (omega arith) near) in
        turned_like _ _ _ _ (
          (λ on. (there on.0 on.1).0 on.2),
          (λ held.
              let band = inside column row within held in
              (band.0, band.1, (there band.0 band.1).1 held)),
        )
        (turned row column (omega (arith, within, f.seen.rows)) (omega (arith, near, room)));
  }

  module _ (first end : ℕ) (P : Spot → Type 0) (x y step : ℤ) (old new : List ℕ) (is_x : x ≡ f.grid.x)
      (is_y : y ≡ height (levels_of f.grid) first) (is_step : step ≡ f.grid.step) (some : first < end)
      (room : f.columns ≤ length old)
      (rows : (row : ℕ) (s : Spot) → IsOnRow (levels_of f.grid) row s → P s → (first ≤ row) × (row < end)) where
    in_rows : (n : ℕ) → n ≡ end - first → (column row : ℕ) → row < f.grid.rows → P (centre_in f.grid column row)
        → (first ≤ row) × (row < first + n)
    in_rows n size column row within held =
        let band = rows row (centre_in f.grid column row) (within, refl) held in
        (band.0, omega (arith, band.1, size, some))

    pub ends_turned : (n : ℕ) (last : ℕ → ℕ) → n ≡ end - first
        → AreEnds last n (record { x = x; y = y; step = step; n = f.columns }) P
        → TurnsRows first n (λ k column. column < last k) old new
        → TurnsCentres f P old new
    ends_turned n last size told turned =
        let each = rw (is_x, is_y, is_step) at told.each in
        rows_turned first n P (λ k column. column < last k) old new room
        (λ k i under near. rw (below_top f.grid f.columns first k i) at (each k i under near))
        (in_rows n size) turned

    pub runs_turned : (firsts ends : List ℕ) → length firsts ≡ end - first
        → AreRuns firsts ends (record { x = x; y = y; step = step; n = f.columns }) P
        → TurnsRows first (length firsts) (λ k column. IsInRun (slice_index firsts k) (slice_index ends k) column) old new
        → TurnsCentres f P old new
    runs_turned firsts ends size told turned =
        let each = rw (is_x, is_y, is_step) at told.each in
        rows_turned first (length firsts) P
        (λ k column. IsInRun (slice_index firsts k) (slice_index ends k) column) old new room
        (λ k i under near. rw (below_top f.grid f.columns first k i) at (each k i under near))
        (in_rows (length firsts) size) turned

  -- the top row of a band that an edge crosses, and those below it, as the code computes it
  pub top_crossed : (first end : ℕ) (p q : Point) (x y step : ℤ)
      → y ≡ height (levels_of f.grid) first → step ≡ f.grid.step → end ≤ f.grid.rows
      → ((row : ℕ) (s : Spot) → IsOnRow (levels_of f.grid) row s
      → ((first ≤ row) × (row < end)) ↔ (is_above p s ≢ is_above q s))
      → (n : ℕ) → n ≡ end - first → (k : ℕ) → k < n
      → (let top : Centres = record { x = x; y = y; step = step; n = f.columns } in
      is_above p (first_centre (row_below top k)) ≢ is_above q (first_centre (row_below top k)))
  top_crossed first end p q x y step is_y is_step low rows n size k few =
      rw (is_y, is_step) ((rows (first + k) (first_centre (row_below (top_of f.grid f.columns first) k))
      (omega (arith, few, size, low), further_down f.grid.y f.grid.step first k)).0
      (omega arith, omega (arith, few, size)))

  -- a band without rows
  pub no_rows : (first end : ℕ) (h : Heights) (P : Spot → Type 0) (old : List ℕ) → end ≤ first
      → ((row : ℕ) (s : Spot) → IsOnRow (levels_of f.grid) row s → ((first ≤ row) × (row < end)) ↔ IsWithin h s)
      → ((s : Spot) → P s → IsWithin h s) → TurnsCentres f P old old
  no_rows first end h P old empty rows heights =
      turns_nothing P old (λ column row within held.
      let band = (rows row (centre_in f.grid column row) (within, refl)).1 (heights (centre_in f.grid column row) held) in
      omega (arith, band.0, band.1, empty))

  -- ---- marks that are spread

  none_set : (word i : ℕ) → word ≡ 0 → is_set word i ≡ false
  none_set word i e = rw e (ap (λ x. x == 1) (bit_at-zero i))

  nothing_turned : (marks : List ℕ) → ((k : ℕ) → k < length marks → slice_index marks k ≡ 0) → (row column : ℕ)
      → is_turned marks row column ≡ false
  nothing_turned marks none row column =
      let blank : (k i : ℕ) → is_set (slice_index marks k) i ≡ false = λ k i. none_set (slice_index marks k) i
      (elim (cases_lt k (length marks)) [ inl inside ↦ none k inside | inr past ↦ get_or_past marks k 0 past ]) in
      rw (blank (64 * (column / 64) + row) (column % 64))
      (none_odd (turns_past marks row) (length marks / 64 - (column / 64 + 1)) (column / 64 + 1)
      (λ j _. blank (64 * j + row) 0))

  pub spread_inside : (P : Spot → Type 0) (blank turned spread : List ℕ)
      → ((k : ℕ) → k < length blank → slice_index blank k ≡ 0) → f.columns ≤ length turned
      → TurnsCentres f P blank turned → AreSpread turned spread → MarksCentres f.grid f.columns P spread
  spread_inside P blank turned spread none room h told column row near within =
      let same = told row column (omega (arith, within, f.seen.rows)) (omega (arith, near, room)) in
      let even = nothing_turned blank none row column in
      from_even _ _ _ _ ((λ t. sym same ∙ t), (λ t. same ∙ t)) (λ t. false≢true (sym even ∙ t))
      (h.each column row near within)

  -- what is turned in words that were 0 is marked once that is spread; words behind them change none of it
  pub marks_before : (P : Spot → Type 0) (n : ℕ) (blank turned spread rest : List ℕ) → f.columns ≤ 64 * n
      → length blank ≡ 64 * n → ((k : ℕ) → k < length blank → slice_index blank k ≡ 0)
      → length turned ≡ length blank → length spread ≡ length turned → TurnsCentres f P blank turned
      → AreSpread turned spread → MarksCentres f.grid f.columns P (spread ++ rest)
  marks_before P n blank turned spread rest enough size none as_long as_long_still h told column row near within =
      let k = 64 * (column / 64) + row in
      let same : slice_index (spread ++ rest) k ≡ slice_index spread k =
      get_or_append_left spread rest 0 k (omega (arith, near, within, f.seen.rows, enough, size, as_long, as_long_still)) in
      rw same (spread_inside P blank turned spread none (omega (arith, enough, size, as_long)) h told column row near
      within)
