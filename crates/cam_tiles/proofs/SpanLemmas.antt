-- Spans of tiles: which tiles have a pixel that passes a test.
use Rattle.std.proofs.Common.{◌≡◌, ℕ, ◌+◌, ◌-◌, ◌*◌, ◌<◌, ◌≤◌, min, ◌↔◌, ℤ, pos, ◌-ℤ◌, ◌*ℤ◌, ◌≤ℤ◌}
use Rattle.std.proofs.Common.{Bool, true, Decides, sym, ap, ◌∙◌, arith}
use Rattle.std.specs.List.{list_any, range_with_len}
use Rattle.std.proofs.lemmas.Bool.{leb-true, ltb-true, le-leb, lt-ltb}
use Rattle.std.proofs.lemmas.Bool.Decides.{same_from_decides, Decides-and, Decides-like}
use Rattle.std.proofs.lemmas.Int.{ints}
use Rattle.std.proofs.lemmas.List.Folds.{Any-from_list_any, list_any_at}
use Rattle.std.proofs.lemmas.List.FromFn.{get_or-range_with_len, length-range_with_len}
use Rattle.cam_tiles.specs.declared.lattice.Lattice.{Lattice}
use Rattle.cam_tiles.specs.declared.levels.Levels.{Levels}
use Rattle.cam_tiles.specs.declared.span.Span.{Span}
use Rattle.cam_tiles.specs.declared.window.Window.{Window}
use Rattle.cam_tiles.specs.Machinery.Lattices.{IsLattice, place_at}
use Rattle.cam_tiles.specs.Machinery.Levels.{AreLevels, IsOnRow, height}
use Rattle.cam_tiles.specs.Machinery.Spans.{HasPixelOf, has_pixel, is_between, is_in_span}
use Rattle.cam_tiles.specs.Picture.{IsAcceptedWindow, centre_of, middle}
use Rattle.cam_tiles.proofs.GridLemmas.{back, further}
use Rattle.cam_tiles.proofs.WindowLemmas.{le_of, from_le}

-- a number of a range that passes
abbrev pub PassesIn : (ℕ → Bool) → ℕ → ℕ → Type 0
PassesIn p a n = (k : ℕ) × ((a ≤ k) × ((k < a + n) × (p k ≡ true)))

pub any_in_range : (p : ℕ → Bool) (a n : ℕ) → Decides (list_any p (range_with_len a n)) (PassesIn p a n)
any_in_range p a n = (
  (λ e.
      let found = Any-from_list_any p (range_with_len a n) e in
      let within : found.0 < n = omega (arith, found.2, length-range_with_len a n) in
      let this : found.1 ≡ a + found.0 = sym found.3 ∙ get_or-range_with_len a n found.0 found.1 within in
      (found.1, (omega (arith, this), (omega (arith, this), found.4)))),
  (λ h.
      let k = h.0 in
      let within : k - a < n = omega (arith, h.1.0, h.1.1.0) in
      let this : a + (k - a) ≡ k = omega (arith, h.1.0) in
      list_any_at p (range_with_len a n) (k - a) 0 (omega (arith, length-range_with_len a n))
      (ap p (get_or-range_with_len a n (k - a) 0 within ∙ this) ∙ h.1.1.1)),
)

-- a pixel of a tile that passes
abbrev PassesOf : (ℕ → Bool) → ℕ → ℕ → Type 0
PassesOf p pixels tile = PassesIn p (64 * tile) (min 64 (pixels - 64 * tile))

has_pixel-decides : (p : ℕ → Bool) (pixels tile : ℕ) → Decides (has_pixel p pixels tile) (PassesOf p pixels tile)
unfolding has_pixel
has_pixel-decides p pixels tile = any_in_range p (64 * tile) (min 64 (pixels - 64 * tile))

Decides-between : (low high n : ℤ) → Decides (is_between low high n) ((low ≤ℤ n) × (n ≤ℤ high))
Decides-between low high n = Decides-and _ _ (le_of low n, from_le low n) (le_of n high, from_le n high)

-- the tiles of those pixels whose places lie between two others
pub tiles_between : (place : ℕ → ℤ) (low high : ℤ) (span tiles : Span) (pixels tile : ℕ) → span.end ≤ pixels
    → ((n : ℕ) → n < pixels → ((span.first ≤ n) × (n < span.end)) ↔ ((low ≤ℤ place n) × (place n ≤ℤ high)))
    → ((tiles.first ≤ tile) × (tile < tiles.end)) ↔ HasPixelOf span tile
    → is_in_span tiles tile ≡ has_pixel (λ n. is_between low high (place n)) pixels tile
tiles_between place low high span tiles pixels tile few between are =
    same_from_decides _ _
    (Decides-like _ (λ on.
    let h = are.0 on in
    let within : h.0 < pixels = omega (arith, few, h.1.1.0) in
    let passes = (Decides-between low high (place h.0)).1 ((between h.0 within).0 (h.1.0, h.1.1.0)) in
    (h.0, (omega (arith, h.1.1.1), (omega (arith, within, h.1.1.1), passes))))
    (λ h.
    let passes = (Decides-between low high (place h.0)).0 h.1.1.1 in
    let on = (between h.0 (omega (arith, h.1.1.0))).1 passes in
    are.1 (h.0, (on.0, (on.1, omega (arith, h.1.0, h.1.1.0)))))
    (Decides-and _ _ (leb-true _ _, le-leb _ _) (ltb-true _ _, lt-ltb _ _)))
    (has_pixel-decides _ pixels tile)

-- ---- pixels of a window

module _ (w : Window) (limits : IsAcceptedWindow w) (step : ℤ) (is_step : step ≡ pos 2 *ℤ w.pitch) where
  steps : pos 1 ≤ℤ step
  steps = rw is_step (omega (arith, ints, limits.pitch))

  module _ (first : ℤ) (is_first : first ≡ (centre_of w 0 0).x) where
    abbrev pub columns_now : Lattice
    columns_now = record { first = first; step = step; count = w.width }

    column_is : (n : ℕ) → place_at columns_now n ≡ middle w.x w.pitch n
    column_is n = rw (is_first, is_step) (further w.x w.pitch 0 n ∙ ap (middle w.x w.pitch) (omega arith))

    pub are_columns : IsLattice columns_now
    are_columns = grind (arith, steps, column_is)

    pub column_between : (A : Type 0) (low high from to : ℤ) (n : ℕ) → from ≡ low → to ≡ high
        → A ↔ ((from ≤ℤ place_at columns_now n) × (place_at columns_now n ≤ℤ to))
        → A ↔ ((low ≤ℤ middle w.x w.pitch n) × (middle w.x w.pitch n ≤ℤ high))
    column_between A low high from to n is_low is_high h = grind (arith, column_is)

  module _ (top : ℤ) (is_top : top ≡ (centre_of w 0 0).y) where
    abbrev pub rows_now : Levels
    rows_now = record { top = top; step = step; rows = w.height }

    row_is : (n : ℕ) → n < w.height → height rows_now n ≡ middle w.y w.pitch (w.height - 1 - n)
    row_is n within =
        rw (is_top, is_step)
        (ap (λ k. middle w.y w.pitch k -ℤ pos n *ℤ (pos 2 *ℤ w.pitch)) (omega arith) ∙ back w.y w.pitch (w.height - 1 - n) n)

    pub are_rows : AreLevels rows_now
    are_rows = grind (arith, steps, row_is)

    pub on_row : (n : ℕ) → n < w.height → IsOnRow rows_now n (centre_of w 0 n)
    on_row n within = (within, sym (row_is n within))
