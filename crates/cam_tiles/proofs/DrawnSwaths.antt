-- tiles of a row of them, painted as one swath: where their pixels stand, and what they show
use Rattle.std.proofs.Common.{◌≡◌, ◌↔◌, ℕ, ◌+◌, ◌-◌, ◌*◌, ◌/◌, ◌%◌, ◌<◌, ◌≤◌, ℤ, pos, ◌+ℤ◌, ◌-ℤ◌, ◌*ℤ◌, min, true, false}
use Rattle.std.proofs.Common.{List, [], ◌∷◌, length, get_or, Option, Bool, None, Some, is_none, if◌then◌else◌, unwrap_or}
use Rattle.std.proofs.Common.{zero, suc, refl, sym, ap, subst, ◌∙◌, arith}
use Rattle.std.specs.Option.{option_or}
use Rattle.std.proofs.lemmas.Nat.{div-mul-add, mod-mul-add}
use borrow.Rule.Slice.PartMut.{mid_of}
use Rattle.cam_units.specs.declared.point.Spot.{Spot}
use Rattle.cam_objects.specs.Leaves.{Leaf}
use Rattle.cam_objects.specs.Tests.{is_black, last_ink}
use Rattle.cam_objects.proofs.LastInks.{last_law}
use Rattle.cam_tiles.specs.declared.grid.Grid.{Grid}
use Rattle.cam_tiles.specs.declared.window.Window.{Window}
use Rattle.cam_tiles.specs.Machinery.Masks.{IsIn}
use Rattle.cam_tiles.specs.Machinery.Swaths.{IsInSwath, IsRowOfTiles, PaintsSwath, ShowsDirty, Swathed, columns_of, ink_in}
use Rattle.cam_tiles.specs.Machinery.Swaths.{place_in, tiles_in}
use Rattle.cam_tiles.specs.Picture.{accepts, middle}
use Rattle.cam_tiles.specs.Tables.{Tile}
use Rattle.cam_tiles.specs.Tiles.{across, centre_in, grid_of, first_column}
use Rattle.cam_tiles.proofs.GridLemmas.{further, top_within}
use Rattle.cam_tiles.proofs.TilesInOrder.{middle_length}
use Rattle.cam_tiles.proofs.WindowLemmas.{accepted}

module _ (w : Window) (first : ℕ) (tiles : List Tile) (row_of : IsRowOfTiles w first tiles) where
  module _ (tile : ℕ) (under : tile < length tiles) where
    fits : first % across w + tile < across w
    fits = omega (arith, row_of.fits, under)

    whole : (first / across w) * across w + (first % across w + tile) ≡ first + tile
    whole = omega arith

    column_is : (first + tile) % across w ≡ first % across w + tile
    column_is =
        ap (λ n. n % across w) (sym whole) ∙ mod-mul-add (first / across w) (across w) (first % across w + tile) fits

    row_is : (first + tile) / across w ≡ first / across w
    row_is =
        ap (λ n. n / across w) (sym whole) ∙ div-mul-add (first / across w) (across w) (first % across w + tile) fits

    left_is : first_column w (first + tile) ≡ first_column w first + 64 * tile
    left_is = omega (arith, column_is)

    centre_is : (column row : ℕ)
        → centre_in (grid_of w (first + tile)) column row ≡ centre_in (grid_of w first) (64 * tile + column) row
    centre_is column row =
        let spot : ℤ → ℤ → Spot = λ x y. record { x = x; y = y } in
        let y_of : ℕ → ℤ = λ n. middle w.y w.pitch (w.height - 1 - 64 * n) -ℤ pos row *ℤ (pos 2 *ℤ w.pitch) in
        let there : first_column w (first + tile) + column ≡ first_column w first + (64 * tile + column) = omega (arith, left_is) in
        ap (λ x. spot x (y_of ((first + tile) / across w)))
        (further w.x w.pitch (first_column w (first + tile)) column ∙ ap (middle w.x w.pitch) there
        ∙ sym (further w.x w.pitch (first_column w first) (64 * tile + column)))
        ∙ ap (λ n. spot ((grid_of w first).x +ℤ pos (64 * tile + column) *ℤ (pos 2 *ℤ w.pitch)) (y_of n)) row_is

    pixel_is : (column row : ℕ) → column < 64 → IsIn (grid_of w (first + tile)) column row
        ↔ ((64 * tile + column < columns_of w first (length tiles)) × (row < (grid_of w first).rows))
    pixel_is column row few =
        let rows = ap (λ n. min 64 (w.height - 64 * n)) row_is in (
          (λ h. (omega (arith, h.0, left_is, under, few), subst (λ n. row < n) rows h.1)),
          (λ h. (omega (arith, h.0, left_is, few), subst (λ n. row < n) (sym rows) h.1)),
        )

  -- tiles among them are tiles of the row
  pub part_of_row : (start end : ℕ) → start < end → end ≤ length tiles
      → IsRowOfTiles w (first + start) (mid_of start (end - start) tiles)
  part_of_row start end some within =
      let long = middle_length start end tiles (omega arith) within in
      let begins = column_is start (omega arith) in
      record {
        some = omega (arith, long, some);
        fits = omega (arith, long, begins, row_of.fits, within);
        within = omega (arith, long, row_of.within, within);
      }

  count_is : (columns_of w first (length tiles) + 63) / 64 ≡ length tiles
  count_is = omega (arith, row_of.some, row_of.fits)

  some_columns : 0 < columns_of w first (length tiles)
  some_columns = omega (arith, row_of.some, row_of.fits)

  still_dirty : (those : List Tile) (k : ℕ) → get_or those k (Some []) ≡ None → get_or those k None ≡ None
  still_dirty [] k e = refl
  still_dirty (tile ∷ those) zero e = e
  still_dirty (tile ∷ those) (suc k) e = still_dirty those k e

  module _ (accepted_w : accepts w ≡ true) (s new : Swathed) (leaves : List Leaf) (grid : s.grid ≡ grid_of w first)
      (columns : s.columns ≡ columns_of w first (length tiles)) (h : PaintsSwath s leaves new) where
    -- what holds of the grid of the first tile, and of so many columns
    of_swath : (P : Grid → ℕ → Type 0) → P (grid_of w first) (columns_of w first (length tiles)) → P s.grid s.columns
    of_swath P holds = subst (λ g. P g s.columns) (sym grid) (subst (P (grid_of w first)) (sym columns) holds)

    first_there : IsInSwath s 0 0
    first_there =
        let some = accepted w accepted_w in
        let below = top_within w first some.width.0 (omega (arith, row_of.some, row_of.within)) in
        of_swath (λ g n. (0 < n) × (0 < g.rows)) (some_columns, omega (arith, below))

    same_columns : new.columns ≡ s.columns
    same_columns =
        let there = (h.pixels 0 0).1 first_there in
        let few = ((h.pixels (new.columns - 1) 0).0 (omega (arith, there.0), there.1)).0 in
        let many = ((h.pixels (s.columns - 1) 0).1 (omega (arith, first_there.0), first_there.1)).0 in
        omega (arith, few, many, there.0, first_there.0)

    pub all_columns : length tiles ≡ tiles_in new
    all_columns = sym (ap (λ n. (n + 63) / 64) (same_columns ∙ columns) ∙ count_is)

    -- once they were not decided, they show the leaves
    pub drawn_dirty : ((column row : ℕ) → IsInSwath s column row
        → ink_in s column row ≡ (if is_none (get_or tiles (column / 64) None) then None else Some false))
        → ShowsDirty (is_black leaves) (grid_of w) first new tiles
    drawn_dirty undecided =
        let place : (column row : ℕ) → place_in new column row ≡ place_in s column row =
        λ column row. ap (λ (f : ℕ → ℕ → Spot). f column row) h.places in
        record {
          pixels = λ tile column row under few.
              let was : IsIn (grid_of w (first + tile)) column row ↔ IsInSwath s (64 * tile + column) row =
              of_swath (λ g n. IsIn (grid_of w (first + tile)) column row ↔ ((64 * tile + column < n) × (row < g.rows)))
              (pixel_is tile under column row few) in
              let kept = h.pixels (64 * tile + column) row in
              ((λ there. kept.1 (was.0 there)), (λ there. was.1 (kept.0 there)));
          places = λ tile column row under.
              of_swath (λ g n. centre_in (grid_of w (first + tile)) column row ≡ centre_in g (64 * tile + column) row)
              (centre_is tile under column row)
              ∙ sym (place (64 * tile + column) row);
          inks = λ column row there dirty.
              let was = (h.pixels column row).0 there in
              let at = place_in s column row in
              let none : ink_in s column row ≡ None =
              undecided column row was
              ∙ ap (λ (tile : Tile). if is_none tile then None else Some false) (still_dirty tiles (column / 64) dirty) in
              ap (λ (ink : Option Bool). unwrap_or ink false)
              (h.inks column row was ∙ ap (λ (ink : Option Bool). option_or ink (last_ink leaves at)) none)
              ∙ sym (last_law leaves at) ∙ ap (is_black leaves) (sym (place column row));
        }
