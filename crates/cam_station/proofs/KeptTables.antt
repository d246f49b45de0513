-- Tables stay tables of the window, one for each layer.
use Rattle.std.proofs.Common.{◌≡◌, ◌∙◌, ℕ, ◌+◌, ◌-◌, Bool, true, List, [], ◌∷◌, ◌++◌, length, replicate, drop}
use Rattle.std.proofs.Common.{take, append-nil, slice_get, Option, None, Some, ap, arith, refl, suc, zero}
use Rattle.std.specs.Prelude.{All}
use Rattle.std.proofs.lemmas.List.{drop_all, length-append, length-replicate, length-set, take_all}
use Rattle.std.proofs.lemmas.List.Elements.{All-cons, All-head, All-tail, All-push, All-replicate, All-set}
use Rattle.cam_units.specs.declared.bounds.Bounds.{Bounds}
use Rattle.cam_units.specs.declared.point.Spot.{Spot}
use Rattle.cam_tiles.specs.declared.window.Window.{Window}
use Rattle.cam_tiles.specs.Picture.{accepts}
use Rattle.cam_tiles.specs.Tables.{IsTable, Table, Tile, blank, dirty_count, drawn_from, redrawn}
use Rattle.cam_tiles.specs.Touched.{box_touched, touched_by, touches, wiped_from}
use Rattle.cam_tiles.specs.Tiles.{grid_of, tile_rows, tiles_of}
use Rattle.cam_edits.specs.Images.{image_of}
use Rattle.cam_edits.specs.Places.{changed, changed_to}
use Rattle.cam_edits.specs.Sheets.{Content, Sheet}
use Rattle.cam_edits.specs.Touches.{Touch}
use Rattle.cam_station.specs.TileTables.{AreTables, drawn, redrawn_in, touched_in, with_blank}
use Rattle.cam_edits.proofs.EditedLists.{all_here}

-- ---- one table

-- a table of the window
abbrev pub IsTableOf : Window → Table → Type 0
IsTableOf w t = IsTable t × (t.window ≡ w)

length-wiped : (is_wiped : ℕ → Bool) (k : ℕ) (tiles : List Tile) → length (wiped_from is_wiped k tiles) ≡ length tiles
length-wiped is_wiped k [] = refl
length-wiped is_wiped k (tile ∷ tiles) = ap suc (length-wiped is_wiped (k + 1) tiles)

length-drawn : (draw : ℕ → List ℕ) (k n : ℕ) (tiles : List Tile) → length (drawn_from draw k n tiles) ≡ length tiles
length-drawn draw k n [] = refl
length-drawn draw k n (Some rows ∷ tiles) = ap suc (length-drawn draw (k + 1) n tiles)
length-drawn draw k zero (None ∷ tiles) = refl
length-drawn draw k (suc n) (None ∷ tiles) = ap suc (length-drawn draw (k + 1) n tiles)

module _ (w : Window) where
  touched_stays : (boxes : List Bounds) (t : Table) → IsTableOf w t → IsTableOf w (touched_by boxes t)
  touched_stays [] t h = h
  touched_stays (box ∷ boxes) t h = touched_stays boxes (box_touched box t)
      (record { accepted = h.0.accepted; full = length-wiped (touches t.window box) 0 t.tiles ∙ h.0.full }, h.1)

  redrawn_stays : (image : Spot → Bool) (n : ℕ) (t : Table) → IsTableOf w t → IsTableOf w (redrawn image n t)
  redrawn_stays image n t h =
      let full : length (redrawn image n t).tiles ≡ tiles_of t.window =
      length-drawn (λ k. tile_rows image (grid_of t.window k)) 0 n t.tiles ∙ h.0.full in
      (record { accepted = h.0.accepted; full = full }, h.1)

  pub blank_is_table : accepts w ≡ true → IsTableOf w (blank w)
  blank_is_table accepted = (record { accepted = accepted; full = length-replicate (tiles_of w) None }, refl)

  -- ---- tables in their order

  changed_stay : (f : Table → Table) (tables : List Table) (place : ℕ) (here : Option Table)
      → ((t : Table) → IsTableOf w t → IsTableOf w (f t)) → slice_get tables place ≡ here
      → All (IsTableOf w) tables → All (IsTableOf w) (changed_to f tables place here)
  changed_stay f tables place None keeps e h = h
  changed_stay f tables place (Some t) keeps e h =
      All-set (IsTableOf w) tables place (f t) (keeps t (all_here (IsTableOf w) tables place t h e)) h

length-changed_to : {X : Type 0} (f : X → X) (xs : List X) (place : ℕ) (here : Option X)
    → length (changed_to f xs place here) ≡ length xs
length-changed_to f xs place None = refl
length-changed_to f xs place (Some x) = length-set xs place (f x)

pub length-changed : {X : Type 0} (f : X → X) (xs : List X) (place : ℕ) → length (changed f xs place) ≡ length xs
length-changed f xs place = length-changed_to f xs place (slice_get xs place)

touch_stays : (window : Option Window) (count : ℕ) (t : Touch) (tables : List Table) → AreTables window count tables
    → AreTables window count (changed (touched_by t.boxes) tables t.sheet)
touch_stays None count t tables h = rw h refl
touch_stays (Some w) count t tables h = (
  length-changed (touched_by t.boxes) tables t.sheet ∙ h.0,
  changed_stay w (touched_by t.boxes) tables t.sheet (slice_get tables t.sheet) (touched_stays w t.boxes) refl h.1,
)

-- tables that are touched
pub touches_stay : (window : Option Window) (count : ℕ) (touches : List Touch) (tables : List Table)
    → AreTables window count tables → AreTables window count (touched_in touches tables)
touches_stay window count [] tables h = h
touches_stay window count (t ∷ touches) tables h =
    touches_stay window count touches (changed (touched_by t.boxes) tables t.sheet) (touch_stays window count t tables h)

-- a table that is drawn
pub drawn_stays : (window : Option Window) (count : ℕ) (content : Content) (place : ℕ) (tables : List Table)
    → AreTables window count tables → AreTables window count (changed (drawn content) tables place)
drawn_stays None count content place tables h = rw h refl
drawn_stays (Some w) count content place tables h = (
  length-changed (drawn content) tables place ∙ h.0,
  changed_stay w (drawn content) tables place (slice_get tables place)
      (λ t. redrawn_stays w (image_of content) (dirty_count t) t) refl h.1,
)

all_redrawn : (w : Window) (n : ℕ) (sheets : List Sheet) (tables : List Table) → All (IsTableOf w) tables
    → All (IsTableOf w) (redrawn_in n sheets tables)
all_redrawn w n [] tables h = h
all_redrawn w n (s ∷ sheets) [] h = h
all_redrawn w n (s ∷ sheets) (t ∷ tables) h =
    All-cons (IsTableOf w) (redrawn (image_of s.content) n t) (redrawn_in (n - dirty_count t) sheets tables)
    (redrawn_stays w (image_of s.content) n t (All-head (IsTableOf w) t tables h))
    (all_redrawn w (n - dirty_count t) sheets tables (All-tail (IsTableOf w) t tables h))

pub length-redrawn_in : (n : ℕ) (sheets : List Sheet) (tables : List Table)
    → length (redrawn_in n sheets tables) ≡ length tables
length-redrawn_in n [] tables = refl
length-redrawn_in n (s ∷ sheets) [] = refl
length-redrawn_in n (s ∷ sheets) (t ∷ tables) = ap suc (length-redrawn_in (n - dirty_count t) sheets tables)

pub none_redrawn : (n : ℕ) (sheets : List Sheet) → redrawn_in n sheets [] ≡ []
none_redrawn n [] = refl
none_redrawn n (s ∷ sheets) = refl

-- tables that are drawn
pub redraw_stays : (window : Option Window) (count n : ℕ) (sheets : List Sheet) (tables : List Table)
    → AreTables window count tables → AreTables window count (redrawn_in n sheets tables)
redraw_stays None count n sheets tables h = rw h (none_redrawn n sheets)
redraw_stays (Some w) count n sheets tables h =
    (length-redrawn_in n sheets tables ∙ h.0, all_redrawn w n sheets tables h.1)

-- the tables of a window
pub blanks_are_tables : (w : Window) (count : ℕ) → accepts w ≡ true
    → AreTables (Some w) count (replicate count (blank w))
blanks_are_tables w count accepted =
    (length-replicate count (blank w), All-replicate (IsTableOf w) count (blank w) (blank_is_table w accepted))

-- one more
pub blank_joins : (window : Option Window) (count : ℕ) (tables : List Table)
    → ((w : Window) → window ≡ Some w → accepts w ≡ true) → AreTables window count tables
    → AreTables window (count + 1) (with_blank window tables)
blank_joins None count tables accepted h = h
blank_joins (Some w) count tables accepted h = (
  length-append tables (blank w ∷ []) ∙ ap (λ n. n + 1) h.0,
  All-push (IsTableOf w) tables (blank w) h.1 (blank_is_table w (accepted w refl)),
)

-- ---- slices

pub length-touched_in : (touches : List Touch) (tables : List Table) → length (touched_in touches tables) ≡ length tables
length-touched_in [] tables = refl
length-touched_in (t ∷ touches) tables =
    length-touched_in touches (changed (touched_by t.boxes) tables t.sheet)
    ∙ length-changed (touched_by t.boxes) tables t.sheet

-- tables that were written over
pub written_over : (count : ℕ) (new old : List Table) → length new ≡ length old → length old ≡ count
    → take count (new ++ drop (length new) old) ≡ new
written_over count new old same full =
    ap (λ rest. take count (new ++ rest)) (drop_all (length new) old (omega (arith, same)))
    ∙ (ap (take count) (append-nil new) ∙ take_all count new (omega (arith, same, full)))
