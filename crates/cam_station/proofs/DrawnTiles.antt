-- A redraw and a plot tell how many tiles they drew.
use Rattle.std.proofs.Common.{◌≡◌, ℕ, ◌+◌, ◌-◌, ◌<◌, zero, suc, min, List, [], ◌∷◌, length, Option, None, Some, Ok}
use Rattle.std.proofs.Common.{refl, ap, sym, arith, unwrap_or}
use Rattle.std.specs.Prelude.{slice_get}
use Rattle.std.proofs.lemmas.List.Sums.{sum_by-cons}
use Rattle.cam_tiles.specs.Tables.{Table, blank, dirty_count, redrawn}
use Rattle.cam_tiles.specs.declared.window.Window.{Window}
use Rattle.cam_edits.specs.Boards.{content_at, place_named}
use Rattle.cam_edits.specs.Images.{image_of}
use Rattle.cam_edits.specs.Places.{changed}
use Rattle.cam_edits.specs.Sheets.{Content, Sheet}
use Rattle.cam_station.specs.TileTables.{dirty_in, drawn, redrawn_in, table_at}
use Rattle.cam_station.specs.declared.reply.Numbers.TheVariants.{One}
use Rattle.cam_station.specs.declared.reply.Reply.TheVariants.{Bytes, Numbers}
use Rattle.cam_station.specs.Locality.{CountsRedraw, DrawnTiles}
use Rattle.cam_station.specs.Machine.{
  State,
  MemoryGrant,
  Granted,
  RefusedToReader,
  RefusedToStation,
  fresh,
  plot_at,
  plot_in,
  redraw_in,
  with_drawn,
}
use Rattle.cam_station.specs.Calls.{drawn_where, states_after}
use Rattle.cam_tiles.proofs.DrawnTiles.{redraw_law}
use Rattle.cam_station.proofs.ShownTables.{IsShown, as_many_as_layers, named_within, shown, table_there}
use Rattle.cam_station.proofs.TablesAt.{changed-suc}

-- ---- how many are dirty

-- a redraw leaves n dirty tiles fewer
pub dirty_redrawn : (n : ℕ) (sheets : List Sheet) (tables : List Table) → length tables ≡ length sheets
    → dirty_in (redrawn_in n sheets tables) ≡ dirty_in tables - n
dirty_redrawn n [] [] each = omega arith
dirty_redrawn n [] (t ∷ tables) each = absurd (omega (arith, each))
dirty_redrawn n (s ∷ sheets) [] each = absurd (omega (arith, each))
dirty_redrawn n (s ∷ sheets) (t ∷ tables) each =
    let rest : dirty_in (redrawn_in (n - dirty_count t) sheets tables) ≡ dirty_in tables - (n - dirty_count t) =
    dirty_redrawn (n - dirty_count t) sheets tables (omega (arith, each)) in
    omega (
      arith,
      rest,
      redraw_law.count (image_of s.content) n t,
      sum_by-cons dirty_count t tables,
      sum_by-cons dirty_count (redrawn (image_of s.content) n t) (redrawn_in (n - dirty_count t) sheets tables),
    )

-- and the drawing of a layer none on it
pub dirty_drawn : (c : Content) (tables : List Table) (place : ℕ) (t : Table) → slice_get tables place ≡ Some t
    → dirty_in (changed (drawn c) tables place) + dirty_count t ≡ dirty_in tables
dirty_drawn c [] place t here = absurd cc
dirty_drawn c (u ∷ tables) zero t here =
    let same : u ≡ t = cc in
    omega (
      arith,
      redraw_law.count (image_of c) (dirty_count u) u,
      ap dirty_count same,
      sum_by-cons dirty_count u tables,
      sum_by-cons dirty_count (drawn c u) tables,
    )
dirty_drawn c (u ∷ tables) (suc place) t here =
    omega (
      arith,
      dirty_drawn c tables place t here,
      ap dirty_in (changed-suc (drawn c) u tables place),
      sum_by-cons dirty_count u tables,
      sum_by-cons dirty_count u (changed (drawn c) tables place),
    )

-- ---- what is told

module _ (s : State) (h : IsShown s) where
  redraw_counts : (o : Option Window) (n : ℕ) (memory : MemoryGrant) (count : ℕ) → s.window ≡ o
      → (redraw_in s n o).1 ≡ Ok (Numbers (One count))
      → (count ≡ min n (dirty_in s.tables)) × (dirty_in (redraw_in s n o).0.tables + count ≡ dirty_in s.tables)
  redraw_counts None n memory count is answered = absurd cc
  redraw_counts (Some w) n memory count is answered =
      let told : min n (dirty_in s.tables) ≡ count = cc in (
        sym told,
        omega (arith, told, dirty_redrawn n s.timeline.document s.tables (as_many_as_layers s h w is)),
      )

  redrawn_counts : (n : ℕ) (memory : MemoryGrant) (count : ℕ) → (redraw_in s n s.window).1 ≡ Ok (Numbers (One count))
      → CountsRedraw s n memory count
  redrawn_counts n memory count answered =
      let both = redraw_counts s.window n memory count refl answered in
      record { told = both.0; left = both.1 }

  -- the plot of a layer, by the window in force
  record IsDrawnAt (after : State) (o : Option Window) (place count : ℕ) : Type 0 where
    is : after ≡ drawn_where s o (Some place)
    left : dirty_in (drawn_where s o (Some place)).tables + count ≡ dirty_in s.tables

  granted : (w : Window) (place count : ℕ) → s.window ≡ Some w → place < length s.timeline.document
      → dirty_count (table_at w s.tables place) ≡ count
      → dirty_in (with_drawn s place).tables + count ≡ dirty_in s.tables
  granted w place count is within told =
      let found = table_there s h w is place within in
      let there : table_at w s.tables place ≡ found.0 = ap (λ o. unwrap_or o (blank w)) found.1 in
      omega (
        arith,
        told,
        ap dirty_count there,
        dirty_drawn (content_at s.timeline.document place) s.tables place found.0 found.1,
      )

  plot_counts : (memory : MemoryGrant) (o : Option Window) (place : ℕ) (bytes : List ℕ) (count : ℕ) → s.window ≡ o
      → place < length s.timeline.document → (plot_in s memory place o).1 ≡ Ok (Bytes bytes count)
      → IsDrawnAt (plot_in s memory place o).0 o place count
  plot_counts memory None place bytes count is within answered = absurd cc
  plot_counts Granted (Some w) place bytes count is within answered =
      let told : dirty_count (table_at w s.tables place) ≡ count = cc in
      record { is = refl; left = granted w place count is within told }
  plot_counts RefusedToReader (Some w) place bytes count is within answered =
      let told : dirty_count (table_at w s.tables place) ≡ count = cc in
      record { is = refl; left = granted w place count is within told }
  plot_counts RefusedToStation (Some w) place bytes count is within answered = absurd cc

  plotted_counts : (name : List ℕ) (memory : MemoryGrant) (place : Option ℕ) (bytes : List ℕ) (count : ℕ)
      → place_named name s.timeline.document ≡ place → (plot_at s memory place).1 ≡ Ok (Bytes bytes count)
      → ((plot_at s memory place).0 ≡ drawn_where s s.window place)
      × (dirty_in (drawn_where s s.window place).tables + count ≡ dirty_in s.tables)
  plotted_counts name memory None bytes count named answered = absurd cc
  plotted_counts name memory (Some place) bytes count named answered =
      let drawn = plot_counts memory s.window place bytes count refl
      (named_within name s.timeline.document place named) answered in
      (drawn.is, drawn.left)

pub drawn_tiles : DrawnTiles
drawn_tiles =
    record {
      redraw = λ depth before n memory count answered.
          redrawn_counts (states_after (fresh depth) before) (shown depth before) n memory count answered;
      plot = λ depth before name memory bytes count answered.
          let s : State = states_after (fresh depth) before in
          let both = plotted_counts s (shown depth before) name memory (place_named name s.timeline.document) bytes count
          refl answered in
          record { after = both.0; left = both.1 };
    }
