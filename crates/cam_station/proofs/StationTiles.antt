-- What a station shows once tiles are drawn, and that it stays a station.
use Rattle.std.proofs.Common.{◌≡◌, ◌∙◌, ℕ, ◌<◌, false, List, ◌++◌, length, drop, take, slice_get, slice_index_or}
use Rattle.std.proofs.Common.{slice_set, Option, None, Some, ap, option_map, refl, sym, unwrap_or}
use Rattle.std.specs.Prelude.{Ok, is_none}
use Rattle.std.proofs.lemmas.Option.{slice_get_read}
use Rattle.cam_tiles.specs.declared.window.Window.{Window}
use Rattle.cam_tiles.specs.Tables.{Table, blank, dirty_count, pbm_of}
use Rattle.cam_edits.specs.Boards.{content_at, place_named}
use Rattle.cam_edits.specs.Places.{changed, changed_to}
use Rattle.cam_edits.specs.Sheets.{Content, Sheet}
use Rattle.cam_station.specs.declared.reply.Reply.TheVariants.{Bytes}
use Rattle.cam_station.specs.TileTables.{AreTables, drawn, redrawn_in, table_at}
use Rattle.cam_station.specs.Machine.{Granted, RefusedToStation, State, Outcome}
use Rattle.cam_station.specs.Machinery.Stations.{IsStation}
use Rattle.cam_station.specs.Machine.{plot_at, plot_in, plot_step, refused, with_drawn}
use Rattle.cam_refusals.specs.declared.refusal.Refusal.TheVariants.{NoMemory}
use Rattle.cam_station.proofs.KeptTables.{drawn_stays, length-redrawn_in, redraw_stays, written_over}
use Rattle.cam_station.proofs.TablesAt.{changed_here}

-- ---- a redraw

pub station_redrawn : (depth : ℕ) (window : Option Window) (sheets : List Sheet) (count n : ℕ) (old new : List Table)
    → IsStation depth window sheets old → new ≡ redrawn_in n sheets old → count ≡ length old
    → IsStation depth window sheets (take count (new ++ drop (length new) old))
station_redrawn depth window sheets count n old new h e full =
    let over : take count (new ++ drop (length new) old) ≡ redrawn_in n sheets old =
    written_over count new old (ap length e ∙ length-redrawn_in n sheets old) (sym full) ∙ e in
    record {
      least = h.least;
      greatest = h.greatest;
      in_force = h.in_force;
      tables = rw over (redraw_stays window (length sheets) n sheets old h.tables);
    }

-- ---- a plot

-- where a window is in force, each layer has its table
tables_of_window : (window : Option Window) (count : ℕ) (tables : List Table) → is_none window ≡ false
    → AreTables window count tables → length tables ≡ count
tables_of_window None count tables framed h = absurd cc
tables_of_window (Some w) count tables framed h = h.0

pub table_there : (depth : ℕ) (window : Option Window) (sheets : List Sheet) (tables : List Table) (place : ℕ) (t : Table)
    → IsStation depth window sheets tables → is_none window ≡ false → place < length sheets
    → t ≡ slice_index_or tables place t → slice_get tables place ≡ Some t
table_there depth window sheets tables place t h framed here e =
    slice_get_read tables (length sheets) place t
    (sym (tables_of_window window (length sheets) tables framed h.tables)) here e

-- the tables, the one of the layer drawn
pub layer_drawn : (content : Content) (tables : List Table) (place : ℕ) (t new : Table) → slice_get tables place ≡ Some t
    → new ≡ drawn content t → slice_set tables place new ≡ changed (drawn content) tables place
layer_drawn content tables place t new there e =
    ap (slice_set tables place) e ∙ sym (ap (changed_to (drawn content) tables place) there)

pub station_drawn : (depth : ℕ) (window : Option Window) (sheets : List Sheet) (content : Content) (tables new : List Table)
    (place : ℕ) → IsStation depth window sheets tables → new ≡ changed (drawn content) tables place
    → IsStation depth window sheets new
station_drawn depth window sheets content tables new place h e = record {
  least = h.least;
  greatest = h.greatest;
  in_force = h.in_force;
  tables = rw e (drawn_stays window (length sheets) content place tables h.tables);
}

module _ (s : State) (name : List ℕ) (place : ℕ) (named : place_named name s.timeline.document ≡ Some place)
    (framed : is_none s.window ≡ false) where
  refused_in : (window : Option Window) → is_none window ≡ false
      → plot_in s RefusedToStation place window ≡ (with_drawn s place, refused NoMemory)
  refused_in None framed = absurd cc
  refused_in (Some w) framed = refl

  -- without memory for the file
  pub plot_refused : plot_step s name RefusedToStation ≡ (with_drawn s place, refused NoMemory)
  plot_refused = ap (plot_at s RefusedToStation) named ∙ refused_in s.window framed

  module _ (t : Table) (there : slice_get s.tables place ≡ Some t) where
    abbrev content : Content
    content = content_at s.timeline.document place

    abbrev told : List ℕ → ℕ → Outcome
    told bytes count = Ok (Bytes bytes count)

    made_in : (window : Option Window) → is_none window ≡ false
        → plot_in s Granted place window ≡ (with_drawn s place, told (pbm_of (drawn content t)) (dirty_count t))
    made_in None framed = absurd cc
    made_in (Some w) framed =
        ap (λ o. (with_drawn s place, told (pbm_of (unwrap_or o (blank w))) (dirty_count (table_at w s.tables place))))
        (changed_here (drawn content) s.tables place ∙ ap (option_map (drawn content)) there)
        ∙ ap (λ o. (with_drawn s place, told (pbm_of (drawn content t)) (dirty_count (unwrap_or o (blank w))))) there

    -- the file, and how many tiles were drawn for it
    pub plot_made : (bytes : List ℕ) (count : ℕ) → bytes ≡ pbm_of (drawn content t) → count ≡ dirty_count t
        → plot_step s name Granted ≡ (with_drawn s place, Ok (Bytes bytes count))
    plot_made bytes count file dirty =
        ap (plot_at s Granted) named ∙ (made_in s.window framed
        ∙ (ap (λ b. (with_drawn s place, told b (dirty_count t))) (sym file)
        ∙ ap (λ n. (with_drawn s place, told bytes n)) (sym dirty)))
