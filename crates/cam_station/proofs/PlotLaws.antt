-- Exact plot.
use Rattle.std.proofs.Common.{◌≡◌, ℕ, ◌<◌, ◌↔◌, List, length, Option, None, Some, Ok, refl, ap, ◌∙◌, arith, sym}
use Rattle.std.proofs.Common.{unwrap_or}
use Rattle.std.specs.Prelude.{slice_get}
use Rattle.std.specs.Option.{option_map}
use Rattle.cam_station.specs.declared.reply.Reply.{Reply}
use Rattle.cam_station.specs.declared.reply.Reply.TheVariants.{Bytes}
use Rattle.cam_tiles.specs.declared.window.Window.{Window}
use Rattle.cam_objects.proofs.TestLaws.{black_law}
use Rattle.cam_edits.specs.Boards.{content_at, place_named}
use Rattle.cam_edits.specs.Images.{image_of, sheet_leaves}
use Rattle.cam_edits.specs.Sheets.{Content}
use Rattle.cam_station.specs.TileTables.{drawn, table_at}
use Rattle.cam_station.specs.Machine.{
  State,
  MemoryGrant,
  Granted,
  RefusedToReader,
  RefusedToStation,
  fresh,
  plot_at,
  plot_in,
  with_drawn,
}
use Rattle.cam_tiles.proofs.PictureLemmas.{plot_law}
use Rattle.cam_tiles.specs.Picture.{Shows, centre_of, plot_of}
use Rattle.cam_tiles.specs.Tables.{Table, blank, dirty_count, pbm_of}
use Rattle.cam_station.specs.Plots.{ExactPlot, IsPlotOf}
use Rattle.cam_station.specs.Calls.{states_after}
use Rattle.cam_tiles.proofs.DrawnTiles.{redraw_law}
use Rattle.cam_tiles.proofs.Pictures.{picture_law}
use Rattle.cam_station.proofs.CleanTiles.{IsInForce, in_force}
use Rattle.cam_station.proofs.ShownTables.{IsShown, named_within, plotted as plotted_shown, shown, table_there}
use Rattle.cam_station.proofs.TablesAt.{changed_here}

-- the file of a table that is drawn
abbrev drawn_file : State → Window → ℕ → List ℕ
drawn_file s w place = pbm_of (table_at w (with_drawn s place).tables place)

-- an accepted plot of a layer had a window, and answers the file of its table there, with some count
record IsFile (s : State) (place : ℕ) (reply : Reply) : Type 0 where
  window : Window
  in_force : s.window ≡ Some window
  count : ℕ
  answered : reply ≡ Bytes (drawn_file s window place) count

plotted_in : (s : State) (m : MemoryGrant) (place : ℕ) (w : Option Window) (reply : Reply) → s.window ≡ w
    → (plot_in s m place w).1 ≡ Ok reply → IsFile s place reply
plotted_in s m place None reply e h = absurd cc
plotted_in s Granted place (Some w) reply e h =
    record { window = w; in_force = e; count = dirty_count (table_at w s.tables place); answered = cc }
plotted_in s RefusedToReader place (Some w) reply e h =
    record { window = w; in_force = e; count = dirty_count (table_at w s.tables place); answered = cc }
plotted_in s RefusedToStation place (Some w) reply e h = absurd cc

both : {A B C : Type 0} → A ↔ B → B ↔ C → A ↔ C
both f g = (λ a. g.0 (f.0 a), λ c. f.1 (g.1 c))

-- a window is the one in force
same_window : (o : Option Window) (w v : Window) → o ≡ Some w → o ≡ Some v → v ≡ w
same_window o w v e f = let both : Some v ≡ Some w = sym f ∙ e in cc

module _ (s : State) (h : IsShown s) (w : Window) (e : s.window ≡ Some w) (place : ℕ)
    (within : place < length s.timeline.document) where
  abbrev content : Content
  content = content_at s.timeline.document place

  -- the file of the drawn table is the plot of the layer
  file_is_plot : drawn_file s w place ≡ plot_of w (image_of content)
  file_is_plot =
      let found = table_there s h w e place within in
      let after : State = with_drawn s place in
      let t : Table = drawn content found.0 in
      let there : slice_get after.tables place ≡ Some t =
      changed_here (drawn content) s.tables place ∙ ap (option_map (drawn content)) found.1 in
      let h' : IsShown after = plotted_shown s h place in
      let forced : IsInForce after.window t =
      in_force after.window (length s.timeline.document) after.tables place t h'.tables there in
      ap (λ o. pbm_of (unwrap_or o (blank w))) there
      ∙ picture_law.plot (image_of content) t forced.table (h'.pictured place t there)
      (omega (arith, redraw_law.count (image_of content) (dirty_count found.0) found.0))
      ∙ ap (λ v. plot_of v (image_of content)) (same_window s.window w t.window e forced.window)

pictured : (s : State) (h : IsShown s) (name : List ℕ) (place : ℕ) (reply : Reply)
    → place_named name s.timeline.document ≡ Some place → IsFile s place reply → IsPlotOf s name reply
pictured s h name place reply named file =
    let c : Content = content_at s.timeline.document place in
    let shows : Shows (plot_of file.window (image_of c)) file.window (image_of c) =
    plot_law file.window (image_of c) (h.in_force file.window file.in_force) in
    let is : drawn_file s file.window place ≡ plot_of file.window (image_of c) =
    file_is_plot s h file.window file.in_force place (named_within name s.timeline.document place named) in
    record {
      window = file.window;
      content = c;
      bytes = plot_of file.window (image_of c);
      in_force = file.in_force;
      named = ap (option_map (content_at s.timeline.document)) named;
      drawn = file.count;
      answered = file.answered ∙ ap (λ bytes. Bytes bytes file.count) is;
      picture = refl;
      shows = shows;
      pixels = λ column row across up.
          both (shows.pixels column row across up) (black_law (sheet_leaves c) (centre_of file.window column row));
    }

plotted : (s : State) (h : IsShown s) (m : MemoryGrant) (name : List ℕ) (place : Option ℕ) (reply : Reply)
    → place_named name s.timeline.document ≡ place → (plot_at s m place).1 ≡ Ok reply → IsPlotOf s name reply
plotted s h m name None reply e answered = absurd cc
plotted s h m name (Some place) reply e answered =
    pictured s h name place reply e (plotted_in s m place s.window reply refl answered)

pub exact_plot : ExactPlot
exact_plot depth before name m reply h =
    let s : State = states_after (fresh depth) before in
    plotted s (shown depth before) m name (place_named name s.timeline.document) reply refl h
