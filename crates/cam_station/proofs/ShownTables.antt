-- In each state that a station can come to, each layer has its table, whose clean tiles show it.
use Rattle.std.proofs.Common.{◌≡◌, ◌⊎◌, ℕ, ◌<◌, zero, suc, true, List, [], ◌∷◌, ◌++◌, length, Option, None, Some, refl}
use Rattle.std.proofs.Common.{ap, ◌∙◌, sym, subst, inl, inr, ⊎_elim, arith, length-append, option_map}
use Rattle.std.specs.Prelude.{slice_get}
use Rattle.std.specs.Str.{bytes_eq}
use Rattle.std.proofs.lemmas.Bool.Decides.{eqb_tells}
use Rattle.std.proofs.lemmas.List.Quantifiers.{position-Some}
use Rattle.cam_tiles.specs.declared.window.Window.{Window}
use Rattle.cam_tiles.specs.Picture.{accepts}
use Rattle.cam_tiles.specs.Tables.{Table, blank, dirty_count}
use Rattle.cam_tiles.specs.TileLaws.{IsPictured}
use Rattle.cam_tiles.specs.Touched.{touched_by}
use Rattle.cam_edits.specs.Boards.{content_at, empty_content, place_named}
use Rattle.cam_edits.specs.Images.{image_of}
use Rattle.cam_edits.specs.Places.{changed}
use Rattle.cam_edits.specs.Sheets.{Content, Sheet, sheet}
use Rattle.cam_edits.specs.Touches.{Touch, touch_of_edit}
use Rattle.cam_undo.specs.declared.fault.HistoryFault.{HistoryFault}
use Rattle.cam_undo.specs.Machine.{Timeline, aborted, accepted, begun, ended, fault_by_group, redone, undone}
use Rattle.cam_station.specs.TileTables.{AreTables, drawn, redrawn_in, touched_in, with_blank}
use Rattle.cam_station.specs.Locality.{boxes_on}
use Rattle.cam_station.specs.Machine.{State, Outcome, fresh, moved_to, with_drawn, with_sheet, with_tables, with_window}
use Rattle.cam_station.specs.Touches.{
  Touches,
  aborted_touches,
  accepted_touches,
  begun_touches,
  ended_touches,
  redone_touches,
  touched_by_abort,
  touched_by_redo,
  touched_by_undo,
  undone_touches,
}
use Rattle.cam_station.specs.Calls.{Call, state_after, states_after}
use Rattle.cam_edits.proofs.EditBoxes.{edits_stay_in_their_boxes}
use Rattle.cam_tiles.proofs.Pictures.{picture_law}
use Rattle.cam_station.proofs.KeptTables.{blank_joins, blanks_are_tables, drawn_stays, redraw_stays, touches_stay}
use Rattle.cam_station.proofs.KeptWays.{
  aborted_ways,
  accepted_ways,
  begun_ways,
  ended_ways,
  redone_ways,
  undone_ways,
  ways_here,
}
use Rattle.cam_station.proofs.Refusing.{AfterEach, after_each}
use Rattle.cam_station.proofs.TablesAt.{IsRedrawn, blank_at, changed_elsewhere, changed_here, element_at, redrawn_at}
use Rattle.cam_station.proofs.TablesAt.{touched_at}
use Rattle.cam_station.specs.Ways.{AreWays, KeptWays, Way}
use Rattle.cam_station.proofs.Ways.{stay}

-- each table shows its layer
abbrev pub ArePictured : List Sheet → List Table → Type 0
ArePictured sheets tables =
    (place : ℕ) (t : Table) → slice_get tables place ≡ Some t → IsPictured (image_of (content_at sheets place)) t

-- each layer has its table of the window in force, which shows it, and the ways to other documents are kept
pub record IsShown (s : State) : Type 0 where
  pub in_force : (w : Window) → s.window ≡ Some w → accepts w ≡ true
  pub tables : AreTables s.window (length s.timeline.document) s.tables
  pub pictured : ArePictured s.timeline.document s.tables
  pub ways : AreWays s.timeline s.touches

-- ---- pictures

-- the table that became this one
mapped : (f : Table → Table) (o : Option Table) (t : Table) → option_map f o ≡ Some t
    → (earlier : Table) × (o ≡ Some earlier) × (f earlier ≡ t)
mapped f None t is = absurd cc
mapped f (Some earlier) t is = let same : f earlier ≡ t = cc in (earlier, refl, same)

touched_pictured : (touches : List Touch) (from to : List Sheet) (tables : List Table) → Way touches from to
    → ArePictured from tables → ArePictured to (touched_in touches tables)
touched_pictured touches from to tables way h place t here =
    let boxes = boxes_on place touches in
    let before = mapped (touched_by boxes) (slice_get tables place) t (sym (touched_at touches tables place) ∙ here) in
    subst (IsPictured (image_of (content_at to place))) before.2
    (picture_law.change (image_of (content_at from place)) (image_of (content_at to place)) boxes before.0
    (way.outside place) (h place before.0 before.1))

redrawn_pictured : (n : ℕ) (sheets : List Sheet) (tables : List Table) → length tables ≡ length sheets
    → ArePictured sheets tables → ArePictured sheets (redrawn_in n sheets tables)
redrawn_pictured n sheets tables each h place t here =
    let before : IsRedrawn sheets tables place t = redrawn_at n sheets tables place t each here in
    subst (IsPictured (image_of (content_at sheets place))) (sym before.is)
    (picture_law.draw (image_of (content_at sheets place)) before.n before.earlier
    (h place before.earlier before.there))

drawn_pictured : (sheets : List Sheet) (tables : List Table) (drawn_place : ℕ) → ArePictured sheets tables
    → ArePictured sheets (changed (drawn (content_at sheets drawn_place)) tables drawn_place)
drawn_pictured sheets tables drawn_place h place t here =
    let draw : Table → Table = drawn (content_at sheets drawn_place) in
    ⊎_elim
    (λ same.
    let at : slice_get (changed draw tables drawn_place) drawn_place ≡ Some t =
    ap (slice_get (changed draw tables drawn_place)) same.1 ∙ here in
    let before = mapped draw (slice_get tables drawn_place) t (sym (changed_here draw tables drawn_place) ∙ at) in
    subst (λ p. IsPictured (image_of (content_at sheets p)) t) same.1
    (subst (IsPictured (image_of (content_at sheets drawn_place))) before.2
    (picture_law.draw (image_of (content_at sheets drawn_place)) (dirty_count before.0) before.0
    (h drawn_place before.0 before.1))))
    (λ other. h place t (sym (changed_elsewhere draw tables drawn_place place other.1) ∙ here))
    (eqb_tells drawn_place place)

-- a table that was there is of a layer that stays
record IsAsBefore (sheets : List Sheet) (s : Sheet) (tables : List Table) (place : ℕ) (t : Table) : Type 0 where
  there : slice_get tables place ≡ Some t
  same : content_at (sheets ++ s ∷ []) place ≡ content_at sheets place

added_at : (sheets : List Sheet) (s : Sheet) (tables : List Table) (last : Table) (place : ℕ) (t : Table)
    → length tables ≡ length sheets → slice_get (tables ++ last ∷ []) place ≡ Some t
    → IsAsBefore sheets s tables place t ⊎ (last ≡ t)
added_at [] s [] last zero t each here = let same : last ≡ t = cc in inr same
added_at [] s [] last (suc place) t each here = absurd cc
added_at [] s (u ∷ tables) last place t each here = absurd (omega (arith, each))
added_at (x ∷ sheets) s [] last place t each here = absurd (omega (arith, each))
added_at (x ∷ sheets) s (u ∷ tables) last zero t each here = inl (record { there = here; same = refl })
added_at (x ∷ sheets) s (u ∷ tables) last (suc place) t each here =
    ⊎_elim (λ before. inl (record { there = before.there; same = before.same })) (λ new. inr new)
    (added_at sheets s tables last place t (omega (arith, each)) here)

none_pictured : (sheets : List Sheet) (tables : List Table) → tables ≡ [] → ArePictured sheets tables
none_pictured sheets [] none place t here = absurd cc
none_pictured sheets (u ∷ tables) none place t here = absurd cc

added_pictured : (o : Option Window) (sheets : List Sheet) (s : Sheet) (tables : List Table)
    → AreTables o (length sheets) tables → ArePictured sheets tables
    → ArePictured (sheets ++ s ∷ []) (with_blank o tables)
added_pictured None sheets s tables all h place t here = none_pictured (sheets ++ s ∷ []) tables all place t here
added_pictured (Some w) sheets s tables all h place t here =
    ⊎_elim
    (λ before. subst (λ c. IsPictured (image_of c) t) (sym before.same) (h place t before.there))
    (λ new. subst (IsPictured (image_of (content_at (sheets ++ s ∷ []) place))) new
    (picture_law.begin (image_of (content_at (sheets ++ s ∷ []) place)) w))
    (added_at sheets s tables (blank w) place t all.0 here)

-- ---- each step

as_many : (o : Option Window) (w : Window) (count : ℕ) (tables : List Table) → o ≡ Some w → AreTables o count tables
    → length tables ≡ count
as_many None w count tables is h = absurd cc
as_many (Some v) w count tables is h = h.0

closed_by : (g : Option (List Sheet × ℕ)) (f : Option HistoryFault) → fault_by_group g f ≡ None → g ≡ None
closed_by None f may = refl
closed_by (Some g) f may = absurd cc

module _ (s : State) (h : IsShown s) where
  abbrev t : Timeline (List Sheet)
  t = s.timeline

  moved : (after : Timeline (List Sheet)) (m : Touches) (touches : List Touch) → AreWays after m
      → Way touches t.document after.document → IsShown (moved_to s after m touches)
  moved after m touches ways way =
      record {
        in_force = h.in_force;
        tables = subst (λ n. AreTables s.window n (touched_in touches s.tables)) (sym way.count)
            (touches_stay s.window (length t.document) touches s.tables h.tables);
        pictured = touched_pictured touches t.document after.document s.tables way h.pictured;
        ways = ways;
      }

  loaded : (name : List ℕ) (c : Content) → IsShown (with_sheet s name c)
  loaded name c =
      record {
        in_force = h.in_force;
        tables = subst (λ n. AreTables s.window n (with_blank s.window s.tables))
            (sym (length-append t.document (sheet name c ∷ [])))
            (blank_joins s.window (length t.document) s.tables h.in_force h.tables);
        pictured = added_pictured s.window t.document (sheet name c) s.tables h.tables h.pictured;
        ways = record { past = tt; future = tt };
      }

  framed : (w : Window) → accepts w ≡ true → IsShown (with_window s w)
  framed w accepted =
      record {
        in_force = λ w' e. let same : w ≡ w' = cc in rw (← same) accepted;
        tables = blanks_are_tables w (length t.document) accepted;
        pictured = λ place u here.
            subst (IsPictured (image_of (content_at t.document place)))
            (sym (blank_at w (length t.document) place u here))
            (picture_law.begin (image_of (content_at t.document place)) w);
        ways = h.ways;
      }

  redrawn : (w : Window) (n : ℕ) → s.window ≡ Some w → IsShown (with_tables s (redrawn_in n t.document s.tables))
  redrawn w n is =
      record {
        in_force = h.in_force;
        tables = redraw_stays s.window (length t.document) n t.document s.tables h.tables;
        pictured = redrawn_pictured n t.document s.tables
            (as_many s.window w (length t.document) s.tables is h.tables) h.pictured;
        ways = h.ways;
      }

  pub plotted : (place : ℕ) → IsShown (with_drawn s place)
  plotted place =
      record {
        in_force = h.in_force;
        tables = drawn_stays s.window (length t.document) (content_at t.document place) place s.tables h.tables;
        pictured = drawn_pictured t.document s.tables place h.pictured;
        ways = h.ways;
      }

  abbrev Shown : State × Outcome → Type 0
  Shown after = IsShown after.0

  each_shown : AfterEach s Shown
  each_shown =
      let here = λ (closed : t.group ≡ None). ways_here t s.touches t.group s.touches.group closed h.ways in
      record {
        others = record {
          looked = λ reply. h;
          refused = λ f own. h;
          unread = λ kind file f is. h;
          loaded = λ name kind file c reply is. loaded name c;
          framed = λ w is. framed w is;
          drawn = λ w n reply is. redrawn w n is;
          changed = λ edit sheets is.
              let touch : Touch = touch_of_edit edit t.document in
              let both = accepted_ways t s.touches s.depth sheets touch t.group s.touches.group
              (edits_stay_in_their_boxes edit t.document sheets is) h.ways in
              moved (accepted s.depth sheets t) (accepted_touches s.depth touch s.touches) (touch ∷ []) both.0 both.1;
          opened = λ may.
              moved (begun t) (begun_touches s.touches) []
              (begun_ways t s.touches t.group s.touches.group (closed_by t.group _ may) h.ways) (stay t.document);
          closed = λ may.
              let both = ended_ways t s.touches s.depth t.group s.touches.group refl refl h.ways in
              moved (ended s.depth t) (ended_touches s.depth s.touches) [] both.0 both.1;
          left = λ may.
              let both = aborted_ways t s.touches t.group s.touches.group refl h.ways in
              moved (aborted t) (aborted_touches s.touches) (touched_by_abort s.touches) both.0 both.1;
          taken_back = λ may.
              let before = here (closed_by t.group _ may) in
              let both = undone_ways t s.touches (closed_by t.group _ may) before.1 before.0 in
              moved (undone t) (undone_touches s.touches) (touched_by_undo s.touches) both.0 both.1;
          made_again = λ may.
              let before = here (closed_by t.group _ may) in
              let both = redone_ways t s.touches (closed_by t.group _ may) before.1 before.0 in
              moved (redone t) (redone_touches s.touches) (touched_by_redo s.touches) both.0 both.1;
        };
        plotted = λ w place reply is. plotted place;
        plot_refused = λ w place is. plotted place;
      }

fresh_shown : (depth : ℕ) → IsShown (fresh depth)
fresh_shown depth =
    record {
      in_force = λ w e. absurd cc;
      tables = refl;
      pictured = λ place t here. absurd cc;
      ways = record { past = tt; future = tt };
    }

shown_after : (s : State) (calls : List Call) → IsShown s → IsShown (states_after s calls)
shown_after s [] h = h
shown_after s (c ∷ calls) h =
    shown_after (state_after s c) calls (after_each s (Shown s h) (each_shown s h) c.0 c.1)

pub shown : (depth : ℕ) (calls : List Call) → IsShown (states_after (fresh depth) calls)
shown depth calls = shown_after (fresh depth) calls (fresh_shown depth)

-- ---- the table of a layer

pub named_within : (name : List ℕ) (sheets : List Sheet) (place : ℕ) → place_named name sheets ≡ Some place
    → place < length sheets
unfolding place_named
named_within name sheets place named =
    (position-Some (λ s. bytes_eq s.name name) sheets place (sheet [] empty_content) named).0

pub as_many_as_layers : (s : State) → IsShown s → (w : Window) → s.window ≡ Some w
    → length s.tables ≡ length s.timeline.document
as_many_as_layers s h w is = as_many s.window w (length s.timeline.document) s.tables is h.tables

-- where a window is in force each layer has a table
pub table_there : (s : State) → IsShown s → (w : Window) → s.window ≡ Some w → (place : ℕ)
    → place < length s.timeline.document → (t : Table) × (slice_get s.tables place ≡ Some t)
table_there s h w is place within =
    element_at s.tables place (omega (arith, within, as_many_as_layers s h w is))

-- the ways between the documents that are kept
pub kept_ways : KeptWays
kept_ways depth before = (shown depth before).ways
