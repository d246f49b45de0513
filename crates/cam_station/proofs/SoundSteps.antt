-- Each step keeps every layer sound.
use Rattle.std.proofs.Common.{◌≡◌, ℕ, ◌-◌, true, List, [], ◌∷◌, ◌++◌, length, drop, Option, None, Some, refl, zero, suc}
use Rattle.std.specs.Prelude.{All, slice_get}
use Rattle.std.proofs.lemmas.List.Elements.{All-drop, All-nil, All-push, All-take}
use Rattle.cam_tiles.specs.declared.window.Window.{Window}
use Rattle.cam_tiles.specs.Picture.{accepts}
use Rattle.cam_tiles.specs.Tables.{Table}
use Rattle.cam_edits.specs.Sheets.{AreSound, IsSound, Sheet, sheet}
use Rattle.cam_undo.specs.Machine.{Timeline, aborted, aborted_in, accepted, accepted_in, begun, ended}
use Rattle.cam_undo.specs.Machine.{ended_after, ended_in, redone, redone_to, undone, undone_to}
use Rattle.cam_script.specs.declared.command.Command.{Command}
use Rattle.cam_station.specs.Machine.{State, MemoryGrant, unedited, fresh, step, with_tables, with_window}
use Rattle.cam_station.specs.Sound.{IsSoundGroup, IsSoundTimeline}
use Rattle.cam_station.specs.Touches.{Touches}
use Rattle.cam_station.specs.Calls.{Call, state_after}
use Rattle.cam_edits.proofs.EditedLists.{all_here}
use Rattle.cam_edits.proofs.SoundEdits.{edits_stay_sound}
use Rattle.cam_station.proofs.Refusing.{AfterEach as EachWay, AfterOthers, after_each as each_command}
use Rattle.cam_station.proofs.SoundContents.{content_read}

-- ---- documents moved about

-- a document behind the others, of which the last so many stay
kept_sound : (depth : ℕ) (past : List (List Sheet)) (document : List Sheet) → All AreSound past → AreSound document
    → All AreSound (drop (length (past ++ document ∷ []) - depth) (past ++ document ∷ []))
kept_sound depth past document h sound =
    All-drop AreSound (length (past ++ document ∷ []) - depth) (past ++ document ∷ [])
    (All-push AreSound past document h sound)

abbrev last_of : List (List Sheet) → Option (List Sheet)
last_of documents = slice_get documents (length documents - 1)

alone_sound : (document : List Sheet) → AreSound document → IsSoundTimeline (unedited document)
alone_sound document sound =
    record { document = sound; past = All-nil AreSound; future = All-nil AreSound; group = tt }

module _ (t : Timeline (List Sheet)) (h : IsSoundTimeline t) where
  accepted_sound : (depth : ℕ) (after : List Sheet) (group : Option (List Sheet × ℕ)) → IsSoundGroup group
      → AreSound after → IsSoundTimeline (accepted_in depth after t group)
  accepted_sound depth after None start sound =
      record {
        document = sound;
        past = kept_sound depth t.past t.document h.past h.document;
        future = All-nil AreSound;
        group = tt;
      }
  accepted_sound depth after (Some g) start sound =
      record { document = sound; past = h.past; future = All-nil AreSound; group = start }

  begun_sound : IsSoundTimeline (begun t)
  begun_sound = record { document = h.document; past = h.past; future = h.future; group = h.document }

  closed_sound : (depth : ℕ) (start : List Sheet) (count : ℕ) → AreSound start
      → IsSoundTimeline (ended_after depth t start count)
  closed_sound depth start zero sound =
      record { document = h.document; past = h.past; future = h.future; group = tt }
  closed_sound depth start (suc count) sound =
      record {
        document = h.document;
        past = kept_sound depth t.past start h.past sound;
        future = h.future;
        group = tt;
      }

  ended_sound : (depth : ℕ) (group : Option (List Sheet × ℕ)) → IsSoundGroup group
      → IsSoundTimeline (ended_in depth t group)
  ended_sound depth None start = h
  ended_sound depth (Some g) start = closed_sound depth g.0 g.1 start

  aborted_sound : (group : Option (List Sheet × ℕ)) → IsSoundGroup group → IsSoundTimeline (aborted_in t group)
  aborted_sound None start = h
  aborted_sound (Some g) start = record { document = start; past = h.past; future = h.future; group = tt }

  undone_sound : (earlier : Option (List Sheet)) → last_of t.past ≡ earlier → IsSoundTimeline (undone_to t earlier)
  undone_sound None e = h
  undone_sound (Some document) e =
      record {
        document = all_here AreSound t.past (length t.past - 1) document h.past e;
        past = All-take AreSound (length t.past - 1) t.past h.past;
        future = All-push AreSound t.future t.document h.future h.document;
        group = h.group;
      }

  redone_sound : (later : Option (List Sheet)) → last_of t.future ≡ later → IsSoundTimeline (redone_to t later)
  redone_sound None e = h
  redone_sound (Some document) e =
      record {
        document = all_here AreSound t.future (length t.future - 1) document h.future e;
        past = All-push AreSound t.past t.document h.past h.document;
        future = All-take AreSound (length t.future - 1) t.future h.future;
        group = h.group;
      }

-- ---- steps

-- the documents move on, with the tiles that show them
abbrev pub at_documents : State → Timeline (List Sheet) → Touches → List Table → State
at_documents s timeline touches tables = record {
  depth = s.depth;
  window = s.window;
  timeline = timeline;
  touches = touches;
  tables = tables;
}

-- P holds where the state stays, with other tiles, where its documents move on to sound ones, and in another window
pub record AfterEach (s : State) (P : State → Type 0) : Type 0 where
  pub stays : P s
  pub drawn : (tables : List Table) → P (with_tables s tables)
  pub moved : (t : Timeline (List Sheet)) (touches : Touches) (tables : List Table)
      → (IsSoundTimeline s.timeline → IsSoundTimeline t) → P (at_documents s t touches tables)
  pub framed : (w : Window) → accepts w ≡ true → P (with_window s w)

module _ (s : State) (P : State → Type 0) (h : AfterEach s P) where
  -- each kind of change leads on to sound documents, and what is no change stays
  others : AfterOthers s (λ after. P after.0)
  others =
      record {
        looked = λ reply. h.stays;
        refused = λ f own. h.stays;
        unread = λ kind file f e. h.stays;
        loaded = λ name kind file c reply e.
            let all : List Sheet = s.timeline.document ++ sheet name c ∷ [] in
            h.moved (unedited all) _ _ (λ before.
            alone_sound all
            (All-push (λ x. IsSound x.content) s.timeline.document (sheet name c) before.document
            (content_read kind file c e)));
        framed = h.framed;
        drawn = λ w n reply e. h.drawn _;
        changed = λ edit sheets e.
            h.moved (accepted s.depth sheets s.timeline) _ _ (λ before.
            accepted_sound s.timeline before s.depth sheets s.timeline.group before.group
            (edits_stay_sound edit s.timeline.document sheets before.document e));
        opened = λ e. h.moved (begun s.timeline) _ _ (begun_sound s.timeline);
        closed = λ e.
            h.moved (ended s.depth s.timeline) _ _ (λ before.
            ended_sound s.timeline before s.depth s.timeline.group before.group);
        left = λ e.
            h.moved (aborted s.timeline) _ _ (λ before.
            aborted_sound s.timeline before s.timeline.group before.group);
        taken_back = λ e.
            h.moved (undone s.timeline) _ _ (λ before. undone_sound s.timeline before (last_of s.timeline.past) refl);
        made_again = λ e.
            h.moved (redone s.timeline) _ _ (λ before. redone_sound s.timeline before (last_of s.timeline.future) refl);
      }

  each_way : EachWay s (λ after. P after.0)
  each_way =
      record {
        others = others;
        plotted = λ w place reply e. h.drawn _;
        plot_refused = λ w place e. h.drawn _;
      }

  pub after_each : (c : Command) (m : MemoryGrant) → P (step s c m).0
  after_each c m = each_command s (λ after. P after.0) each_way c m

-- ---- the timeline stays sound

pub sound_step : (s : State) (c : Call) → IsSoundTimeline s.timeline → IsSoundTimeline (state_after s c).timeline
sound_step s c h =
    after_each s (λ after. IsSoundTimeline after.timeline)
    (record {
      stays = h;
      drawn = λ tables. h;
      moved = λ t touches tables sound. sound h;
      framed = λ w accepted. h;
    }) c.0 c.1

pub sound_start : (depth : ℕ) → IsSoundTimeline (fresh depth).timeline
sound_start depth = alone_sound [] (All-nil (λ s. IsSound s.content))
