-- What a step comes to: a refusal or a look, where the state stays, or a change; and what a refused command leaves.
use Rattle.std.proofs.Common.{◌≡◌, ℕ, Bool, true, false, List, [], length, Option, None, Some, Result, Ok, Err}
use Rattle.std.proofs.Common.{refl, sym, ap, subst, ◌∙◌, if◌then◌else◌, nat_le}
use Rattle.std.specs.Prelude.{IsErr, OnErr, is_some}
use Rattle.cam_refusals.specs.declared.refusal.Refusal.{Refusal}
use Rattle.cam_refusals.specs.Refusals.{is_same}
use Rattle.cam_tiles.specs.declared.window.Window.{Window}
use Rattle.cam_tiles.specs.Picture.{accepts}
use Rattle.cam_edits.specs.declared.edit.Change.TheVariants as changes
use Rattle.cam_edits.specs.declared.edit.Edit.{Edit}
use Rattle.cam_edits.specs.declared.fault.EditFault.{EditFault}
use Rattle.cam_edits.specs.declared.fault.EditFault.TheVariants as edits
use Rattle.cam_edits.specs.Boards.{place_named}
use Rattle.cam_edits.specs.Editing.{edited}
use Rattle.cam_edits.specs.Faults.{edit_refusal}
use Rattle.cam_edits.specs.Sheets.{Content, Sheet, item_count}
use Rattle.cam_edits.specs.Touches.{touch_of_edit}
use Rattle.cam_undo.specs.declared.fault.HistoryFault.{HistoryFault}
use Rattle.cam_undo.specs.declared.fault.HistoryFault.TheVariants as histories
use Rattle.cam_undo.specs.Faults.{history_refusal}
use Rattle.cam_undo.specs.Machine.{
  abort_fault,
  aborted,
  begin_fault,
  begun,
  end_fault,
  ended,
  redo_fault,
  redone,
  undo_fault,
  undone,
}
use Rattle.cam_script.specs.declared.command.Command.{Command}
use Rattle.cam_script.specs.declared.command.Command.TheVariants as commands
use Rattle.cam_script.specs.declared.command.FileKind.{FileKind}
use Rattle.cam_station.specs.declared.fault.Fault.{Fault}
use Rattle.cam_station.specs.declared.reply.Reply.{Reply}
use Rattle.cam_station.specs.declared.reply.Reply.TheVariants.{Done, Numbers}
use Rattle.cam_station.specs.declared.reply.Numbers.TheVariants.{One}
use Rattle.cam_station.specs.Meanings.{fault_at, meaning_of}
use Rattle.cam_refusals.specs.declared.refusal.Refusal.TheVariants.{FileFault, GroupOpen, NameTaken, NoLayer, NoMemory, NoWindow, OutOfLimits, TooManyLayers}
use Rattle.cam_station.specs.Limits.{layer_limit}
use Rattle.cam_station.specs.TileTables.{redrawn_in}
use Rattle.cam_station.specs.Machine.{
  State,
  Outcome,
  MemoryGrant,
  Granted,
  RefusedToReader,
  RefusedToStation,
  edit_of,
  edit_step,
  edit_to,
  fault,
  list_layer_at,
  load_read,
  memory_of,
  moved_to,
  plot_at,
  plot_in,
  plot_step,
  reader_answer,
  redraw_in,
  refused,
  step,
  unless,
  with_drawn,
  with_edit,
  with_room,
  with_sheet,
  with_tables,
  with_window,
  write_at,
  window_of,
}
use Rattle.cam_station.specs.Touches.{
  aborted_touches,
  begun_touches,
  ended_touches,
  redone_touches,
  touched_by_abort,
  touched_by_redo,
  touched_by_undo,
  undone_touches,
}
use Rattle.cam_station.specs.Calls.{RefusalLaw, after_refusal, drawn_named, drawn_where}

-- no refusal of the station itself is that of a file that failed
edit_own : (f : EditFault) → is_same (edit_refusal f) FileFault ≡ false
edit_own edits.NoLayer = refl
edit_own edits.WrongKind = refl
edit_own edits.AttributeRefused = refl
edit_own edits.NoAttribute = refl
edit_own edits.NoItem = refl
edit_own edits.HasNone = refl
edit_own edits.NoAperture = refl
edit_own edits.NoTool = refl
edit_own edits.WrongAperture = refl
edit_own edits.SizeRefused = refl
edit_own edits.OutOfBoard = refl
edit_own edits.TooMuch = refl
edit_own edits.Memory = refl

history_own : (f : HistoryFault) → is_same (history_refusal f) FileFault ≡ false
history_own histories.Depth = refl
history_own histories.GroupOpen = refl
history_own histories.NoGroup = refl
history_own histories.NothingToUndo = refl
history_own histories.NothingToRedo = refl
history_own histories.Memory = refl

-- P holds after a look, after each kind of refusal and after each kind of change, but that of a plot
pub record AfterOthers (s : State) (P : State × Outcome → Type 0) : Type 0 where
  pub looked : (reply : Reply) → P (s, Ok reply)
  pub refused : (f : Fault) → is_same f.code FileFault ≡ false → P (s, Err f)
  pub unread : (kind : FileKind) (file : List ℕ) (f : Fault) → meaning_of kind file ≡ Err f → P (s, Err f)
  pub loaded : (name : List ℕ) (kind : FileKind) (file : List ℕ) (c : Content) (reply : Reply)
      → meaning_of kind file ≡ Ok c → P (with_sheet s name c, Ok reply)
  pub framed : (w : Window) → accepts w ≡ true → P (with_window s w, Ok Done)
  pub drawn : (w : Window) (n : ℕ) (reply : Reply) → s.window ≡ Some w
      → P (with_tables s (redrawn_in n s.timeline.document s.tables), Ok reply)
  pub changed : (edit : Edit) (sheets : List Sheet) → edited edit s.timeline.document ≡ Ok sheets
      → P (with_edit s sheets (touch_of_edit edit s.timeline.document), Ok Done)
  pub opened : begin_fault s.timeline ≡ None
      → P (moved_to s (begun s.timeline) (begun_touches s.touches) [], Ok Done)
  pub closed : end_fault s.timeline ≡ None
      → P (moved_to s (ended s.depth s.timeline) (ended_touches s.depth s.touches) [], Ok Done)
  pub left : abort_fault s.timeline ≡ None
      → P (moved_to s (aborted s.timeline) (aborted_touches s.touches) (touched_by_abort s.touches), Ok Done)
  pub taken_back : undo_fault s.timeline ≡ None
      → P (moved_to s (undone s.timeline) (undone_touches s.touches) (touched_by_undo s.touches), Ok Done)
  pub made_again : redo_fault s.timeline ≡ None
      → P (moved_to s (redone s.timeline) (redone_touches s.touches) (touched_by_redo s.touches), Ok Done)

-- and after that of a plot, also where there is no memory for the file
pub record AfterEach (s : State) (P : State × Outcome → Type 0) : Type 0 where
  pub others : AfterOthers s P
  pub plotted : (w : Window) (place : ℕ) (reply : Reply) → s.window ≡ Some w → P (with_drawn s place, Ok reply)
  pub plot_refused : (w : Window) (place : ℕ) → s.window ≡ Some w → P (with_drawn s place, refused NoMemory)

-- the command is no plot
abbrev IsOther : Command → Type 0
IsOther (commands.Plot name) = ⊥
IsOther _ = Unit {0}

module _ (s : State) (P : State × Outcome → Type 0) (h : AfterOthers s P) where
  -- a refusal alone
  without : (refusal : Refusal) → is_same refusal FileFault ≡ false → P (s, Err (fault refusal))
  without refusal own = h.refused (fault refusal) own

  -- whichever way a test goes
  either : (b : Bool) (p q : State × Outcome) → (b ≡ true → P p) → P q → P (if b then p else q)
  either true p q hp hq = hp refl
  either false p q hp hq = hq

  -- whether memory is refused or not
  room : (m : MemoryGrant) (change : State × Outcome) → P change → P (with_room m s change)
  room Granted change holds = holds
  room RefusedToReader change holds = holds
  room RefusedToStation change holds = without NoMemory refl

  -- whether the history refuses or not
  history : (f : Option HistoryFault) (change : State × Outcome) → (f ≡ None → P change) → P (unless f s change)
  history None change holds = holds refl
  history (Some f) change holds = without (history_refusal f) (history_own f)

  read : (name : List ℕ) (kind : FileKind) (file : List ℕ) (m : MemoryGrant) (meaning : Result Content Fault)
      → meaning_of kind file ≡ meaning → P (load_read s name m meaning)
  read name kind file m (Err f) is = h.unread kind file f is
  read name kind file m (Ok c) is = room m _ (h.loaded name kind file c (Numbers (One (item_count c))) is)

  load : (name : List ℕ) (kind : FileKind) (file : List ℕ) (m : MemoryGrant)
      → P (load_read s name m (reader_answer m (meaning_of kind file)))
  load name kind file Granted = read name kind file Granted (meaning_of kind file) refl
  load name kind file RefusedToReader = h.refused (fault_at NoMemory 0) refl
  load name kind file RefusedToStation = read name kind file RefusedToStation (meaning_of kind file) refl

  redraw : (n : ℕ) (w : Option Window) → s.window ≡ w → P (redraw_in s n w)
  redraw n None is = without NoWindow refl
  redraw n (Some w) is = h.drawn w n _ is

  write_named : (m : MemoryGrant) (place : Option ℕ) → P (write_at s m place)
  write_named m None = without NoLayer refl
  write_named m (Some place) = room m _ (h.looked _)

  change : (edit : Edit) (m : MemoryGrant) (made : Result (List Sheet) EditFault)
      → edited edit s.timeline.document ≡ made → P (edit_to s m (touch_of_edit edit s.timeline.document) made)
  change edit m (Err f) is = without (edit_refusal f) (edit_own f)
  change edit m (Ok sheets) is = room m _ (h.changed edit sheets is)

  asked : (edit : Edit) (m : MemoryGrant) → P (edit_step s edit m)
  asked edit m = change edit m (edited edit s.timeline.document) refl

  list_named : (place : Option ℕ) → P (list_layer_at s place)
  list_named None = without NoLayer refl
  list_named (Some place) = h.looked _

  after_others : (c : Command) (m : MemoryGrant) → IsOther c → P (step s c m)
  after_others (commands.Load name kind file) m other =
      either (is_some s.timeline.group) _ _ (λ _. without GroupOpen refl)
      (either (is_some (place_named name s.timeline.document)) _ _ (λ _. without NameTaken refl)
      (either (nat_le layer_limit (length s.timeline.document)) _ _ (λ _. without TooManyLayers refl)
      (load name kind file m)))
  after_others (commands.SetWindow x y pitch width height) m other =
      let w : Window = window_of x y pitch width height in
      either (accepts w) _ _ (λ fits. room m _ (h.framed w fits)) (without OutOfLimits refl)
  after_others (commands.Redraw n) m other = redraw n s.window refl
  after_others (commands.Plot name) m other = absurd other
  after_others (commands.Write name) m other = write_named m (place_named name s.timeline.document)
  after_others (commands.Insert name k item) m other = asked (edit_of name (changes.Insert k item)) m
  after_others (commands.Delete name k) m other = asked (edit_of name (changes.Delete k)) m
  after_others (commands.Move name k dx dy) m other = asked (edit_of name (changes.Move k dx dy)) m
  after_others (commands.Reorder name k to) m other = asked (edit_of name (changes.Reorder k to)) m
  after_others (commands.Aperture name k n) m other = asked (edit_of name (changes.Aperture k n)) m
  after_others (commands.Polarity name k dark) m other = asked (edit_of name (changes.Polarity k dark)) m
  after_others (commands.Tool name k t) m other = asked (edit_of name (changes.Tool k t)) m
  after_others (commands.Diameter name t d) m other = asked (edit_of name (changes.Diameter t d)) m
  after_others (commands.SetAttribute name key fields) m other = asked (edit_of name (changes.SetAttribute key fields)) m
  after_others (commands.DropAttribute name key) m other = asked (edit_of name (changes.DropAttribute key)) m
  after_others commands.Begin m other = history (begin_fault s.timeline) _ h.opened
  after_others commands.End m other = history (end_fault s.timeline) _ h.closed
  after_others commands.Abort m other = history (abort_fault s.timeline) _ (λ may. room m _ (h.left may))
  after_others commands.Undo m other = history (undo_fault s.timeline) _ (λ may. room m _ (h.taken_back may))
  after_others commands.Redo m other = history (redo_fault s.timeline) _ (λ may. room m _ (h.made_again may))
  after_others commands.ListAll m other = h.looked _
  after_others (commands.ListLayer name) m other = list_named (place_named name s.timeline.document)

module _ (s : State) (P : State × Outcome → Type 0) (h : AfterEach s P) where
  plot : (m : MemoryGrant) (place : ℕ) (w : Option Window) → s.window ≡ w → P (plot_in s m place w)
  plot m place None is = without s P h.others NoWindow refl
  plot Granted place (Some w) is = h.plotted w place _ is
  plot RefusedToReader place (Some w) is = h.plotted w place _ is
  plot RefusedToStation place (Some w) is = h.plot_refused w place is

  plot_named : (m : MemoryGrant) (place : Option ℕ) → P (plot_at s m place)
  plot_named m None = without s P h.others NoLayer refl
  plot_named m (Some place) = plot m place s.window refl

  pub after_each : (c : Command) (m : MemoryGrant) → P (step s c m)
  after_each (commands.Plot name) m = plot_named m (place_named name s.timeline.document)
  after_each c m = after_others s P h.others c m tt

-- ---- refusals

draws_in : (s : State) (m : MemoryGrant) (place : ℕ) (w : Option Window)
    → (plot_in s m place w).0 ≡ drawn_where s w (Some place)
draws_in s m place None = refl
draws_in s Granted place (Some w) = refl
draws_in s RefusedToReader place (Some w) = refl
draws_in s RefusedToStation place (Some w) = refl

draws_none : (s : State) (w : Option Window) → s ≡ drawn_where s w None
draws_none s None = refl
draws_none s (Some w) = refl

draws_at : (s : State) (m : MemoryGrant) (place : Option ℕ) → (plot_at s m place).0 ≡ drawn_where s s.window place
draws_at s m None = draws_none s s.window
draws_at s m (Some place) = draws_in s m place s.window

-- a plot draws its layer, whether it is refused or not
pub plot_draws : (s : State) (name : List ℕ) (m : MemoryGrant) → (plot_step s name m).0 ≡ drawn_named name s
plot_draws s name m = draws_at s m (place_named name s.timeline.document)

abbrev Stays : State → State × Outcome → Type 0
Stays s p = IsErr p.1 → p.0 ≡ s

stays_each : (s : State) → AfterOthers s (Stays s)
stays_each s =
    record {
      looked = λ reply e. refl;
      refused = λ f own e. refl;
      unread = λ kind file f is e. refl;
      loaded = λ name kind file c reply is e. cc;
      framed = λ w is e. cc;
      drawn = λ w n reply is e. cc;
      changed = λ edit sheets is e. cc;
      opened = λ may e. cc;
      closed = λ may e. cc;
      left = λ may e. cc;
      taken_back = λ may e. cc;
      made_again = λ may e. cc;
    }

stays : (s : State) (c : Command) (m : MemoryGrant) → IsErr (step s c m).1 → (step s c m).0 ≡ after_refusal s c
stays s (commands.Plot name) m e = plot_draws s name m
stays s c m e = after_others s (Stays s) (stays_each s) c m tt e

-- and so for what answers a command
pub refused_leaves : (s : State) (c : Command) (after : State) (answer : Outcome)
    → step s c (memory_of answer) ≡ (after, answer) → OnErr answer (after ≡ after_refusal s c)
refused_leaves s c after (Ok reply) e = tt
refused_leaves s c after (Err f) e =
    sym (ap (λ (p : State × Outcome). p.0) e)
    ∙ stays s c (memory_of {T = Reply} (Err f)) (subst (λ (p : State × Outcome). IsErr p.1) (sym e) refl)

pub refusal_stays : RefusalLaw
refusal_stays s c refused = stays s c.0 c.1 refused
