-- The machine that a station is: a document with its earlier and later documents, a window, and the tiles of each layer
-- in it; one command is one step.
use Rattle.std.specs.Prelude.{ℕ, ℤ, min, nat_le, Bool, ◌&&◌, if◌then◌else◌, List}
use Rattle.std.specs.Prelude.{[], ◌∷◌, ◌++◌, length, Option, None, Some, Result, Ok, Err, is_some}
use Rattle.cam_refusals.specs.declared.refusal.Refusal.{Refusal}
use Rattle.cam_refusals.specs.Refusals.{is_same}
use Rattle.cam_tiles.specs.declared.window.Window.{Window}
use Rattle.cam_tiles.specs.Picture.{accepts}
use Rattle.cam_tiles.specs.Tables.{Table, dirty_count, pbm_of}
use Rattle.cam_edits.specs.declared.edit.Change.{Change}
use Rattle.cam_edits.specs.declared.edit.Change.TheVariants as changes
use Rattle.cam_edits.specs.declared.edit.Edit.{Edit}
use Rattle.cam_edits.specs.declared.fault.EditFault.{EditFault}
use Rattle.cam_edits.specs.Boards.{content_at, place_named}
use Rattle.cam_edits.specs.Editing.{edited}
use Rattle.cam_edits.specs.Faults.{edit_refusal}
use Rattle.cam_edits.specs.Places.{changed}
use Rattle.cam_edits.specs.Sheets.{Content, Sheet, entry_count, item_count, sheet}
use Rattle.cam_edits.specs.Touches.{Touch, touch_of_edit}
use Rattle.cam_undo.specs.declared.fault.HistoryFault.{HistoryFault}
use Rattle.cam_undo.specs.Faults.{history_refusal}
use Rattle.cam_undo.specs.Machine.{Timeline, abort_fault, aborted, accepted, begin_fault, begun}
use Rattle.cam_undo.specs.Machine.{end_fault, ended, greatest_depth, redo_fault, redone, undo_fault, undone}
use Rattle.cam_script.specs.declared.command.Command.{Command}
use Rattle.cam_script.specs.declared.command.Command.TheVariants as commands
use Rattle.cam_script.specs.declared.command.FileKind.{FileKind}
use Rattle.cam_station.specs.declared.fault.Fault.{Fault}
use Rattle.cam_station.specs.declared.reply.Reply.{Reply}
use Rattle.cam_station.specs.declared.reply.Reply.TheVariants.{Done, Numbers, Bytes}
use Rattle.cam_station.specs.declared.reply.Numbers.TheVariants.{One, Two, Three}
use Rattle.cam_station.specs.TileTables.{blanks, dirty_in, drawn, redrawn_in, table_at, touched_in, with_blank}
use Rattle.cam_station.specs.Meanings.{fault_at, meaning_of}
use Rattle.cam_refusals.specs.declared.refusal.Refusal.TheVariants.{GroupOpen, NameTaken, NoLayer, NoMemory, NoWindow, OutOfLimits, TooManyLayers}
use Rattle.cam_station.specs.Limits.{layer_limit}
use Rattle.cam_station.specs.Touches.{
  Touches,
  aborted_touches,
  accepted_touches,
  begun_touches,
  ended_touches,
  no_touches,
  redone_touches,
  touched_by_abort,
  touched_by_redo,
  touched_by_undo,
  undone_touches,
}
use Rattle.cam_station.specs.Writing.{text_of}

-- the sheets as they are, with the earlier ones and those that were taken back; what the ways there touch; the window
-- in force, and in it the tiles of each sheet
pub record State : Type 0 where
  pub depth : ℕ
  pub window : Option Window
  pub timeline : Timeline (List Sheet)
  pub touches : Touches
  pub tables : List Table

-- the sheets with no edit of them that could be taken back or made again
abbrev pub unedited : List Sheet → Timeline (List Sheet)
unedited sheets = record { document = sheets; past = []; future = []; group = None }

-- a station as it is made
abbrev pub fresh : ℕ → State
fresh depth = record { depth = depth; window = None; timeline = unedited []; touches = no_touches; tables = [] }

-- other tiles are clean
abbrev pub with_tables : State → List Table → State
with_tables s tables = record {
  depth = s.depth;
  window = s.window;
  timeline = s.timeline;
  touches = s.touches;
  tables = tables;
}

-- other documents, the ways between them, and the tiles that the way to this one touches
abbrev pub moved_to : State → Timeline (List Sheet) → Touches → List Touch → State
moved_to s timeline touches way = record {
  depth = s.depth;
  window = s.window;
  timeline = timeline;
  touches = touches;
  tables = touched_in way s.tables;
}

abbrev pub Outcome : Type 0
Outcome = Result Reply Fault

abbrev pub fault : Refusal → Fault
fault code = record { code = code; at = None }

abbrev pub refused : Refusal → Outcome
refused code = Err (fault code)

-- whether a growth was refused, and to whom
pub data MemoryGrant : Type 0 where
  Granted : MemoryGrant
  RefusedToReader : MemoryGrant
  RefusedToStation : MemoryGrant

-- what the answer tells of it
abbrev pub memory_of : {T : Type 0} → Result T Fault → MemoryGrant
memory_of (Ok given) = Granted
memory_of (Err f) =
    if is_same f.code NoMemory then (if is_some f.at then RefusedToReader else RefusedToStation) else Granted

-- a change that needs room in the station: without it the command is refused, and nothing changes
abbrev pub with_room : MemoryGrant → State → State × Outcome → State × Outcome
with_room Granted s change = change
with_room RefusedToReader s change = change
with_room RefusedToStation s change = (s, refused NoMemory)

-- a depth that a station may have
abbrev pub is_depth : ℕ → Bool
is_depth depth = nat_le 1 depth && nat_le depth greatest_depth

abbrev pub station_made : ℕ → MemoryGrant → Result State Fault
station_made depth Granted = Ok (fresh depth)
station_made depth RefusedToReader = Ok (fresh depth)
station_made depth RefusedToStation = Err (fault NoMemory)

-- a station of this depth, or the refusal of another depth
abbrev pub station_of : ℕ → MemoryGrant → Result State Fault
station_of depth memory = if is_depth depth then station_made depth memory else Err (fault OutOfLimits)

-- load ----------------------------------------------------------------------------------------

-- what the reader answers to a file of this meaning
abbrev pub reader_answer : MemoryGrant → Result Content Fault → Result Content Fault
reader_answer Granted meaning = meaning
reader_answer RefusedToReader meaning = Err (fault_at NoMemory 0)
reader_answer RefusedToStation meaning = meaning

-- the sheet comes last with its tiles dirty, and no edit before it can be taken back
abbrev pub with_sheet : State → List ℕ → Content → State
with_sheet s name content = record {
  depth = s.depth;
  window = s.window;
  timeline = unedited (s.timeline.document ++ sheet name content ∷ []);
  touches = no_touches;
  tables = with_blank s.window s.tables;
}

abbrev pub load_read : State → List ℕ → MemoryGrant → Result Content Fault → State × Outcome
load_read s name memory (Err fault) = (s, Err fault)
load_read s name memory (Ok content) =
    with_room memory s (with_sheet s name content, Ok (Numbers (One (item_count content))))

abbrev pub load_step : State → List ℕ → FileKind → List ℕ → MemoryGrant → State × Outcome
load_step s name kind file memory =
    if is_some s.timeline.group then (s, refused GroupOpen)
    else (if is_some (place_named name s.timeline.document) then (s, refused NameTaken)
    else (if nat_le layer_limit (length s.timeline.document) then (s, refused TooManyLayers)
    else load_read s name memory (reader_answer memory (meaning_of kind file))))

-- window, redraw and plot ---------------------------------------------------------------------

-- all tiles are dirty
abbrev pub with_window : State → Window → State
with_window s w = record {
  depth = s.depth;
  window = Some w;
  timeline = s.timeline;
  touches = s.touches;
  tables = blanks w s.timeline.document;
}

abbrev pub window_step : State → Window → MemoryGrant → State × Outcome
window_step s w memory =
    if accepts w then with_room memory s (with_window s w, Ok Done) else (s, refused OutOfLimits)

-- the first n dirty tiles are drawn, by layer and then by number
abbrev pub redraw_in : State → ℕ → Option Window → State × Outcome
redraw_in s n None = (s, refused NoWindow)
redraw_in s n (Some w) =
    (with_tables s (redrawn_in n s.timeline.document s.tables), Ok (Numbers (One (min n (dirty_in s.tables)))))

abbrev pub redraw_step : State → ℕ → State × Outcome
redraw_step s n = redraw_in s n s.window

-- the dirty tiles of the layer at a place are drawn
abbrev pub with_drawn : State → ℕ → State
with_drawn s place = with_tables s (changed (drawn (content_at s.timeline.document place)) s.tables place)

-- the dirty tiles of the layer are drawn, also where there is no memory for the file
abbrev pub plot_in : State → MemoryGrant → ℕ → Option Window → State × Outcome
plot_in s memory place None = (s, refused NoWindow)
plot_in s memory place (Some w) =
    with_room memory (with_drawn s place) (
      with_drawn s place,
      Ok (Bytes (pbm_of (table_at w (with_drawn s place).tables place)) (dirty_count (table_at w s.tables place))),
    )

abbrev pub plot_at : State → MemoryGrant → Option ℕ → State × Outcome
plot_at s memory None = (s, refused NoLayer)
plot_at s memory (Some place) = plot_in s memory place s.window

abbrev pub plot_step : State → List ℕ → MemoryGrant → State × Outcome
plot_step s name memory = plot_at s memory (place_named name s.timeline.document)

-- write ---------------------------------------------------------------------------------------

abbrev pub write_at : State → MemoryGrant → Option ℕ → State × Outcome
write_at s memory None = (s, refused NoLayer)
write_at s memory (Some place) =
    with_room memory s (s, Ok (Bytes (text_of (content_at s.timeline.document place)) 0))

-- the canonical text of the layer of this name
abbrev pub write_step : State → List ℕ → MemoryGrant → State × Outcome
write_step s name memory = write_at s memory (place_named name s.timeline.document)

-- edits ---------------------------------------------------------------------------------------

-- the edited sheets, with what the edit touches
abbrev pub with_edit : State → List Sheet → Touch → State
with_edit s sheets touch =
    moved_to s (accepted s.depth sheets s.timeline) (accepted_touches s.depth touch s.touches) (touch ∷ [])

abbrev pub edit_to : State → MemoryGrant → Touch → Result (List Sheet) EditFault → State × Outcome
edit_to s memory touch (Err fault) = (s, refused (edit_refusal fault))
edit_to s memory touch (Ok sheets) = with_room memory s (with_edit s sheets touch, Ok Done)

abbrev pub edit_step : State → Edit → MemoryGrant → State × Outcome
edit_step s edit memory =
    edit_to s memory (touch_of_edit edit s.timeline.document) (edited edit s.timeline.document)

-- groups, undo and redo -----------------------------------------------------------------------

-- the change of a command of the history, unless there is a fault
abbrev pub unless : Option HistoryFault → State → State × Outcome → State × Outcome
unless None s change = change
unless (Some fault) s change = (s, refused (history_refusal fault))

abbrev pub begin_step : State → State × Outcome
begin_step s =
    unless (begin_fault s.timeline) s (moved_to s (begun s.timeline) (begun_touches s.touches) [], Ok Done)

abbrev pub end_step : State → State × Outcome
end_step s =
    unless (end_fault s.timeline) s
    (moved_to s (ended s.depth s.timeline) (ended_touches s.depth s.touches) [], Ok Done)

abbrev pub abort_step : State → MemoryGrant → State × Outcome
abort_step s memory =
    unless (abort_fault s.timeline) s (with_room memory s
    (moved_to s (aborted s.timeline) (aborted_touches s.touches) (touched_by_abort s.touches), Ok Done))

abbrev pub undo_step : State → MemoryGrant → State × Outcome
undo_step s memory =
    unless (undo_fault s.timeline) s (with_room memory s
    (moved_to s (undone s.timeline) (undone_touches s.touches) (touched_by_undo s.touches), Ok Done))

abbrev pub redo_step : State → MemoryGrant → State × Outcome
redo_step s memory =
    unless (redo_fault s.timeline) s (with_room memory s
    (moved_to s (redone s.timeline) (redone_touches s.touches) (touched_by_redo s.touches), Ok Done))

-- lists ---------------------------------------------------------------------------------------

abbrev pub list_step : State → State × Outcome
list_step s =
    (s, Ok (Numbers (Three (length s.timeline.document) (length s.timeline.past) (length s.timeline.future))))

abbrev pub list_content : Content → Outcome
list_content c = Ok (Numbers (Two (item_count c) (entry_count c)))

abbrev pub list_layer_at : State → Option ℕ → State × Outcome
list_layer_at s None = (s, refused NoLayer)
list_layer_at s (Some place) = (s, list_content (content_at s.timeline.document place))

abbrev pub list_layer_step : State → List ℕ → State × Outcome
list_layer_step s name = list_layer_at s (place_named name s.timeline.document)

-- the edit that a command asks for: what it says besides the layer's name is the change
abbrev pub edit_of : List ℕ → Change → Edit
edit_of name change = record { name = name; change = change }

-- the window that a command asks for: the lower left corner and the pitch in nm, the sides in pixels
abbrev pub window_of : ℤ → ℤ → ℤ → ℕ → ℕ → Window
window_of x y pitch width height = record { x = x; y = y; pitch = pitch; width = width; height = height }

-- one command: the state after it, and its answer
abbrev pub step : State → Command → MemoryGrant → State × Outcome
step s (commands.Load name kind file) memory = load_step s name kind file memory
step s (commands.SetWindow x y pitch width height) memory =
    window_step s (window_of x y pitch width height) memory
step s (commands.Redraw n) memory = redraw_step s n
step s (commands.Plot name) memory = plot_step s name memory
step s (commands.Write name) memory = write_step s name memory
step s (commands.Insert name k item) memory = edit_step s (edit_of name (changes.Insert k item)) memory
step s (commands.Delete name k) memory = edit_step s (edit_of name (changes.Delete k)) memory
step s (commands.Move name k dx dy) memory = edit_step s (edit_of name (changes.Move k dx dy)) memory
step s (commands.Reorder name k m) memory = edit_step s (edit_of name (changes.Reorder k m)) memory
step s (commands.Aperture name k n) memory = edit_step s (edit_of name (changes.Aperture k n)) memory
step s (commands.Polarity name k dark) memory = edit_step s (edit_of name (changes.Polarity k dark)) memory
step s (commands.Tool name k t) memory = edit_step s (edit_of name (changes.Tool k t)) memory
step s (commands.Diameter name t d) memory = edit_step s (edit_of name (changes.Diameter t d)) memory
step s (commands.SetAttribute name key fields) memory = edit_step s (edit_of name (changes.SetAttribute key fields)) memory
step s (commands.DropAttribute name key) memory = edit_step s (edit_of name (changes.DropAttribute key)) memory
step s commands.Begin memory = begin_step s
step s commands.End memory = end_step s
step s commands.Abort memory = abort_step s memory
step s commands.Undo memory = undo_step s memory
step s commands.Redo memory = redo_step s memory
step s commands.ListAll memory = list_step s
step s (commands.ListLayer name) memory = list_layer_step s name
