-- Exact undo: an accepted edit, or a group of them, that is taken back and made again.
use Rattle.std.specs.Prelude.{◌≡◌, ℕ, ◌≤◌, List, [], ◌∷◌, ◌++◌, None, ◌⊎◌, IsOk, IsErr, Ok}
use Rattle.cam_edits.specs.declared.edit.Edit.{Edit}
use Rattle.cam_edits.specs.Sheets.{Sheet}
use Rattle.cam_script.specs.declared.command.Command.{Command}
use Rattle.cam_script.specs.declared.command.Command.TheVariants as commands
use Rattle.cam_script.specs.Commands.{edit_command}
use Rattle.cam_station.specs.declared.reply.Reply.TheVariants.{Done}
use Rattle.cam_station.specs.Calls.{Call, answer_to, state_after, states_after}
use Rattle.cam_station.specs.Documents.{SamePictures, SamePixels, SameTexts}
use Rattle.cam_station.specs.Machine.{State, Granted, fresh}
use Rattle.cam_undo.specs.Machine.{greatest_depth}

-- the command changes a layer
abbrev pub IsEdit : Command → Type 0
IsEdit command = (edit : Edit) × (command ≡ edit_command edit)

-- the command only looks: it draws tiles, sets the window that they are seen in, writes or counts
abbrev pub IsLook : Command → Type 0
IsLook (commands.SetWindow x y pitch width height) = Unit {0}
IsLook (commands.Redraw n) = Unit {0}
IsLook (commands.Plot name) = Unit {0}
IsLook (commands.Write name) = Unit {0}
IsLook commands.ListAll = Unit {0}
IsLook (commands.ListLayer name) = Unit {0}
IsLook _ = ⊥

-- it only looks, or is refused
abbrev pub IsQuiet : State → Call → Type 0
IsQuiet s c = IsLook c.0 ⊎ IsErr (answer_to s c)

-- each of the calls is quiet, one after another
abbrev pub AreQuiet : State → List Call → Type 0
AreQuiet s [] = Unit {0}
AreQuiet s (c ∷ calls) = IsQuiet s c × AreQuiet (state_after s c) calls

-- an accepted edit
pub record IsAccepted (s : State) (c : Call) : Type 0 where
  pub edit : IsEdit c.0
  pub accepted : IsOk (answer_to s c)

-- each of the calls is an accepted edit or is quiet, one after another
abbrev pub AreEdits : State → List Call → Type 0
AreEdits s [] = Unit {0}
AreEdits s (c ∷ calls) = (IsAccepted s c ⊎ IsQuiet s c) × AreEdits (state_after s c) calls

-- an undo and a redo that are not refused memory; the beginning and the end of a group, which take none
abbrev pub undo : Call
undo = (commands.Undo, Granted)

abbrev pub redo : Call
redo = (commands.Redo, Granted)

abbrev pub begin : Call
begin = (commands.Begin, Granted)

abbrev pub end : Call
end = (commands.End, Granted)

-- A group: its beginning, quiet calls, an accepted edit, edits and quiet calls, and its end.
pub record IsGroup (s : State) (quiet : List Call) (edit : Call) (more : List Call) : Type 0 where
  pub quiet_first : AreQuiet (state_after s begin) quiet
  pub accepted : IsAccepted (states_after (state_after s begin) quiet) edit
  pub edits : AreEdits (state_after (states_after (state_after s begin) quiet) edit) more

-- the calls of the group
abbrev pub group_calls : List Call → Call → List Call → List Call
group_calls quiet edit more = begin ∷ (quiet ++ edit ∷ (more ++ end ∷ []))

-- the state after quiet calls and an undo
abbrev pub undone_after : State → List Call → State
undone_after s quiet = state_after (states_after s quiet) undo

-- the call is accepted, and gives back this document: the same layers and drill tools, the same texts, every pixel and,
-- in every window, the same pictures
pub record GivesBack (s : State) (c : Call) (document : List Sheet) : Type 0 where
  pub accepted : answer_to s c ≡ Ok Done
  pub layers : (state_after s c).timeline.document ≡ document
  pub texts : SameTexts (state_after s c).timeline.document document
  pub pixels : SamePixels (state_after s c).timeline.document document
  pub pictures : SamePictures (state_after s c).timeline.document document

-- After quiet commands an undo gives back the document `before`, and after quiet commands again a redo gives back the
-- edited one.
pub record IsTakenBack (edited : State) (before : List Sheet) : Type 0 where
  pub undone : (quiet : List Call) → AreQuiet edited quiet → GivesBack (states_after edited quiet) undo before
  pub redone : (quiet more : List Call) → AreQuiet edited quiet → AreQuiet (undone_after edited quiet) more
      → GivesBack (states_after (undone_after edited quiet) more) redo edited.timeline.document

-- An accepted edit outside a group can be taken back so, and so can a group with an accepted edit.
pub record IsUndoExact (s : State) : Type 0 where
  pub edits : (edit : Call) → s.timeline.group ≡ None → IsAccepted s edit
      → IsTakenBack (state_after s edit) s.timeline.document
  pub groups : (quiet : List Call) (edit : Call) (more : List Call) → s.timeline.group ≡ None
      → IsGroup s quiet edit more → IsTakenBack (states_after s (group_calls quiet edit more)) s.timeline.document

-- exact undo, in each state that a station can come to
abbrev pub ExactUndo : Type 0
ExactUndo = (depth : ℕ) → 1 ≤ depth → depth ≤ greatest_depth → (before : List Call)
    → IsUndoExact (states_after (fresh depth) before)

-- and in every other state that may keep a document
abbrev pub ExactUndoEverywhere : Type 0
ExactUndoEverywhere = (s : State) → 1 ≤ s.depth → IsUndoExact s
