-- What an abort, an undo and a redo leave is sound.
use Rattle.std.proofs.Common.{◌≡◌, List, [], Option, None, subst}
use Rattle.cam_edits.specs.Sheets.{Sheet}
use Rattle.cam_script.specs.declared.command.Command.TheVariants as commands
use Rattle.cam_undo.specs.declared.fault.HistoryFault.{HistoryFault}
use Rattle.cam_undo.specs.Machine.{Timeline, abort_fault, aborted, redo_fault, redone, undo_fault, undone}
use Rattle.cam_station.specs.declared.reply.Reply.TheVariants.{Done}
use Rattle.cam_station.specs.Machine.{Granted, State, unless}
use Rattle.std.specs.Prelude.{Ok}
use Rattle.cam_station.specs.Sound.{IsSoundTimeline}
use Rattle.cam_station.specs.Touches.{no_touches}
use Rattle.cam_station.proofs.SoundSteps.{sound_step}

-- a state of these documents, and another one
abbrev at : Timeline (List Sheet) → State
at t = record { depth = 0; window = None; timeline = t; touches = no_touches; tables = [] }

-- the documents that a command of the history leads to are sound
abbrev Leads : Timeline (List Sheet) → Timeline (List Sheet) → Option HistoryFault → Type 0
Leads t next told = IsSoundTimeline (unless told (at t) (at next, Ok Done)).0.timeline

pub sound_abort : (t : Timeline (List Sheet)) → abort_fault t ≡ None → IsSoundTimeline t → IsSoundTimeline (aborted t)
sound_abort t allowed sound = subst (Leads t (aborted t)) allowed (sound_step (at t) (commands.Abort, Granted) sound)

pub sound_undo : (t : Timeline (List Sheet)) → undo_fault t ≡ None → IsSoundTimeline t → IsSoundTimeline (undone t)
sound_undo t allowed sound = subst (Leads t (undone t)) allowed (sound_step (at t) (commands.Undo, Granted) sound)

pub sound_redo : (t : Timeline (List Sheet)) → redo_fault t ≡ None → IsSoundTimeline t → IsSoundTimeline (redone t)
sound_redo t allowed sound = subst (Leads t (redone t)) allowed (sound_step (at t) (commands.Redo, Granted) sound)
