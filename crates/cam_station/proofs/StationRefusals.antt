-- What a station shows where its history or the plan of an edit refused a command: the state stays.
use Rattle.std.proofs.Common.{◌≡◌, Option, None, Some, List, Result, Ok, Err, refl}
use Rattle.cam_edits.specs.declared.fault.EditFault.{EditFault}
use Rattle.cam_edits.specs.Faults.{edit_refusal}
use Rattle.cam_edits.specs.Planning.{IsRefused}
use Rattle.cam_edits.specs.Sheets.{Sheet}
use Rattle.cam_edits.specs.Touches.{Touch}
use Rattle.cam_undo.specs.declared.fault.HistoryFault.{HistoryFault}
use Rattle.cam_undo.specs.Faults.{history_refusal}
use Rattle.cam_undo.specs.Machine.{IsHistoryRefusal}
use Rattle.cam_station.specs.Machine.{Outcome, State, edit_to, memory_of, refused, unless, with_room}

pub history_refused : (s : State) (told : Option HistoryFault) (change : State × Outcome) (f : HistoryFault)
    → IsHistoryRefusal told f
    → unless told s (with_room (memory_of (refused (history_refusal f))) s change) ≡ (s, refused (history_refusal f))
history_refused s None change f is = rw is refl
history_refused s (Some told) change f is = rw is refl

pub end_refused : (s : State) (told : Option HistoryFault) (change : State × Outcome) (f : HistoryFault)
    → told ≡ Some f → unless told s change ≡ (s, refused (history_refusal f))
end_refused s told change f is = rw is refl

pub edit_refused : (s : State) (touch : Touch) (made : Result (List Sheet) EditFault) (f : EditFault)
    → IsRefused made f
    → edit_to s (memory_of (refused (edit_refusal f))) touch made ≡ (s, refused (edit_refusal f))
edit_refused s touch (Ok sheets) f is = rw is refl
edit_refused s touch (Err told) f is = rw is refl
