-- What a station's edit and load leave is sound.
use Rattle.std.proofs.Common.{◌≡◌, ℕ, List, [], ◌∷◌, ◌++◌, None, Result, Ok, subst}
use Rattle.std.proofs.lemmas.List.Elements.{All-nil, All-push}
use Rattle.cam_edits.specs.declared.edit.Edit.{Edit}
use Rattle.cam_edits.specs.declared.fault.EditFault.{EditFault}
use Rattle.cam_edits.specs.Editing.{edited}
use Rattle.cam_edits.specs.Sheets.{AreSound, Content, IsSound, Sheet, sheet}
use Rattle.cam_edits.specs.Touches.{Touch, touch_of_edit}
use Rattle.cam_script.specs.Commands.{edit_command}
use Rattle.cam_undo.specs.Machine.{Timeline, accepted}
use Rattle.cam_station.specs.Machine.{Granted, Outcome, State, edit_to, unedited}
use Rattle.cam_station.specs.Sound.{IsSoundTimeline}
use Rattle.cam_station.specs.Touches.{no_touches}
use Rattle.cam_station.proofs.EditCommands.{step_of_edit}
use Rattle.cam_station.proofs.SoundSteps.{sound_step}

pub sound_edit : (depth : ℕ) (t : Timeline (List Sheet)) (edit : Edit) (after : List Sheet)
    → edited edit t.document ≡ Ok after → IsSoundTimeline t → IsSoundTimeline (accepted depth after t)
sound_edit depth t edit after e sound =
    let s : State = record { depth = depth; window = None; timeline = t; touches = no_touches; tables = [] } in
    let touch : Touch = touch_of_edit edit t.document in
    let Q : State × Outcome → Type 0 = λ after. IsSoundTimeline after.0.timeline in
    let P : Result (List Sheet) EditFault → Type 0 = λ p. IsSoundTimeline (edit_to s Granted touch p).0.timeline in
    subst P e (subst Q (step_of_edit s edit Granted) (sound_step s (edit_command edit, Granted) sound))

pub sound_load : (sheets : List Sheet) (name : List ℕ) (c : Content) → AreSound sheets → IsSound c
    → IsSoundTimeline (unedited (sheets ++ sheet name c ∷ []))
sound_load sheets name c sound here = record {
  document = All-push (λ s. IsSound s.content) sheets (sheet name c) sound here;
  past = All-nil AreSound;
  future = All-nil AreSound;
  group = tt {0};
}
