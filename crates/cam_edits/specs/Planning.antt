-- What a plan of an edit is: the step of the edit, which fits the board, plays to the edited sheets, and carries the
-- boxes of what it touches.
use Rattle.std.specs.Prelude.{◌≡◌, List, Some, Result, Ok, Err}
use Rattle.cam_edits.specs.declared.board_step.BoardStep.{BoardStep}
use Rattle.cam_edits.specs.declared.board_step.BoardStep.TheVariants as steps
use Rattle.cam_edits.specs.declared.edit.Change.{Change}
use Rattle.cam_edits.specs.declared.edit.Edit.{Edit}
use Rattle.cam_edits.specs.declared.fault.EditFault.{EditFault}
use Rattle.cam_edits.specs.declared.fault.EditFault.TheVariants.{Memory}
use Rattle.cam_edits.specs.BoardSteps.{IsBoardFit, after_board_step, sheet_place}
use Rattle.cam_edits.specs.Boards.{content_at, place_named}
use Rattle.cam_edits.specs.Editing.{drill_step_of, edited, step_of}
use Rattle.cam_edits.specs.Sheets.{AreSound, Content, Gerber, Drill, Sheet}
use Rattle.cam_edits.specs.Touched.{drill_touched, touched}

-- it is the step of the change in what its sheet holds, with the boxes of what that touches
abbrev pub IsStepOf : Change → Content → BoardStep → Type 0
IsStepOf change (Gerber c) (steps.Gerber place step boxes) =
    (step_of c.attributes change ≡ Some step) × (boxes.items ≡ touched step c)
IsStepOf change (Drill c) (steps.Drill place step boxes) =
    (drill_step_of change ≡ Some step) × (boxes.items ≡ drill_touched step c)
IsStepOf change _ _ = ⊥

pub record IsPlan (sheets : List Sheet) (edit : Edit) (step : BoardStep) : Type 0 where
  pub edited_is : edited edit sheets ≡ Ok (after_board_step step sheets)
  pub fits : IsBoardFit step sheets
  pub named : place_named edit.name sheets ≡ Some (sheet_place step)
  pub step_is : IsStepOf edit.change (content_at sheets (sheet_place step)) step

-- the fault of an edit that is not planned: memory is refused only where nothing else is
abbrev pub IsRefused : Result (List Sheet) EditFault → EditFault → Type 0
IsRefused (Ok sheets) fault = fault ≡ Memory
IsRefused (Err told) fault = fault ≡ told

-- an edit leaves each sheet sound
abbrev pub EditsStaySound : Type 0
EditsStaySound =
    (edit : Edit) (sheets after : List Sheet) → AreSound sheets → edited edit sheets ≡ Ok after → AreSound after
