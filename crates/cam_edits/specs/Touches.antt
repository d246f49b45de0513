-- What an edit touches: boxes on one sheet.
use Rattle.std.specs.Prelude.{ℕ, List, [], Option, None, Some}
use Rattle.cam_units.specs.declared.bounds.Bounds.{Bounds}
use Rattle.cam_objects.specs.Contents.{Content as GerberContent, DrillContent}
use Rattle.cam_edits.specs.declared.board_step.BoardStep.{BoardStep}
use Rattle.cam_edits.specs.declared.drill_step.DrillStep.{DrillStep}
use Rattle.cam_edits.specs.declared.edit.Change.{Change}
use Rattle.cam_edits.specs.declared.edit.Edit.{Edit}
use Rattle.cam_edits.specs.declared.step.Step.{Step}
use Rattle.cam_edits.specs.Boards.{content_at, place_named}
use Rattle.cam_edits.specs.BoardSteps.{step_boxes, sheet_place}
use Rattle.cam_edits.specs.Editing.{drill_step_of, step_of}
use Rattle.cam_edits.specs.Sheets.{Content, Gerber, Drill, Sheet}
use Rattle.cam_edits.specs.Touched.{drill_touched, touched}

-- the place of the sheet, and the boxes
pub record Touch : Type 0 where
  pub sheet : ℕ
  pub boxes : List Bounds

abbrev pub boxes_of_step : Option Step → GerberContent → List Bounds
boxes_of_step None c = []
boxes_of_step (Some step) c = touched step c

abbrev pub boxes_of_drill_step : Option DrillStep → DrillContent → List Bounds
boxes_of_drill_step None c = []
boxes_of_drill_step (Some step) c = drill_touched step c

-- the boxes of a change of what a sheet holds
abbrev pub boxes_in : Change → Content → List Bounds
boxes_in change (Gerber c) = boxes_of_step (step_of c.attributes change) c
boxes_in change (Drill c) = boxes_of_drill_step (drill_step_of change) c

abbrev pub touch_at : Change → List Sheet → Option ℕ → Touch
touch_at change sheets None = record { sheet = 0; boxes = [] }
touch_at change sheets (Some place) = record { sheet = place; boxes = boxes_in change (content_at sheets place) }

-- what an edit of these sheets touches
unfoldable pub touch_of_edit : Edit → List Sheet → Touch
touch_of_edit edit sheets = touch_at edit.change sheets (place_named edit.name sheets)

-- what the step of a plan touches, and its answer
abbrev pub touch_of : BoardStep → Touch
touch_of step = record { sheet = sheet_place step; boxes = step_boxes step }
