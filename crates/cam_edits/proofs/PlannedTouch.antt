-- The boxes that a step carries are those of the edit that it was planned for, and its answer carries the same.
use Rattle.std.proofs.Common.{arith, ◌≡◌, List}
use Rattle.cam_edits.specs.declared.board_step.BoardStep.{BoardStep}
use Rattle.cam_edits.specs.declared.edit.Change.{Change}
use Rattle.cam_edits.specs.declared.edit.Edit.{Edit}
use Rattle.cam_edits.specs.BoardSteps.{step_boxes, inverse_board_step}
use Rattle.cam_edits.specs.Planning.{IsPlan, IsStepOf}
use Rattle.cam_edits.specs.Sheets.{Content, Sheet}
use Rattle.cam_edits.specs.Touches.{boxes_in, touch_of, touch_of_edit}

planned_boxes : (change : Change) (c : Content) (step : BoardStep) → IsStepOf change c step
    → step_boxes step ≡ boxes_in change c
planned_boxes change c step h = grind arith

-- a plan touches what its edit does
pub planned_touch : (sheets : List Sheet) (edit : Edit) (step : BoardStep) → IsPlan sheets edit step
    → touch_of step ≡ touch_of_edit edit sheets
unfolding touch_of_edit
planned_touch sheets edit step plan = grind (arith, planned_boxes)

-- the way back touches what the way there did
pub touch_kept : (step : BoardStep) (sheets : List Sheet) → touch_of (inverse_board_step step sheets) ≡ touch_of step
touch_kept step sheets = grind arith
