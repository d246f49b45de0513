-- What the steps of a board do to its sheets, and which steps lead back: a step changes one sheet, which is of its
-- kind, and keeps it sound.
use Rattle.std.specs.Prelude.{ℕ, ◌==◌, Bool, if◌then◌else◌, List, [], ◌∷◌, MatchOption, slice_get}
use Rattle.cam_units.specs.declared.bounds.Bounds.{Bounds}
use Rattle.cam_edits.specs.declared.board.Board.{Board}
use Rattle.cam_edits.specs.declared.board.SheetContent.{SheetContent}
use Rattle.cam_edits.specs.declared.board.SheetContent.TheVariants as kept
use Rattle.cam_edits.specs.declared.board_step.BoardStep.{BoardStep}
use Rattle.cam_edits.specs.declared.board_step.BoardStep.TheVariants as steps
use Rattle.cam_edits.specs.declared.drill_step.DrillStep.{DrillStep}
use Rattle.cam_edits.specs.declared.step.Step.{Step}
use Rattle.cam_edits.specs.Boards.{changed_at, content_at}
use Rattle.cam_edits.specs.DrillSteps.{HasDrillRoom, IsSoundDrillStep, after_drill_step, inverse_drill_step}
use Rattle.cam_edits.specs.Places.{HasAt}
use Rattle.cam_edits.specs.Sheets.{Content, Gerber, Drill, Sheet}
use Rattle.cam_edits.specs.Steps.{HasRoom, IsSoundStep, after_step, inverse_step}

-- ---- one sheet

abbrev pub after_on : Step → Content → Content
after_on step (Gerber c) = Gerber (after_step step c)
after_on step (Drill c) = Drill c

abbrev pub after_drill_on : DrillStep → Content → Content
after_drill_on step (Gerber c) = Gerber c
after_drill_on step (Drill c) = Drill (after_drill_step step c)

abbrev pub inverse_on : Step → Content → Step
inverse_on step (Gerber c) = inverse_step step c
inverse_on step (Drill c) = step

abbrev pub inverse_drill_on : DrillStep → Content → DrillStep
inverse_drill_on step (Gerber c) = step
inverse_drill_on step (Drill c) = inverse_drill_step step c

abbrev pub IsFitOn : Step → Content → Type 0
IsFitOn step (Gerber c) = IsSoundStep step c
IsFitOn step (Drill c) = ⊥

abbrev pub IsDrillFitOn : DrillStep → Content → Type 0
IsDrillFitOn step (Gerber c) = ⊥
IsDrillFitOn step (Drill c) = IsSoundDrillStep step c

-- ---- the board

-- the place of the sheet that a step changes
abbrev pub sheet_place : BoardStep → ℕ
sheet_place (steps.Gerber place step boxes) = place
sheet_place (steps.Drill place step boxes) = place

-- the boxes of what it touches
abbrev pub step_boxes : BoardStep → List Bounds
step_boxes (steps.Gerber place step boxes) = boxes.items
step_boxes (steps.Drill place step boxes) = boxes.items

abbrev pub after_board_step : BoardStep → List Sheet → List Sheet
after_board_step (steps.Gerber place step boxes) sheets = changed_at (after_on step) place sheets
after_board_step (steps.Drill place step boxes) sheets = changed_at (after_drill_on step) place sheets

-- the boxes stay: what is touched on the way back is what was touched on the way there
abbrev pub inverse_board_step : BoardStep → List Sheet → BoardStep
inverse_board_step (steps.Gerber place step boxes) sheets =
    steps.Gerber place (inverse_on step (content_at sheets place)) boxes
inverse_board_step (steps.Drill place step boxes) sheets =
    steps.Drill place (inverse_drill_on step (content_at sheets place)) boxes

abbrev pub IsBoardFit : BoardStep → List Sheet → Type 0
IsBoardFit (steps.Gerber place step boxes) sheets = HasAt (λ s. IsFitOn step s.content) sheets place
IsBoardFit (steps.Drill place step boxes) sheets = HasAt (λ s. IsDrillFitOn step s.content) sheets place

-- ---- room

abbrev pub joined_if : {X : Type 0} → Bool → X → List X → List X
joined_if here x xs = if here then x ∷ xs else xs

-- the steps of a group that change the sheet at a place
abbrev pub steps_on : ℕ → List BoardStep → List Step
steps_on place [] = []
steps_on place (steps.Gerber at step boxes ∷ group) = joined_if (at == place) step (steps_on place group)
steps_on place (steps.Drill at step boxes ∷ group) = steps_on place group

abbrev pub drill_steps_on : ℕ → List BoardStep → List DrillStep
drill_steps_on place [] = []
drill_steps_on place (steps.Gerber at step boxes ∷ group) = drill_steps_on place group
drill_steps_on place (steps.Drill at step boxes ∷ group) = joined_if (at == place) step (drill_steps_on place group)

abbrev pub HasRoomOn : ℕ → List BoardStep → SheetContent → Type 0
HasRoomOn place group (kept.Gerber layer) = HasRoom (steps_on place group) layer
HasRoomOn place group (kept.Drill layer) = HasDrillRoom (drill_steps_on place group) layer

-- each sheet has room for the steps of the group that change it
abbrev pub HasBoardRoom : List BoardStep → Board → Type 0
HasBoardRoom group board =
    (place : ℕ) → MatchOption (slice_get board.sheets.items place) (Unit {0}) (λ s. HasRoomOn place group s.content)
