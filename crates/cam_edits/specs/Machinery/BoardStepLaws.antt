use Rattle.std.specs.Prelude.{◌≡◌, ℕ, ◌+◌, ◌==◌, Bool, true, false, cond, List, [], ◌∷◌, ◌++◌}
use Rattle.std.specs.Prelude.{Option, None, Some, MatchOption, count_by, slice_get}
use Rattle.std.proofs.Common.{refl, ap, sym, subst, ◌∙◌, arith}
use Rattle.std.proofs.lemmas.List.Sums.{sum_by-append}
use Rattle.cam_objects.specs.Contents.{Content as GerberContent, DrillContent}
use Rattle.cam_objects.specs.DrillSoundness.{IsSoundDrillContent}
use Rattle.cam_edits.specs.declared.board.Board.{Board}
use Rattle.cam_edits.specs.declared.board.Sheet.{Sheet as KeptSheet}
use Rattle.cam_edits.specs.declared.board.SheetContent.{SheetContent}
use Rattle.cam_edits.specs.declared.board.SheetContent.TheVariants as kept
use Rattle.cam_edits.specs.declared.board_step.BoardStep.{BoardStep}
use Rattle.cam_edits.specs.declared.board_step.BoardStep.TheVariants as steps
use Rattle.cam_edits.specs.declared.drill_step.DrillStep.{DrillStep}
use Rattle.cam_edits.specs.declared.step.Step.{Step}
use Rattle.cam_edits.specs.Boards.{changed_at, content_or_empty, with_content}
use Rattle.cam_edits.specs.BoardSteps.{HasBoardRoom, HasRoomOn, IsBoardFit, IsDrillFitOn, IsFitOn, after_board_step}
use Rattle.cam_edits.specs.BoardSteps.{after_drill_on}
use Rattle.cam_edits.specs.BoardSteps.{after_on, drill_steps_on, inverse_board_step, inverse_drill_on, inverse_on}
use Rattle.cam_edits.specs.BoardSteps.{joined_if, steps_on}
use Rattle.cam_edits.specs.Machinery.Room.{HasPlaces}
use Rattle.cam_edits.specs.DrillSteps.{is_drill_insertion}
use Rattle.cam_edits.specs.Machinery.DrillStepLaws.{drill_answer_fits, drill_gives_back_content, drill_gives_back_step}
use Rattle.cam_edits.specs.Machinery.PlaceLaws.{changed_back, found, get_changed, has_changed}
use Rattle.cam_edits.specs.Machinery.StepLaws.{answer_fits, gives_back_content, gives_back_step}
use Rattle.cam_edits.specs.Places.{HasAt}
use Rattle.cam_edits.specs.Sheets.{Content, Drill, Gerber, IsSoundGerber, Sheet, sheet}
use Rattle.cam_edits.specs.Steps.{is_insertion, puts_attribute}

-- ---- one sheet
fits_back_on : (step : Step) (c : Content) → IsFitOn step c → IsFitOn (inverse_on step c) (after_on step c)
fits_back_on step (Gerber c) h = record {
  fits = answer_fits step c h.fits;
  before = h.after;
  after = subst IsSoundGerber (sym (gives_back_content step c h.fits)) h.before;
}
fits_back_on step (Drill c) h = absurd h

fits_back_drill_on : (step : DrillStep) (c : Content) → IsDrillFitOn step c
    → IsDrillFitOn (inverse_drill_on step c) (after_drill_on step c)
fits_back_drill_on step (Gerber c) h = absurd h
fits_back_drill_on step (Drill c) h = record {
  fits = drill_answer_fits step c h.fits;
  before = h.after;
  after = subst (λ (d : DrillContent). IsSoundDrillContent d.tools d.items)
      (sym (drill_gives_back_content step c h.fits)) h.before;
}

content_back_on : (step : Step) (c : Content) → IsFitOn step c → after_on (inverse_on step c) (after_on step c) ≡ c
content_back_on step (Gerber c) h = ap Gerber (gives_back_content step c h.fits)
content_back_on step (Drill c) h = refl

content_back_drill_on : (step : DrillStep) (c : Content) → IsDrillFitOn step c
    → after_drill_on (inverse_drill_on step c) (after_drill_on step c) ≡ c
content_back_drill_on step (Gerber c) h = refl
content_back_drill_on step (Drill c) h = ap Drill (drill_gives_back_content step c h.fits)

step_back_on : (step : Step) (c : Content) → IsFitOn step c
    → inverse_on (inverse_on step c) (after_on step c) ≡ step
step_back_on step (Gerber c) h = gives_back_step step c h.fits
step_back_on step (Drill c) h = refl

step_back_drill_on : (step : DrillStep) (c : Content) → IsDrillFitOn step c
    → inverse_drill_on (inverse_drill_on step c) (after_drill_on step c) ≡ step
step_back_drill_on step (Gerber c) h = refl
step_back_drill_on step (Drill c) h = drill_gives_back_step step c h.fits

-- ---- a sheet of a board
-- X is the type of steps of one kind of sheets
module _ {X : Type 0} (after : X → Content → Content) (inverse : X → Content → X) (Fit : X → Content → Type 0) where
  abbrev FitsAt : X → List Sheet → ℕ → Type 0
  FitsAt step sheets place = HasAt (λ s. Fit step s.content) sheets place

  module _ (step : X) (sheets : List Sheet) (place : ℕ) (h : FitsAt step sheets place) where
    sheet_is : (s : Sheet) × (slice_get sheets place ≡ Some s) × Fit step s.content
    sheet_is = found (λ s. Fit step s.content) sheets place h

    abbrev answer : X
    answer = inverse step (content_or_empty (slice_get sheets place))

    abbrev edited : List Sheet
    edited = changed_at (after step) place sheets

    fits_at : ((c : Content) → Fit step c → Fit (inverse step c) (after step c)) → FitsAt answer edited place
    fits_at back =
        let s = sheet_is in
        subst (λ (o : Option Sheet). FitsAt (inverse step (content_or_empty o)) edited place) (sym s.1)
        (has_changed sheets place s.0 s.1 (λ t. Fit (inverse step s.0.content) t.content) (with_content (after step))
        (back s.0.content s.2))

    content_at_back : ((c : Content) → Fit step c → after (inverse step c) (after step c) ≡ c)
        → changed_at (after answer) place edited ≡ sheets
    content_at_back back =
        let s = sheet_is in
        ap (λ (o : Option Sheet). changed_at (after (inverse step (content_or_empty o))) place edited) s.1
        ∙ changed_back sheets place s.0 s.1 (with_content (after step))
        (with_content (after (inverse step s.0.content)))
        (ap (sheet s.0.name) (back s.0.content s.2))

    step_at_back : ((c : Content) → Fit step c → inverse (inverse step c) (after step c) ≡ step)
        → inverse answer (content_or_empty (slice_get edited place)) ≡ step
    step_at_back back =
        let s = sheet_is in
        let now = content_or_empty (slice_get edited place) in
        ap (λ (o : Option Sheet). inverse (inverse step (content_or_empty o)) now) s.1
        ∙ ap (λ (o : Option Sheet). inverse (inverse step s.0.content) (content_or_empty o))
        (get_changed sheets place s.0 s.1 (with_content (after step)))
        ∙ back s.0.content s.2

-- ---- the answer fits, gives back the content, and its own answer is the step
pub board_answer_fits : (step : BoardStep) (sheets : List Sheet) → IsBoardFit step sheets
    → IsBoardFit (inverse_board_step step sheets) (after_board_step step sheets)
board_answer_fits (steps.Gerber place step boxes) sheets h =
    fits_at after_on inverse_on IsFitOn step sheets place h (fits_back_on step)
board_answer_fits (steps.Drill place step boxes) sheets h =
    fits_at after_drill_on inverse_drill_on IsDrillFitOn step sheets place h (fits_back_drill_on step)

pub board_gives_back_content : (step : BoardStep) (sheets : List Sheet) → IsBoardFit step sheets
    → after_board_step (inverse_board_step step sheets) (after_board_step step sheets) ≡ sheets
board_gives_back_content (steps.Gerber place step boxes) sheets h =
    content_at_back after_on inverse_on IsFitOn step sheets place h (content_back_on step)
board_gives_back_content (steps.Drill place step boxes) sheets h =
    content_at_back after_drill_on inverse_drill_on IsDrillFitOn step sheets place h (content_back_drill_on step)

pub board_gives_back_step : (step : BoardStep) (sheets : List Sheet) → IsBoardFit step sheets
    → inverse_board_step (inverse_board_step step sheets) (after_board_step step sheets) ≡ step
board_gives_back_step (steps.Gerber place step boxes) sheets h =
    ap (λ (s : Step). steps.Gerber place s boxes)
    (step_at_back after_on inverse_on IsFitOn step sheets place h (step_back_on step))
board_gives_back_step (steps.Drill place step boxes) sheets h =
    ap (λ (s : DrillStep). steps.Drill place s boxes)
    (step_at_back after_drill_on inverse_drill_on IsDrillFitOn step sheets place h (step_back_drill_on step))

-- ---- room

-- a sheet has a place for each item that steps insert and for each attribute that they put, whatever its kind
abbrev pub HasPlacesFor : List Step → SheetContent → Type 0
HasPlacesFor group c = HasPlaces (count_by is_insertion group) (count_by puts_attribute group) c

abbrev pub HasDrillPlacesFor : List DrillStep → SheetContent → Type 0
HasDrillPlacesFor group c = HasPlaces (count_by is_drill_insertion group) 0 c

join_if : {X : Type 0} (b : Bool) (x : X) (xs ys : List X) → joined_if b x (xs ++ ys) ≡ joined_if b x xs ++ ys
join_if true x xs ys = refl
join_if false x xs ys = refl

module _ (place : ℕ) where
  pub steps_joined : (a b : List BoardStep) → steps_on place (a ++ b) ≡ steps_on place a ++ steps_on place b
  steps_joined [] b = refl
  steps_joined (steps.Gerber at step boxes ∷ a) b =
      ap (joined_if (at == place) step) (steps_joined a b)
      ∙ join_if (at == place) step (steps_on place a) (steps_on place b)
  steps_joined (steps.Drill at step boxes ∷ a) b = steps_joined a b

  pub drill_steps_joined : (a b : List BoardStep)
      → drill_steps_on place (a ++ b) ≡ drill_steps_on place a ++ drill_steps_on place b
  drill_steps_joined [] b = refl
  drill_steps_joined (steps.Gerber at step boxes ∷ a) b = drill_steps_joined a b
  drill_steps_joined (steps.Drill at step boxes ∷ a) b =
      ap (joined_if (at == place) step) (drill_steps_joined a b)
      ∙ join_if (at == place) step (drill_steps_on place a) (drill_steps_on place b)

  insertions : (a b : List BoardStep)
      → count_by is_insertion (steps_on place (a ++ b))
      ≡ count_by is_insertion (steps_on place a) + count_by is_insertion (steps_on place b)
  insertions a b =
      ap (count_by is_insertion) (steps_joined a b)
      ∙ sum_by-append (λ (s : Step). cond (is_insertion s) 1 0) (steps_on place a) (steps_on place b)

  puts : (a b : List BoardStep)
      → count_by puts_attribute (steps_on place (a ++ b))
      ≡ count_by puts_attribute (steps_on place a) + count_by puts_attribute (steps_on place b)
  puts a b =
      ap (count_by puts_attribute) (steps_joined a b)
      ∙ sum_by-append (λ (s : Step). cond (puts_attribute s) 1 0) (steps_on place a) (steps_on place b)

  drill_insertions : (a b : List BoardStep)
      → count_by is_drill_insertion (drill_steps_on place (a ++ b))
      ≡ count_by is_drill_insertion (drill_steps_on place a) + count_by is_drill_insertion (drill_steps_on place b)
  drill_insertions a b =
      ap (count_by is_drill_insertion) (drill_steps_joined a b)
      ∙ sum_by-append (λ (s : DrillStep). cond (is_drill_insertion s) 1 0) (drill_steps_on place a)
      (drill_steps_on place b)

  last_has_room_on : (a b : List BoardStep) (c : SheetContent) → HasRoomOn place (a ++ b) c → HasRoomOn place b c
  last_has_room_on a b (kept.Gerber layer) h =
      (omega (arith, insertions a b, h.0), omega (arith, puts a b, h.1))
  last_has_room_on a b (kept.Drill layer) h = let all = drill_insertions a b in omega arith

  pub rest_has_room_on : (a b : List BoardStep) (c : SheetContent) → HasRoomOn place (a ++ b) c → HasRoomOn place a c
  rest_has_room_on a b (kept.Gerber layer) h =
      (omega (arith, insertions a b, h.0), omega (arith, puts a b, h.1))
  rest_has_room_on a b (kept.Drill layer) h = let all = drill_insertions a b in omega arith

pub of_each : {X : Type 0} (P Q : X → Type 0) → ((x : X) → P x → Q x) → (o : Option X)
    → MatchOption o (Unit {0}) P → MatchOption o (Unit {0}) Q
of_each P Q step None h = tt
of_each P Q step (Some x) h = step x h

pub board_last_has_room : (rest : List BoardStep) (step : BoardStep) (board : Board)
    → HasBoardRoom (rest ++ step ∷ []) board → HasBoardRoom (step ∷ []) board
board_last_has_room rest step board h = λ place.
    of_each (λ (s : KeptSheet). HasRoomOn place (rest ++ step ∷ []) s.content)
    (λ (s : KeptSheet). HasRoomOn place (step ∷ []) s.content)
    (λ s r. last_has_room_on place rest (step ∷ []) s.content r) (slice_get board.sheets.items place) (h place)
