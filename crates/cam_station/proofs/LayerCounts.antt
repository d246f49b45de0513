-- Undo, redo and abort lead to boards of as many layers.
use Rattle.std.proofs.Common.{◌≡◌, ◌∙◌, ℕ, ◌-◌, List, [], ◌∷◌, length, slice_get, Option, None, Some, ap, refl}
use Rattle.std.specs.Prelude.{All}
use Rattle.std.proofs.lemmas.List.Elements.{All-cons, All-nil}
use Rattle.cam_edits.specs.contracts.board_step.BoardStepReversible.TheImpl.{ghosts}
use Rattle.cam_edits.specs.declared.board_step.BoardStep.{BoardStep}
use Rattle.cam_edits.specs.declared.board_step.BoardStep.TheVariants as steps
use Rattle.cam_edits.specs.BoardSteps.{after_board_step, after_drill_on, after_on}
use Rattle.cam_edits.specs.Boards.{with_content}
use Rattle.cam_edits.specs.Sheets.{Sheet}
use Rattle.cam_undo.specs.Kept.{Kept}
use Rattle.circular_buffer.specs.Buffer.{last_item}
use Rattle.cam_undo.specs.Machine.{Timeline, aborted, aborted_in, accepted, accepted_in, redone, redone_to, undone, undone_to}
use Rattle.cam_undo.specs.Timelines.{after_group, after_groups, contents, group_of, start_of, timeline_at}
use Rattle.cam_station.proofs.KeptTables.{length-changed}
use Rattle.cam_edits.proofs.EditedLists.{all_here}

pub board_count : (step : BoardStep) (sheets : List Sheet) → length (after_board_step step sheets) ≡ length sheets
board_count (steps.Gerber place step boxes) sheets = length-changed (with_content (after_on step)) sheets place
board_count (steps.Drill place step boxes) sheets = length-changed (with_content (after_drill_on step)) sheets place

group_count : (group : List BoardStep) (sheets : List Sheet) → length (after_group ghosts group sheets) ≡ length sheets
group_count [] sheets = refl
group_count (step ∷ later) sheets = board_count step (after_group ghosts later sheets) ∙ group_count later sheets

groups_count : (groups : List (List BoardStep)) (sheets : List Sheet)
    → length (after_groups ghosts groups sheets) ≡ length sheets
groups_count [] sheets = refl
groups_count (group ∷ later) sheets =
    group_count group (after_groups ghosts later sheets) ∙ groups_count later sheets

-- as many layers as there
abbrev HasAsMany : List Sheet → List Sheet → Type 0
HasAsMany sheets document = length document ≡ length sheets

all_count : (groups : List (List BoardStep)) (sheets : List Sheet)
    → All (HasAsMany sheets) (contents ghosts groups sheets)
all_count [] sheets = All-nil (HasAsMany sheets)
all_count (group ∷ later) sheets =
    All-cons (HasAsMany sheets) (after_group ghosts group (after_groups ghosts later sheets)) (contents ghosts later sheets)
    (groups_count (group ∷ later) sheets) (all_count later sheets)

start_count : (group : Option (List BoardStep)) (sheets : List Sheet)
    → length (start_of ghosts group sheets) ≡ length sheets
start_count None sheets = refl
start_count (Some group) sheets = group_count group sheets

last_count : (groups : List (List BoardStep)) (sheets document : List Sheet)
    → slice_get (contents ghosts groups sheets) (length (contents ghosts groups sheets) - 1) ≡ Some document
    → length document ≡ length sheets
last_count groups sheets document e =
    all_here (HasAsMany sheets) (contents ghosts groups sheets) (length (contents ghosts groups sheets) - 1) document
    (all_count groups sheets) e

abort_count : (group : Option (List BoardStep)) (t : Timeline (List Sheet)) (sheets : List Sheet)
    → t.document ≡ sheets → length (aborted_in t (group_of ghosts group sheets)).document ≡ length sheets
abort_count None t sheets e = ap length e
abort_count (Some group) t sheets e = group_count group sheets

pub aborted_count : (kept : Kept BoardStep) (sheets : List Sheet)
    → length (aborted (timeline_at ghosts kept sheets)).document ≡ length sheets
aborted_count kept sheets = abort_count kept.open_group (timeline_at ghosts kept sheets) sheets refl

undo_count : (t : Timeline (List Sheet)) (earlier : Option (List Sheet)) (n : ℕ) → length t.document ≡ n
    → ((document : List Sheet) → earlier ≡ Some document → length document ≡ n)
    → length (undone_to t earlier).document ≡ n
undo_count t None n e last = e
undo_count t (Some document) n e last = last document refl

pub undone_count : (kept : Kept BoardStep) (sheets : List Sheet)
    → length (undone (timeline_at ghosts kept sheets)).document ≡ length sheets
undone_count kept sheets =
    let start : List Sheet = start_of ghosts kept.open_group sheets in
    undo_count (timeline_at ghosts kept sheets) (last_item (contents ghosts kept.past start)) (length sheets) refl
    (λ document e. last_count kept.past start document e ∙ start_count kept.open_group sheets)

redo_count : (t : Timeline (List Sheet)) (later : Option (List Sheet)) (n : ℕ) → length t.document ≡ n
    → ((document : List Sheet) → later ≡ Some document → length document ≡ n)
    → length (redone_to t later).document ≡ n
redo_count t None n e last = e
redo_count t (Some document) n e last = last document refl

pub redone_count : (kept : Kept BoardStep) (sheets : List Sheet)
    → length (redone (timeline_at ghosts kept sheets)).document ≡ length sheets
redone_count kept sheets =
    let start : List Sheet = start_of ghosts kept.open_group sheets in
    redo_count (timeline_at ghosts kept sheets) (last_item (contents ghosts kept.future start)) (length sheets) refl
    (λ document e. last_count kept.future start document e ∙ start_count kept.open_group sheets)

accepted_here : {X : Type 0} (depth : ℕ) (edited : X) (t : Timeline X) (group : Option (X × ℕ))
    → (accepted_in depth edited t group).document ≡ edited
accepted_here depth edited t None = refl
accepted_here depth edited t (Some group) = refl

pub accepted_count : (depth : ℕ) (step : BoardStep) (t : Timeline (List Sheet))
    → length (accepted depth (after_board_step step t.document) t).document ≡ length t.document
accepted_count depth step t =
    ap length (accepted_here depth (after_board_step step t.document) t t.group) ∙ board_count step t.document
