-- What is answered to a question: a text, or a refusal.
use Rattle.std.specs.Prelude.{◌≡◌, ℕ, not, Bool, if◌then◌else◌, List, Option, None, Some, Result, Ok, Err}
use Rattle.std.specs.List.{flat_map}
use Rattle.cam_refusals.specs.declared.refusal.Refusal.{Refusal}
use Rattle.cam_refusals.specs.declared.refusal.Refusal.TheVariants.{BadLine, NoItem, NoLayer, NoMemory}
use Rattle.cam_edits.specs.Boards.{content_at, place_named}
use Rattle.cam_edits.specs.Sheets.{Content, Sheet}
use Rattle.cam_undo.specs.Counted.{counts_at}
use Rattle.cam_script.specs.Faults.{line_refusal}
use Rattle.cam_script.specs.Questions.{asked}
use Rattle.cam_script.specs.declared.line.LineFault.{LineFault}
use Rattle.cam_script.specs.declared.question.Query.{Query}
use Rattle.cam_script.specs.declared.question.Question.{Question}
use Rattle.cam_script.specs.declared.question.Question.TheVariants as questions
use Rattle.cam_station.specs.Machine.{State, fault}
use Rattle.cam_station.specs.declared.fault.Fault.{Fault}
use Rattle.cam_ask.specs.Telling.{IsLayerTold, can_be_asked, has_place}
use Rattle.cam_ask.specs.Texts.{history_line, layer_line}

abbrev pub Answer : Type 0
Answer = Result (List ℕ) Fault

-- Why a question of a layer is refused, if it is: no line can say it, or there is no item, aperture, block or tool at the
-- place.
abbrev pub refusal_in : Content → Query → Option Refusal
refusal_in c query =
    if not (can_be_asked query) then Some BadLine else if has_place c query then None else Some NoItem

-- Where a question is refused, the refusal; else a text, or that memory was refused.
abbrev pub IsAnswerBy : Option Refusal → (List ℕ → Type 0) → Answer → Type 0
IsAnswerBy None told (Ok text) = told text
IsAnswerBy None told (Err why) = why ≡ fault NoMemory
IsAnswerBy (Some refusal) told (Ok text) = ⊥
IsAnswerBy (Some refusal) told (Err why) = why ≡ fault refusal

abbrev pub IsAnswerOf : Content → Query → Answer → Type 0
IsAnswerOf c query answer = IsAnswerBy (refusal_in c query) (IsLayerTold c query) answer

-- of the layer at a place, if there is one
abbrev pub IsAnswerAt : List Sheet → Option ℕ → Query → Answer → Type 0
IsAnswerAt sheets None query answer = answer ≡ Err (fault NoLayer)
IsAnswerAt sheets (Some place) query answer = IsAnswerOf (content_at sheets place) query answer

abbrev pub sheet_line : Sheet → List ℕ
sheet_line sheet = layer_line sheet.name sheet.content

abbrev pub IsAnswer : State → Question → Answer → Type 0
IsAnswer s questions.Layers answer = IsAnswerBy None (λ text. text ≡ flat_map sheet_line s.timeline.document) answer
IsAnswer s questions.History answer = IsAnswerBy None (λ text. text ≡ history_line (counts_at s.timeline)) answer
IsAnswer s (questions.OfLayer name query) answer =
    IsAnswerAt s.timeline.document (place_named name s.timeline.document) query answer

-- of what a line says, or why it says nothing
abbrev pub IsAnswerTo : State → Result Question LineFault → Answer → Type 0
IsAnswerTo s (Err why) answer = answer ≡ Err (fault (line_refusal why))
IsAnswerTo s (Ok question) answer = IsAnswer s question answer

pub record IsAsked (s : State) (line : List ℕ) (answer : Answer) : Type 0 where
  pub no_memory : Bool
  pub answered : IsAnswerTo s (asked line no_memory) answer
