-- What an XNC file means: its drill layer, or its first fault.
use Rattle.std.specs.Prelude.{◌≡◌, ℕ, ◌+◌, List, [], ◌∷◌, length, filter, Option, Some, None, Result, Ok, Err, ◌⊎◌}
use Rattle.std.specs.Prelude.{Bool, true, false, not, if◌then◌else◌}
use Rattle.std.specs.List.{list_any, prefix_len}
use Rattle.cam_refusals.specs.declared.read_fault.ReadFault.{ReadFault}
use Rattle.cam_refusals.specs.declared.refusal.Refusal.{Refusal}
use Rattle.cam_refusals.specs.declared.refusal.Refusal.TheVariants.{BadByte}
use Rattle.cam_refusals.specs.Checks.{Checks}
use Rattle.cam_refusals.specs.FileFaults.{Place, first_told, no_memory}
use Rattle.cam_objects.specs.declared.drill_layer.DrillLayer.{DrillLayer}
use Rattle.cam_xnc.specs.declared.statement.Statement.{Statement}
use Rattle.cam_xnc.specs.declared.statement.Statement.TheVariants.{End}
use Rattle.cam_xnc.specs.Bytes.{is_line_blank, is_bad, is_blank, code_of, line_packed}
use Rattle.cam_xnc.specs.Lines.{FoundLine, lines_of}
use Rattle.cam_xnc.specs.Syntax.{statement_of}
use Rattle.cam_xnc.specs.DrillState.{DrillPast, drill_layer_in}
use Rattle.cam_xnc.specs.Faults.{checks, end_checks}
use Rattle.cam_objects.specs.Contents.{DrillContent, drill_content_of}

-- the line says something: it is not blank without its comment
abbrev pub is_told : FoundLine → Bool
is_told line = not (is_blank (code_of line.text))

-- the place of its first byte that is not skipped
abbrev pub line_place : FoundLine → ℕ
line_place line = line.at + prefix_len is_line_blank (code_of line.text)

abbrev pub line_said : FoundLine → Statement
line_said line = statement_of (line_packed (code_of line.text))

abbrev pub is_end_statement : Statement → Bool
is_end_statement End = true
is_end_statement _ = false

-- the line is M30
abbrev pub is_last_line : FoundLine → Bool
is_last_line line = is_end_statement (line_said line)

-- the lines up to the first M30, that one among them
abbrev pub through_end : List FoundLine → List FoundLine
through_end [] = []
through_end (line ∷ lines) = line ∷ (if is_last_line line then [] else through_end lines)

-- the lines that are read
abbrev pub told_lines : List ℕ → List FoundLine
told_lines bytes = through_end (filter is_told (lines_of bytes))

-- what a line may be refused for after a past
abbrev pub line_checks : DrillPast → FoundLine → Checks Refusal
line_checks past line = (BadByte, list_any is_bad (code_of line.text)) ∷ checks past (line_said line)

-- the places of lines after a past, each with what may be refused there, and where none of them is M30 that of the end
abbrev pub drill_places_from : ℕ → DrillPast → List FoundLine → List Place
drill_places_from len past [] = record { at = len; checks = end_checks past } ∷ []
drill_places_from len past (line ∷ lines) = record { at = line_place line; checks = line_checks past line }
    ∷ (if is_last_line line then [] else drill_places_from len (line_said line ∷ past) lines)

-- the past behind lines
abbrev pub drill_past_from : DrillPast → List FoundLine → DrillPast
drill_past_from past [] = past
drill_past_from past (line ∷ lines) = drill_past_from (line_said line ∷ past) lines

-- the layer where no fault is told
abbrev pub drill_layer_unless : Option ReadFault → DrillContent → Result DrillContent ReadFault
drill_layer_unless None layer = Ok layer
drill_layer_unless (Some fault) layer = Err fault

-- the layer of lines after a past, or their first fault, in a file of so many bytes
abbrev pub reading_from : ℕ → DrillPast → List FoundLine → Result DrillContent ReadFault
reading_from len past lines = drill_layer_unless (first_told (drill_places_from len past lines)) (drill_layer_in (drill_past_from past lines))

-- the places of a file
abbrev pub places_of : List ℕ → List Place
places_of bytes = drill_places_from (length bytes) [] (told_lines bytes)

-- the layer of a file, or its first fault
unfoldable pub drill_reading_of : List ℕ → Result DrillContent ReadFault
drill_reading_of bytes = reading_from (length bytes) [] (told_lines bytes)

abbrev pub drill_answer_of : Result DrillLayer ReadFault → Result DrillContent ReadFault
drill_answer_of (Ok layer) = Ok (drill_content_of layer)
drill_answer_of (Err fault) = Err fault

-- the reader's answer: the file's, but where memory was refused
abbrev pub IsDrillReading : List ℕ → Result DrillLayer ReadFault → Type 0
IsDrillReading bytes result = (drill_answer_of result ≡ drill_reading_of bytes) ⊎ (result ≡ Err no_memory)
