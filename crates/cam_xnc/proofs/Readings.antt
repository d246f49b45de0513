-- A reading, one line after the other.
use Rattle.std.proofs.Common.{arith, ◌≡◌, ℕ, ◌+◌, List, [], ◌∷◌, Bool, true, false, cond, Option, Some, None, Result, Ok, Err}
use Rattle.std.proofs.Common.{refl, ◌∙◌, length}
use Rattle.std.specs.Prelude.{filter, if◌then◌else◌}
use Rattle.std.specs.Option.{option_map, option_or}
use Rattle.std.specs.List.{list_any, prefix_len}
use Rattle.cam_refusals.specs.declared.read_fault.ReadFault.{ReadFault}
use Rattle.cam_refusals.specs.declared.refusal.Refusal.{Refusal}
use Rattle.cam_refusals.specs.declared.refusal.Refusal.TheVariants.{BadByte}
use Rattle.cam_refusals.specs.Checks.{first_holding}
use Rattle.cam_refusals.specs.FileFaults.{first_told}
use Rattle.cam_objects.specs.Contents.{DrillContent, drill_content_of}
use Rattle.cam_xnc.specs.declared.state.DrillState.{DrillState}
use Rattle.cam_xnc.specs.declared.statement.Statement.{Statement}
use Rattle.cam_xnc.specs.Bytes.{is_line_blank, is_bad, is_blank, code_of, line_packed}
use Rattle.cam_xnc.specs.Syntax.{statement_of}
use Rattle.cam_xnc.specs.Lines.{FoundLine, lines_of}
use Rattle.cam_xnc.specs.DrillState.{DrillPast, drill_layer_in}
use Rattle.cam_xnc.specs.Faults.{checks}
use Rattle.cam_xnc.specs.Reading.{is_told, line_place, line_said, is_last_line, is_end_statement, through_end, drill_places_from}
use Rattle.cam_xnc.specs.Reading.{drill_past_from, drill_layer_unless, reading_from, drill_reading_of}
use Rattle.cam_xnc.specs.Machinery.Tracking.{Tracks}
use Rattle.cam_xnc.proofs.OrderedChecks.{first_of_line}

-- what the lines still to come lead to, after a past without a fault
abbrev pub goes_on : ℕ → DrillPast → List FoundLine → Result DrillContent ReadFault
goes_on len past lines = reading_from len past (through_end (filter is_told lines))

-- a file is read from its first line on
pub reading_goes_on : (bytes : List ℕ) → drill_reading_of bytes ≡ goes_on (length bytes) [] (lines_of bytes)
unfolding drill_reading_of
reading_goes_on bytes = refl

-- past a blank line
pub goes_over : (len : ℕ) (past : DrillPast) (line : FoundLine) (lines : List FoundLine) → is_told line ≡ false
    → goes_on len past (line ∷ lines) ≡ goes_on len past lines
goes_over len past line lines h = rw h refl

-- the refusal at a place, or else what follows
abbrev pub unless_refused : ℕ → Option Refusal → Result DrillContent ReadFault → Result DrillContent ReadFault
unless_refused at None answer = answer
unless_refused at (Some refusal) answer = Err (record { code = refusal; at = at })

-- what a line leads to that says something
abbrev pub leads_to : ℕ → DrillPast → ℕ → Bool → Statement → List FoundLine → Result DrillContent ReadFault
leads_to len past at bad says lines =
    unless_refused at (if bad then Some BadByte else first_holding (checks past says))
    (if is_end_statement says then Ok (drill_layer_in (says ∷ past)) else goes_on len (says ∷ past) lines)

-- the same, by what is told at its place
abbrev told_then : ℕ → DrillPast → ℕ → Option Refusal → Bool → List FoundLine → Result DrillContent ReadFault
told_then len past at o ends lines =
    drill_layer_unless
    (option_or (option_map (λ refusal. record { code = refusal; at = at }) o) (first_told (cond ends [] (drill_places_from len past (cond ends [] lines)))))
    (drill_layer_in (drill_past_from past (cond ends [] lines)))

by_told : (len : ℕ) (past : DrillPast) (at : ℕ) (o : Option Refusal) (ends : Bool) (lines : List FoundLine)
    → told_then len past at o ends lines ≡ unless_refused at o (cond ends (Ok (drill_layer_in past)) (reading_from len past lines))
by_told len past at o ends lines = grind arith

pub goes_by : (len : ℕ) (past : DrillPast) (line : FoundLine) (lines : List FoundLine) → is_told line ≡ true
    → goes_on len past (line ∷ lines) ≡ leads_to len past (line_place line) (list_any is_bad (code_of line.text)) (line_said line) lines
goes_by len past line lines h = grind (arith, first_of_line, by_told)

-- past a line without a fault
pub goes_past : (len : ℕ) (past : DrillPast) (line : FoundLine) (lines : List FoundLine) → is_told line ≡ true
    → list_any is_bad (code_of line.text) ≡ false → first_holding (checks past (line_said line)) ≡ None → is_last_line line ≡ false
    → goes_on len past (line ∷ lines) ≡ goes_on len (line_said line ∷ past) lines
goes_past len past line lines first_told good e end = goes_by len past line lines first_told ∙ rw (good, e, end) refl

-- at the end
pub ends_here : (len : ℕ) (past : DrillPast) (line : FoundLine) (lines : List FoundLine) → is_told line ≡ true
    → list_any is_bad (code_of line.text) ≡ false → first_holding (checks past (line_said line)) ≡ None → is_last_line line ≡ true
    → goes_on len past (line ∷ lines) ≡ Ok (drill_layer_in (line_said line ∷ past))
ends_here len past line lines first_told good e end = goes_by len past line lines first_told ∙ rw (good, e, end) refl

-- at a line as the code takes it: its code, how many skipped bytes stand before that, and what it says
pub takes : (bytes : List ℕ) (past : DrillPast) (line : FoundLine) (lines rest : List FoundLine) (code : List ℕ) (skipped : ℕ)
    (says : Statement) → drill_reading_of bytes ≡ goes_on (length bytes) past lines → lines ≡ line ∷ rest
    → code ≡ code_of line.text → is_blank code ≡ false → skipped ≡ prefix_len is_line_blank code → says ≡ statement_of (line_packed code)
    → drill_reading_of bytes ≡ leads_to (length bytes) past (line.at + skipped) (list_any is_bad code) says rest
takes bytes past line lines rest code skipped says reads begins is_code some before says_so = grind (arith, goes_by)

-- the layer of the state
pub layer_is : (past : DrillPast) (s : DrillState) → Tracks past s → drill_content_of s.layer ≡ drill_layer_in past
layer_is past s t = rw (t.tools, t.items) refl
