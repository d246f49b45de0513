-- Canonical drill texts are read back: their lines are cut as they were written, and read one after the other.
use Rattle.std.proofs.Common.{arith, ◌≡◌, ℕ, zero, suc, ◌+◌, drop, map, reverse, List, [], ◌∷◌, ◌++◌, length, true, false, Ok}
use Rattle.std.proofs.Common.{None, refl, sym, ap, ◌∙◌, append_assoc, append-nil, codes}
use Rattle.std.specs.Prelude.{filter}
use Rattle.std.specs.List.{AllByRecursion, flat_map, list_any}
use Rattle.std.proofs.lemmas.List.{map-append, reverse-append}
use Rattle.cam_refusals.specs.Checks.{first_holding}
use Rattle.cam_xnc.specs.declared.statement.Statement.{Statement}
use Rattle.cam_xnc.specs.declared.statement.Statement.TheVariants.{End}
use Rattle.cam_xnc.specs.Bytes.{is_bad, code_of}
use Rattle.cam_xnc.specs.Lines.{TextLine, LineFeed, line_bytes, IsLine, AreEnded, FoundLine, found_at, cut}
use Rattle.cam_xnc.specs.DrillState.{drill_layer_in}
use Rattle.cam_xnc.specs.Faults.{checks}
use Rattle.cam_xnc.specs.Reading.{is_told, line_said, is_last_line, is_end_statement, through_end}
use Rattle.cam_xnc.proofs.Cuttings.{one_cutting}
use Rattle.cam_xnc.proofs.Readings.{goes_on, reading_goes_on, goes_past, ends_here}
use Rattle.cam_writers.specs.DrillTexts.{Line, Lines, text_of, said_by, lines_before_end, drill_text}
use Rattle.cam_writers.specs.Laws.{IsTold, TellsItsLines, DrillReadsBack, DrillWritesAgain}
use Rattle.cam_writers.proofs.Saying.{Says, end_says}
use Rattle.cam_writers.proofs.Standing.{IsFaultless, all_stand}
use Rattle.cam_writers.proofs.Walks.{same_answer}

abbrev fed : Line → TextLine
fed line = record { text = line.0; ending = LineFeed }

-- the lines in their order, before others
abbrev before : Lines → List TextLine → List TextLine
before [] after = after
before (line ∷ older) after = before older (fed line ∷ after)

text_before : (lines : Lines) (after : List TextLine) → flat_map line_bytes (before lines after) ≡ text_of lines ++ flat_map line_bytes after
text_before [] after = refl
text_before (line ∷ older) after = text_before older (fed line ∷ after)
    ∙ sym (append_assoc (text_of older) (line.0 ++ codes "\n") (flat_map line_bytes after))

lines_before : (lines : Lines) (after : List TextLine) → AllByRecursion Says lines → AllByRecursion IsLine after
    → AllByRecursion IsLine (before lines after)
lines_before [] after each all = all
lines_before (line ∷ older) after each all = lines_before older (fed line ∷ after) each.1 (each.0.plain.one, all)

ended_before : (lines : Lines) (after : List TextLine) → AreEnded after → AreEnded (before lines after)
ended_before [] after ended = ended
ended_before (line ∷ older) after ended = ended_before older (fed line ∷ after) (tt, ended)

cut_again : (lines : Lines) → AllByRecursion Says lines → cut (text_of lines) ≡ before lines []
cut_again lines each = sym ((one_cutting (text_of lines)).1 (before lines []) (record {
  joined = sym (text_before lines [] ∙ append-nil (text_of lines));
  each = lines_before lines [] each tt;
  ended = ended_before lines [] tt;
}))

-- a line as it is found
record IsFound (line : Line) (here : FoundLine) : Type 0 where
  told : is_told here ≡ true
  good : list_any is_bad (code_of here.text) ≡ false
  says : line_said here ≡ line.1

found : (line : Line) (at : ℕ) → Says line → IsFound line (record { text = line.0; at = at })
found line at s = grind arith

-- the lines that are read, up to the first M30
abbrev told_of : List FoundLine → List FoundLine
told_of lines = through_end (filter is_told lines)

-- lines without a fault are read up to those behind them
record AreRead (lines : Lines) (after : List TextLine) (at : ℕ) : Type 0 where
  go_on : (len : ℕ) → goes_on len [] (found_at 0 (before lines after)) ≡ goes_on len (said_by lines) (found_at at after)
  told : map line_said (reverse (told_of (found_at 0 (before lines after)))) ≡ map line_said (reverse (told_of (found_at at after))) ++ said_by lines

read : (lines : Lines) (after : List TextLine) → AllByRecursion Says lines → IsFaultless (said_by lines) → (at : ℕ) × AreRead lines after at
read [] after each none = (0, record { go_on = λ len. refl; told = sym (append-nil (map line_said (reverse (told_of (found_at 0 after))))) })
read (line ∷ older) after each none =
    let rest = read older (fed line ∷ after) each.1 none.2 in
    let here : FoundLine = record { text = line.0; at = rest.0 } in
    let behind : List FoundLine = found_at (rest.0 + length (line_bytes (fed line))) after in
    let f = found line rest.0 each.0 in
    let goes : is_last_line here ≡ false = ap is_end_statement f.says ∙ none.1 in
    let all : told_of (here ∷ behind) ≡ here ∷ told_of behind = rw (f.told, goes) refl in
    let turned : List Statement = map line_said (reverse (told_of behind)) in (
      rest.0 + length (line_bytes (fed line)),
      record {
        go_on = λ len. rest.1.go_on len
            ∙ goes_past len (said_by older) here behind f.told f.good
            (ap (λ (s : Statement). first_holding (checks (said_by older) s)) f.says ∙ none.0) goes
            ∙ ap (λ (s : Statement). goes_on len (s ∷ said_by older) behind) f.says;
        told = rest.1.told
            ∙ ap (λ (ls : List FoundLine). map line_said (reverse ls) ++ said_by older) all
            ∙ ap (λ (ls : List FoundLine). map line_said ls ++ said_by older) (reverse-append (here ∷ []) (told_of behind))
            ∙ ap (λ (ss : List Statement). ss ++ said_by older) (map-append line_said (reverse (told_of behind)) (here ∷ []))
            ∙ append_assoc turned (line_said here ∷ []) (said_by older)
            ∙ ap (λ (s : Statement). turned ++ s ∷ said_by older) f.says;
      },
    )

lines_told : (lines : Lines) → AllByRecursion Says lines → IsFaultless (said_by lines) → IsTold lines
lines_told lines each none =
    ap (λ (ls : List TextLine). map line_said (reverse (told_of (found_at 0 ls)))) (cut_again lines each) ∙ (read lines [] each none).1.told

-- wherever the lines are cut
told : (left : ℕ) (lines : Lines) → AllByRecursion Says lines → IsFaultless (said_by lines) → IsTold (drop left lines)
told zero lines each none = lines_told lines each none
told (suc left) [] each none = lines_told [] each none
told (suc left) (line ∷ older) each none = told left older each.1 none.2

pub tells_its_lines : TellsItsLines
tells_its_lines layer left sound = grind (arith, all_stand, told)

-- the lines, and M30 behind them
pub reads_back : DrillReadsBack
unfolding drill_text
reads_back layer sound =
    let s = all_stand layer sound in
    let lines : Lines = lines_before_end layer.tools layer.items in
    let end : Line = (codes "M30", End) in
    let text : List ℕ = text_of (end ∷ lines) in
    let rest = read lines (fed end ∷ []) s.each s.faultless in
    let f = found end rest.0 end_says in
    let none : first_holding (checks (said_by lines) End) ≡ None = rw (s.part, s.lowered) refl in
    reading_goes_on text
    ∙ ap (λ (ls : List TextLine). goes_on (length text) [] (found_at 0 ls)) (cut_again (end ∷ lines) (end_says, s.each))
    ∙ rest.1.go_on (length text)
    ∙ ends_here (length text) (said_by lines) (record { text = codes "M30"; at = rest.0 }) [] f.told f.good
    (ap (λ (says : Statement). first_holding (checks (said_by lines) says)) f.says ∙ none) (ap is_end_statement f.says)
    ∙ ap (λ (says : Statement). Ok (drill_layer_in (says ∷ said_by lines))) f.says
    ∙ rw (s.tools, s.items) refl

pub writes_again : DrillWritesAgain
writes_again layer again sound read = grind (arith, same_answer, read, reads_back)
