-- What the lines of an XNC file say. XNC Format Specification, "Header", "Drilling" and "Routing". The slot is none of its
-- lines: programs write it as the Excellon format has it.
use Rattle.std.specs.Prelude.{ℕ, ℤ, List, [], ◌∷◌, length, take, drop, nat_eq, codes, Option, Some, None, Bool, ◌==◌}
use Rattle.std.specs.Prelude.{◌||◌, ◌&&◌, not, is_none, if◌then◌else◌}
use Rattle.std.specs.List.{starts_with, list_any, position_or_len}
use Rattle.std.specs.Str.{bytes_eq}
use Rattle.std.specs.Char.{is_ascii_digit}
use Rattle.cam_units.specs.declared.length.Unit.TheVariants.{Mm, Inch}
use Rattle.cam_xnc.specs.declared.statement.Statement.{Statement}
use Rattle.cam_xnc.specs.declared.statement.Statement.TheVariants.{BeginHeader, SetUnit, Declare, Neutral, EndHeader}
use Rattle.cam_xnc.specs.declared.statement.Statement.TheVariants.{Select, DrillMode, HitAt, Slot, RoutTo, Lower}
use Rattle.cam_xnc.specs.declared.statement.Statement.TheVariants.{CutTo, Raise, CutArc, End, Unknown}
use Rattle.cam_xnc.specs.declared.statement.Coordinate.{Coordinate}
use Rattle.cam_xnc.specs.declared.statement.Coordinate.TheVariants.{Omitted, Malformed, Pointless, Written}
use Rattle.cam_numbers.specs.Numbers.{run_of, behind_run, decimal}
use Rattle.cam_xnc.specs.Numbers.{is_pointed, is_whole, selected_tool, declared_tool}

-- a field, which is a letter and its run: the run, where the letter stands at the front of a text, and what follows
unfoldable pub line_field : ℕ → List ℕ → Option (List ℕ) × List ℕ
line_field letter [] = (None, [])
line_field letter (first ∷ text) = if first == letter then (Some (run_of text), behind_run text) else (None, first ∷ text)

abbrev pub coordinate_written : Option ℤ → Coordinate
coordinate_written None = Malformed
coordinate_written (Some n) = Written n

-- what a line says of X or of Y; without a point the digits do not say where they lie. "Coordinates"
unfoldable pub coordinate : Option (List ℕ) → Coordinate
coordinate None = Omitted
coordinate (Some run) = if is_pointed run then coordinate_written (decimal run) else if is_whole run then Pointless else Malformed

-- X (88) and Y (89) in this order, of which one may be missing, and nothing else
unfoldable pub coordinates_of : List ℕ → Option (Coordinate × Coordinate)
coordinates_of text =
    let x = line_field 88 text in
    let y = line_field 89 x.1 in
    if (length y.1 == 0) && not (is_none x.0 && is_none y.0) then Some (coordinate x.0, coordinate y.0) else None

-- what is said with coordinates, where they stand there
abbrev pub with_coordinates : (Coordinate → Coordinate → Statement) → Option (Coordinate × Coordinate) → Statement
with_coordinates says None = Unknown
with_coordinates says (Some coordinates) = says coordinates.0 coordinates.1

-- a slot by what stands before `G85` and what behind it
abbrev pub slot_between : Option (Coordinate × Coordinate) → Option (Coordinate × Coordinate) → Statement
slot_between None end = Unknown
slot_between (Some start) None = Unknown
slot_between (Some start) (Some end) = Slot start.0 start.1 end.0 end.1

abbrev pub is_code_letter : ℕ → Bool
is_code_letter byte = byte == 71

-- coordinates, `G85` and coordinates again; the code begins at the first letter G (71)
unfoldable pub slot_statement : List ℕ → Statement
slot_statement text =
    let place = position_or_len is_code_letter text in
    let behind = drop place text in
    if starts_with nat_eq behind (codes "G85") then slot_between (coordinates_of (take place text)) (coordinates_of (drop 3 behind))
    else Unknown

-- a line that begins with a coordinate: a hit where nothing follows its coordinates, or else a slot
abbrev pub hit_or : Option (Coordinate × Coordinate) → Statement → Statement
hit_or None otherwise = otherwise
hit_or (Some coordinates) otherwise = HitAt coordinates.0 coordinates.1

-- what stands behind the number of a tool: nothing, or C (67) and the run of its diameter
unfoldable pub tool_by : List ℕ → List ℕ → Statement
tool_by number [] = Select (selected_tool number)
tool_by number (first ∷ size) =
    if (first == 67) && (length (behind_run size) == 0) then Declare (declared_tool number) (decimal size) else Unknown

-- what stands behind T. "Tool declaration" and "Tool selection"
unfoldable pub tool_statement : List ℕ → Statement
tool_statement text = tool_by (run_of text) (behind_run text)

-- the statements that are one word, and what each says
abbrev pub header_words : List (List ℕ × Statement)
header_words =
    (codes "M48", BeginHeader) ∷ (codes "METRIC", SetUnit Mm) ∷ (codes "METRIC,LZ", SetUnit Mm) ∷ (codes "METRIC,TZ", SetUnit Mm)
    ∷ (codes "INCH", SetUnit Inch) ∷ (codes "INCH,LZ", SetUnit Inch) ∷ (codes "INCH,TZ", SetUnit Inch) ∷ (codes "%", EndHeader) ∷ []

abbrev pub body_words : List (List ℕ × Statement)
body_words = (codes "FMAT,2", Neutral) ∷ (codes "G90", Neutral) ∷ (codes "G05", DrillMode) ∷ (codes "M15", Lower)
    ∷ (codes "M16", Raise) ∷ (codes "M30", End) ∷ []

abbrev pub word_in : List (List ℕ × Statement) → List ℕ → Option Statement
word_in [] text = None
word_in (word ∷ others) text = if bytes_eq text word.0 then Some word.1 else word_in others text

-- a G code of two digits, and no third
abbrev pub begins_with_code : List ℕ → List ℕ → Bool
begins_with_code code text = starts_with nat_eq text code && not (list_any is_ascii_digit (take 1 (drop 3 text)))

-- a rout's lines with coordinates: `G00`, `G01`, and `G02` or `G03` with anything
unfoldable pub rout_statement : List ℕ → Statement
rout_statement text =
    if starts_with nat_eq text (codes "G00") then with_coordinates RoutTo (coordinates_of (drop 3 text))
    else if starts_with nat_eq text (codes "G01") then with_coordinates CutTo (coordinates_of (drop 3 text))
    else if begins_with_code (codes "G02") text || begins_with_code (codes "G03") text then CutArc
    else Unknown

abbrev pub word_or : Option Statement → Statement → Statement
word_or None otherwise = otherwise
word_or (Some says) otherwise = says

-- a line that begins neither with a coordinate nor with a tool
unfoldable pub other_statement : List ℕ → Statement
other_statement text = word_or (word_in body_words text) (word_or (word_in header_words text) (rout_statement text))

-- what a line says, without its comment and its skipped bytes; T is 84
unfoldable pub statement_of : List ℕ → Statement
statement_of [] = Unknown
statement_of (first ∷ text) =
    if (first == 88) || (first == 89) then hit_or (coordinates_of (first ∷ text)) (slot_statement (first ∷ text))
    else if first == 84 then tool_statement text else other_statement (first ∷ text)
