-- What a word says, by its text without skipped bytes. Gerber Layer Format Specification, "Syntax", "Word commands".
use Rattle.std.specs.Prelude.{ℕ, List, length, Option, Some, None, Bool, ◌==◌, ◌||◌, nat_lt, is_some, if◌then◌else◌}
use Rattle.std.specs.Option.{option_and_then}
use Rattle.cam_units.specs.declared.length.Unit.TheVariants.{Mm, Inch}
use Rattle.cam_commands.specs.declared.parts.Slot.{Slot}
use Rattle.cam_commands.specs.declared.parts.Slot.TheVariants.{Omitted, Malformed, Written}
use Rattle.cam_commands.specs.declared.parts.Style.TheVariants.{Word}
use Rattle.cam_commands.specs.declared.parts.Mode.{Mode}
use Rattle.cam_commands.specs.declared.parts.Mode.TheVariants.{Linear, Clockwise, Counterclockwise}
use Rattle.cam_commands.specs.declared.parts.OperationCode.{OperationCode}
use Rattle.cam_commands.specs.declared.parts.OperationCode.TheVariants.{Plot, Move, Flash}
use Rattle.cam_numbers.specs.Numbers.{natural, integer, within_numbers}
use Rattle.cam_commands.specs.Fields.{field}
use Rattle.cam_commands.specs.Commands.{Command, SetUnit, RefusedOld, SetMode, SingleQuadrant, MultiQuadrant}
use Rattle.cam_commands.specs.Commands.{BeginRegion, EndRegion, Nothing, Select, Operate, End, Unknown}

-- what a run means, where its letter stands there, or else another command
abbrev pub by_run : Option (List ℕ) → (List ℕ → Command) → Command → Command
by_run None meaning otherwise = otherwise
by_run (Some run) meaning otherwise = meaning run

-- what a code number means, where there is one
abbrev pub by_code : Option ℕ → (ℕ → Command) → Command
by_code None meaning = Unknown
by_code (Some code) meaning = meaning code

abbrev pub written : {A : Type 0} → Option A → Slot A
written None = Malformed
written (Some n) = Written n

-- a slot of a command by its run
abbrev pub slot : {A : Type 0} → (List ℕ → Option A) → Option (List ℕ) → Slot A
slot number None = Omitted
slot number (Some run) = written (number run)

-- "Linear plotting (G01)", "Circular plotting (G02, G03)"
unfoldable pub mode_of : ℕ → Option Mode
mode_of code = if code == 1 then Some Linear else if code == 2 then Some Clockwise else if code == 3 then Some Counterclockwise else None

-- "Plot (D01)", "Move (D02)", "Flash (D03)"
unfoldable pub operation_code : ℕ → Option OperationCode
operation_code code = if code == 1 then Some Plot else if code == 2 then Some Move else if code == 3 then Some Flash else None

-- "Set current aperture (Dnn)": from D10 on
unfoldable pub selection : ℕ → Command
selection code = if nat_lt code 10 then Unknown else Select (within_numbers code)

-- the runs behind the letters of an operation, and its mode
pub record OperationParts : Type 0 where
  pub mode : Option Mode
  pub x : Option (List ℕ)
  pub y : Option (List ℕ)
  pub i : Option (List ℕ)
  pub j : Option (List ℕ)
  pub d : Option (List ℕ)

abbrev pub has_coordinate : OperationParts → Bool
has_coordinate p = is_some p.x || is_some p.y || is_some p.i || is_some p.j

abbrev pub operate : OperationParts → Option OperationCode → Command
operate p code =
    Operate (record { mode = p.mode; x = slot integer p.x; y = slot integer p.y; i = slot integer p.i; j = slot integer p.j; code = code })

-- an operation by its D code; another code selects, where it stands alone
abbrev pub by_operation_code : OperationParts → ℕ → Option OperationCode → Command
by_operation_code p code (Some named) = operate p (Some named)
by_operation_code p code None = if is_some p.mode || has_coordinate p then Unknown else selection code

-- an operation by its parts; coordinates may stand alone. "Operations (D01/D02/D03)"
abbrev pub parts_said_by : OperationParts → Option (List ℕ) → Command
parts_said_by p None = if has_coordinate p then operate p None else Unknown
parts_said_by p (Some run) = by_code (natural run) (λ code. by_operation_code p code (operation_code code))

unfoldable pub operation_of : OperationParts → Command
operation_of p = parts_said_by p p.d

-- X (88), Y (89), I (73), J (74) and D (68) in this order
unfoldable pub operation : Option Mode → List ℕ → Command
operation mode text =
    let x = field 88 text in
    let y = field 89 x.1 in
    let i = field 73 y.1 in
    let j = field 74 i.1 in
    let d = field 68 j.1 in
    if length d.1 == 0 then operation_of (record { mode = mode; x = x.0; y = y.0; i = i.0; j = j.0; d = d.0 }) else Unknown

-- behind G54: a D code that selects
unfoldable pub prefixed_selection : List ℕ → Command
prefixed_selection text = let d = field 68 text in if length d.1 == 0 then by_code (option_and_then natural d.0) selection else Unknown

-- a G code alone that sets no mode. "Region statement (G36/G37)", "Mode (MO)", "Deprecated G codes"
unfoldable pub lone_function : ℕ → Command
lone_function code =
    if code == 36 then BeginRegion else if code == 37 then EndRegion
    else if code == 70 then SetUnit Inch Word else if code == 71 then SetUnit Mm Word
    else if code == 74 then SingleQuadrant else if code == 75 then MultiQuadrant
    else if code == 90 then Nothing
    else if code == 55 then RefusedOld Word else if code == 91 then RefusedOld Word
    else Unknown

-- a mode alone, or before an operation
abbrev pub by_mode : Option Mode → List ℕ → Command → Command
by_mode None rest otherwise = otherwise
by_mode (Some mode) rest otherwise = if length rest == 0 then SetMode mode else operation (Some mode) rest

-- a G code before the rest of a word
unfoldable pub function : List ℕ → ℕ → Command
function rest code =
    by_mode (mode_of code) rest
    (if code == 54 then prefixed_selection rest else if length rest == 0 then lone_function code else Unknown)

-- "End-of-file (M02)"; M00 and M01 are its old forms
unfoldable pub program_code : ℕ → Command
program_code code = if code == 2 then End else if nat_lt code 2 then RefusedOld Word else Unknown

-- a word that begins with a G code
unfoldable pub by_function : Option (List ℕ) × List ℕ → List ℕ → Command
by_function g text = by_run g.0 (λ run. by_code (natural run) (function g.1)) (operation None text)

-- M is 77, G is 71
unfoldable pub word_command : List ℕ → Command
word_command text =
    let m = field 77 text in
    if length text == 0 then Nothing
    else by_run m.0 (λ run. if length m.1 == 0 then by_code (natural run) program_code else Unknown) (by_function (field 71 text) text)
