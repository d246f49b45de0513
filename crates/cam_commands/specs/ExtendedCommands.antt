-- What an extended command says: its name is its first two letters, and its data what follows.
-- Gerber Layer Format Specification, "Syntax", "Extended commands", and "Deprecated format elements".
use Rattle.std.specs.Prelude.{ℕ, ◌-◌, List, [], ◌∷◌, length, take, codes, Option, Some, None, Bool, true, false, ◌==◌}
use Rattle.std.specs.Prelude.{◌&&◌, ◌||◌, not, nat_le, is_some, if◌then◌else◌, find}
use Rattle.std.specs.Option.{option_and_then}
use Rattle.std.specs.List.{list_any}
use Rattle.std.specs.Str.{bytes_eq}
use Rattle.cam_words.specs.Bytes.{is_star}
use Rattle.cam_words.specs.Heads.{packed, behind_head, behind_kept}
use Rattle.cam_units.specs.declared.length.Unit.TheVariants.{Mm, Inch}
use Rattle.cam_commands.specs.declared.parts.Format.{Format}
use Rattle.cam_commands.specs.declared.parts.Style.TheVariants.{Extended}
use Rattle.cam_commands.specs.declared.parts.Polarity.TheVariants.{Dark, Clear}
use Rattle.cam_commands.specs.declared.parts.Mirror.TheVariants as mirror
use Rattle.cam_commands.specs.declared.names.FreeText.TheVariants.{FileAttribute, ApertureAttribute, ObjectAttribute}
use Rattle.cam_commands.specs.declared.names.FreeText.TheVariants.{DeleteAttribute, ImageName, LoadName}
use Rattle.cam_commands.specs.declared.names.OldForm.{OldForm}
use Rattle.cam_commands.specs.declared.names.OldForm.TheVariants.{ImagePolarity, AxesSelect, ImageRotation, MirrorImage}
use Rattle.cam_commands.specs.declared.names.OldForm.TheVariants.{Offset, ScaleFactor}
use Rattle.cam_commands.specs.declared.names.Name.{Name}
use Rattle.cam_commands.specs.declared.names.Name.TheVariants.{FormatSpecification, UnitMode, ApertureDefinition}
use Rattle.cam_commands.specs.declared.names.Name.TheVariants.{ApertureMacro, ApertureBlock, StepAndRepeat}
use Rattle.cam_commands.specs.declared.names.Name.TheVariants.{LoadPolarity, LoadMirroring, LoadRotation, LoadScaling}
use Rattle.cam_commands.specs.declared.names.Name.TheVariants.{Free, Old}
use Rattle.cam_numbers.specs.Numbers.{decimal, defined_number}
use Rattle.cam_commands.specs.Numbers.{count, is_plain}
use Rattle.cam_commands.specs.Fields.{is_run, field}
use Rattle.cam_commands.specs.Commands.{Command, SetFormat, RefusedFormat, SetUnit, DefineAperture, DefineMacro}
use Rattle.cam_commands.specs.Commands.{SetPolarity, SetMirror, SetRotation, SetScale, OpenBlock, CloseBlock, SetRepeat}
use Rattle.cam_commands.specs.Commands.{CloseRepeat, KeepText, NeutralOld, RefusedOld, Unknown}
use Rattle.cam_commands.specs.WordCommands.{slot}

-- the letters of each name
abbrev pub letters_of : Name → List ℕ
letters_of FormatSpecification = codes "FS"
letters_of UnitMode = codes "MO"
letters_of ApertureDefinition = codes "AD"
letters_of ApertureMacro = codes "AM"
letters_of ApertureBlock = codes "AB"
letters_of StepAndRepeat = codes "SR"
letters_of LoadPolarity = codes "LP"
letters_of LoadMirroring = codes "LM"
letters_of LoadRotation = codes "LR"
letters_of LoadScaling = codes "LS"
letters_of (Free FileAttribute) = codes "TF"
letters_of (Free ApertureAttribute) = codes "TA"
letters_of (Free ObjectAttribute) = codes "TO"
letters_of (Free DeleteAttribute) = codes "TD"
letters_of (Free ImageName) = codes "IN"
letters_of (Free LoadName) = codes "LN"
letters_of (Old ImagePolarity) = codes "IP"
letters_of (Old AxesSelect) = codes "AS"
letters_of (Old ImageRotation) = codes "IR"
letters_of (Old MirrorImage) = codes "MI"
letters_of (Old Offset) = codes "OF"
letters_of (Old ScaleFactor) = codes "SF"

abbrev pub names : List Name
names =
    FormatSpecification ∷ UnitMode ∷ ApertureDefinition ∷ ApertureMacro ∷ ApertureBlock ∷ StepAndRepeat
    ∷ LoadPolarity ∷ LoadMirroring ∷ LoadRotation ∷ LoadScaling
    ∷ Free FileAttribute ∷ Free ApertureAttribute ∷ Free ObjectAttribute ∷ Free DeleteAttribute ∷ Free ImageName ∷ Free LoadName
    ∷ Old ImagePolarity ∷ Old AxesSelect ∷ Old ImageRotation ∷ Old MirrorImage ∷ Old Offset ∷ Old ScaleFactor ∷ []

-- the name of these letters
unfoldable pub name_of : List ℕ → Option Name
name_of letters = find (λ name. bytes_eq (letters_of name) letters) names

-- 1 to 6
abbrev pub is_format_digit : ℕ → Bool
is_format_digit byte = nat_le 49 byte && nat_le byte 54

-- how many digits stand before and behind the decimal point
unfoldable pub format_of : List ℕ → Option Format
format_of (i ∷ d ∷ []) = if is_format_digit i && is_format_digit d then Some (record { integers = i - 48; decimals = d - 48 }) else None
format_of _ = None

abbrev pub is_same_format : Format → Format → Bool
is_same_format f g = (f.integers == g.integers) && (f.decimals == g.decimals)

-- the format of both axes
abbrev pub format_by : Option Format → Option Format → Command
format_by None y = RefusedFormat
format_by (Some f) None = RefusedFormat
format_by (Some f) (Some g) = if is_same_format f g then SetFormat f else RefusedFormat

-- X and Y with the same two digits
unfoldable pub format_of_axes : List ℕ → Command
format_of_axes text =
    let x = field 88 text in
    let y = field 89 x.1 in
    if length y.1 == 0 then format_by (option_and_then format_of x.0) (option_and_then format_of y.0) else RefusedFormat

abbrev pub format_by_head : Option (List ℕ) → Command
format_by_head None = RefusedFormat
format_by_head (Some axes) = format_of_axes axes

-- "Format specification (FS)": leading zeros omitted, absolute coordinates
unfoldable pub format_command : List ℕ → Command
format_command text = format_by_head (behind_head (codes "LA") text)

-- "Unit (MO)"
unfoldable pub unit_command : List ℕ → Command
unit_command text =
    if bytes_eq text (codes "MM") then SetUnit Mm Extended
    else if bytes_eq text (codes "IN") then SetUnit Inch Extended
    else RefusedFormat

-- "Load polarity (LP)"
unfoldable pub polarity_command : List ℕ → Command
polarity_command text =
    if bytes_eq text (codes "D") then SetPolarity Dark
    else if bytes_eq text (codes "C") then SetPolarity Clear
    else Unknown

-- "Load mirroring (LM)"
unfoldable pub mirror_command : List ℕ → Command
mirror_command text =
    if bytes_eq text (codes "N") then SetMirror mirror.Neither
    else if bytes_eq text (codes "X") then SetMirror mirror.X
    else if bytes_eq text (codes "Y") then SetMirror mirror.Y
    else if bytes_eq text (codes "XY") then SetMirror mirror.Both
    else Unknown

-- "Load rotation (LR)"
unfoldable pub rotation_command : List ℕ → Command
rotation_command text = if is_run text then SetRotation (decimal text) else Unknown

-- "Load scaling (LS)"
unfoldable pub scale_command : List ℕ → Command
scale_command text = if is_run text then SetScale (decimal text) else Unknown

abbrev pub open_block : Option (List ℕ) → Command
open_block None = Unknown
open_block (Some run) = OpenBlock (defined_number run)

-- "Aperture block (AB)"; D is 68
unfoldable pub block_command : List ℕ → Command
block_command text =
    let d = field 68 text in
    if length text == 0 then CloseBlock else if length d.1 == 0 then open_block d.0 else Unknown

-- "Step and repeat (SR)": X (88), Y (89), I (73) and J (74) in this order
unfoldable pub repeat_command : List ℕ → Command
repeat_command text =
    let x = field 88 text in
    let y = field 89 x.1 in
    let i = field 73 y.1 in
    let j = field 74 i.1 in
    if length text == 0 then CloseRepeat
    else if length j.1 == 0 then SetRepeat
    (record { columns = slot count x.0; rows = slot count y.0; i = slot decimal i.0; j = slot decimal j.0 })
    else Unknown

abbrev pub is_plain_or_missing : ℕ → Option (List ℕ) → Bool
is_plain_or_missing digit None = true
is_plain_or_missing digit (Some run) = is_plain digit run

-- the same digit for A (65) and B (66), of which one may be missing
unfoldable pub is_plain_pair : ℕ → List ℕ → Bool
is_plain_pair digit text =
    let a = field 65 text in
    let b = field 66 a.1 in
    (length b.1 == 0) && (is_some a.0 || is_some b.0) && is_plain_or_missing digit a.0 && is_plain_or_missing digit b.0

-- old forms that say what holds anyway: IPPOS, ASAXBY, IR0, MIA0B0, OFA0B0, SFA1B1
unfoldable pub is_neutral : OldForm → List ℕ → Bool
is_neutral ImagePolarity text = bytes_eq text (codes "POS")
is_neutral AxesSelect text = bytes_eq text (codes "AXBY") || bytes_eq text (codes "AX") || bytes_eq text (codes "BY")
is_neutral ImageRotation text = is_plain 48 text
is_neutral MirrorImage text = is_plain_pair 48 text
is_neutral Offset text = is_plain_pair 48 text
is_neutral ScaleFactor text = is_plain_pair 49 text

-- an extended command by its name; text is its data with skipped bytes, which attributes and names keep
unfoldable pub named_command : Name → List ℕ → Command
named_command FormatSpecification text = format_command (packed text)
named_command UnitMode text = unit_command (packed text)
named_command ApertureDefinition text = DefineAperture (packed text)
named_command ApertureMacro text = DefineMacro (packed text)
named_command ApertureBlock text = block_command (packed text)
named_command StepAndRepeat text = repeat_command (packed text)
named_command LoadPolarity text = polarity_command (packed text)
named_command LoadMirroring text = mirror_command (packed text)
named_command LoadRotation text = rotation_command (packed text)
named_command LoadScaling text = scale_command (packed text)
named_command (Free name) text = KeepText name text
named_command (Old form) text = if is_neutral form (packed text) then NeutralOld else RefusedOld Extended

-- only a macro's text holds a `*`
abbrev pub may_hold_star : Name → Bool
may_hold_star ApertureMacro = true
may_hold_star _ = false

abbrev pub by_name : Option Name → List ℕ → Command
by_name None text = Unknown
by_name (Some name) text = if list_any is_star text && not (may_hold_star name) then Unknown else named_command name text

-- an extended command
unfoldable pub extended_command : List ℕ → Command
extended_command text = by_name (name_of (take 2 (packed text))) (behind_kept 2 text)
