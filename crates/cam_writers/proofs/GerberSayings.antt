-- How settings are spelled: their bytes are all printed and neither `%` nor `*`, the cutter finds each command, and it
-- says its statement.
use Rattle.std.proofs.Common.{◌≡◌, ◌≢◌, ℕ, ◌^◌, ◌<◌, List, ◌∷◌, ◌++◌, Bool, true, false, refl, ap, ◌∙◌}
use Rattle.std.proofs.Common.{arith, decimal, ◌≤◌, None, Some, codes, eqb, ne_eqb}
use Rattle.std.specs.Prelude.{ℤ, not, ◌&&◌, nat_le, ◌==◌, unsigned_abs, if◌then◌else◌}
use Rattle.std.specs.List.{list_all, list_any}
use Rattle.std.proofs.lemmas.List.Folds.{list_all-append}
use Rattle.std.proofs.lemmas.Bool.{and_parts, le-ltb}
use Rattle.std.proofs.lemmas.Bool.Decides.{nat_tests}
use Rattle.cam_words.specs.Bytes.{star, percent, is_star, is_skipped, is_control, is_forbidden_in_code, is_forbidden_in_plain}
use Rattle.cam_words.specs.Heads.{packed, begins_as_comment, is_comment, is_free_text, behind_head}
use Rattle.cam_words.specs.Cutting.{Command, IsCommand, word_of}
use Rattle.cam_numbers.specs.Numbers.{is_numeric, natural, value_of, billionths, unsigned_decimal}
use Rattle.cam_commands.specs.declared.names.Name.{Name}
use Rattle.cam_commands.specs.Commands.{SetMirror, SetRotation}
use Rattle.cam_commands.specs.Syntax.{command_of}
use Rattle.cam_commands.specs.WordCommands.{word_command, OperationParts, by_function, function, mode_of, lone_function}
use Rattle.cam_commands.specs.WordCommands.{program_code, operation_code, selection, operation_of}
use Rattle.cam_commands.specs.ExtendedCommands.{letters_of, named_command, polarity_command as load_polarity}
use Rattle.cam_commands.specs.ExtendedCommands.{mirror_command as load_mirroring, rotation_command as load_rotation}
use Rattle.cam_commands.specs.ExtendedCommands.{format_command, format_of_axes, format_of, unit_command}
use Rattle.cam_commands.proofs.NameLaws.{names_decide}
use Rattle.cam_gerber.specs.Statements.{Statement, Says}
use Rattle.cam_gerber.specs.Computing.{statement_said}
use Rattle.cam_writers.specs.Lengths.{mm, whole}
use Rattle.cam_writers.specs.Phrases.{Phrase, angle_of, extended, mirror_letters, mirror_of, mirroring_of, rotation_letters}
use Rattle.cam_writers.specs.Phrases.{rotation_of, said, spelled, word, UseFormat, UseMillimetres, UseArcs, UsePolarity}
use Rattle.cam_writers.specs.Phrases.{UseMirror, UseRotation, UseAperture, UseMode, EnterRegion, LeaveRegion, Finish}
use Rattle.cam_writers.proofs.Runs.{all_pass, each_of, none_left_out, none_passes}
use Rattle.cam_writers.proofs.Decimals.{decimal_run, mm_numeric, natural_again}
use Rattle.cam_units.specs.declared.turn.Turn.{Turn}
use Rattle.cam_units.specs.declared.turn.Turn.TheVariants.{R90, R180, R270, M0}
use Rattle.cam_commands.specs.declared.parts.Mode.{Mode}
use Rattle.cam_commands.specs.declared.parts.Mode.TheVariants.{Linear, Clockwise, Counterclockwise}
use Rattle.cam_commands.specs.declared.names.Name.TheVariants.{FormatSpecification, UnitMode, LoadPolarity}
use Rattle.cam_commands.specs.declared.names.Name.TheVariants.{LoadMirroring, LoadRotation}
use Rattle.cam_commands.specs.Fields.{field}
use Rattle.cam_commands.specs.Laws.{ArePartRuns}
use Rattle.cam_commands.proofs.Written.{words_say_their_parts}

-- ---- bytes

-- a byte that is printed, and neither `%` nor `*`
abbrev pub is_code : ℕ → Bool
is_code byte = nat_le 33 byte && (nat_le byte 126 && (not (byte == 37) && not (byte == 42)))

abbrev pub IsCode : List ℕ → Type 0
IsCode text = list_all is_code text ≡ true

pub record IsCodeByte (byte : ℕ) : Type 0 where
  pub skipped : is_skipped byte ≡ false
  pub ends : is_star byte ≡ false
  pub no_star : byte ≢ star
  pub no_percent : byte ≢ percent
  pub control : is_control byte ≡ false
  pub code : is_forbidden_in_code byte ≡ false
  pub plain : is_forbidden_in_plain byte ≡ false

pub code_byte : (byte : ℕ) → is_code byte ≡ true → IsCodeByte byte
code_byte byte h = grind (arith, nat_tests)

pub code_append : (xs ys : List ℕ) → IsCode xs → IsCode ys → IsCode (xs ++ ys)
code_append xs ys h k = list_all-append is_code xs ys ∙ rw (h, k) refl

pub numeric_code : (byte : ℕ) → is_numeric byte ≡ true → is_code byte ≡ true
unfolding is_numeric
numeric_code byte h = grind (arith, nat_tests)

pub run_code : (run : List ℕ) → list_all is_numeric run ≡ true → IsCode run
run_code run all = all_pass is_numeric is_code numeric_code run all

-- ---- what the cutter finds

pub packed_code : (text : List ℕ) → IsCode text → packed text ≡ text
packed_code text all = none_left_out is_code (λ b. not (is_skipped b)) (λ b h. ap not (code_byte b h).skipped) text all

no_stars : (text : List ℕ) → IsCode text → list_any is_star text ≡ false
no_stars text all = none_passes is_code is_star (λ b h. (code_byte b h).ends) text all

-- a byte of a word command, which is a comment or not
fits_words : (comment : Bool) (byte : ℕ) → is_code byte ≡ true
    → (byte ≢ star) × ((if comment then is_control else is_forbidden_in_plain) byte ≡ false)
fits_words comment byte h = grind (arith, code_byte)

-- and of an extended command, which is of free text or not
abbrev pub Fits : Bool → ℕ → Type 0
Fits free byte = (byte ≢ percent) × ((if free then is_control else is_forbidden_in_code) byte ≡ false)

pub fits_extended : (free : Bool) (byte : ℕ) → is_code byte ≡ true → Fits free byte
fits_extended free byte h = grind (arith, code_byte)

word_found : (text : List ℕ) → IsCode text → IsCommand (word text)
word_found text all = grind (arith, and_parts, code_byte, each_of, fits_words)

extended_found : (text : List ℕ) → IsCode text → IsCommand (extended text)
extended_found text all = (each_of is_code (Fits (is_free_text text)) (fits_extended (is_free_text text)) text all, tt)

-- ---- what it says

-- what a command says to the reader, wherever it stands
abbrev pub says : Command → Statement
says command = statement_said (command_of (word_of 0 command))

-- the cutter finds a command, and it says a statement
pub record Tells (command : Command) (statement : Statement) : Type 0 where
  pub means : says command ≡ statement
  pub found : IsCommand command

-- a phrase is one command of the cutting, and says its statement
abbrev pub Spells : Phrase → Type 0
Spells phrase = Tells (spelled phrase) (said phrase)

pub word_tells : (text : List ℕ) (statement : Statement) → IsCode text → begins_as_comment text ≡ false
    → statement_said (word_command text) ≡ statement → Tells (word text) statement
unfolding command_of is_comment
word_tells text statement all none e =
    let same = packed_code text all in record { means = rw (same, none, same) e; found = word_found text all }

pub extended_tells : (name : Name) (text : List ℕ) (statement : Statement) → IsCode (letters_of name) → IsCode text
    → statement_said (named_command name text) ≡ statement → Tells (extended (letters_of name ++ text)) statement
unfolding command_of
extended_tells name text statement letters all e = grind (arith, names_decide, no_stars, extended_found, code_append)

-- ---- numbers

pub whole_run : (z : ℤ) → unsigned_abs z < 2 ^ 63 → list_all is_numeric (whole z) ≡ true
unfolding is_numeric
whole_run z h = grind (arith, decimal_run)

pub decimal_code : (n : ℕ) → n < 2 ^ 64 → IsCode (decimal n)
decimal_code n h = run_code (decimal n) (decimal_run n h)

pub whole_code : (z : ℤ) → unsigned_abs z < 2 ^ 63 → IsCode (whole z)
whole_code z h = run_code (whole z) (whole_run z h)

pub mm_code : (z : ℤ) → unsigned_abs z < 10 ^ 12 → IsCode (mm z)
mm_code z h = run_code (mm z) (mm_numeric z h)

-- ---- polarity and turns

pub polarity_spells : (dark : Bool) → Spells (UsePolarity dark)
unfolding spelled load_polarity named_command
polarity_spells true = extended_tells LoadPolarity (codes "D") _ refl refl refl
polarity_spells false = extended_tells LoadPolarity (codes "C") _ refl refl refl

pub mirror_spells : (turn : Turn) → Spells (UseMirror turn)
unfolding spelled load_mirroring named_command
mirror_spells turn = by (mirror_of turn)
  where
    by : (mirror : Turn) → Tells (extended (mirror_letters mirror)) (Says (SetMirror (mirroring_of mirror)))
    by M0 = extended_tells LoadMirroring (codes "X") _ refl refl refl
    by _ = extended_tells LoadMirroring (codes "N") _ refl refl refl

pub rotation_spells : (turn : Turn) → Spells (UseRotation turn)
unfolding spelled load_rotation is_numeric unsigned_decimal value_of billionths named_command
rotation_spells turn = by (rotation_of turn)
  where
    by : (rotation : Turn) → Tells (extended (rotation_letters rotation)) (Says (SetRotation (Some (angle_of rotation))))
    by R90 = extended_tells LoadRotation (codes "90") _ refl refl refl
    by R180 = extended_tells LoadRotation (codes "180") _ refl refl refl
    by R270 = extended_tells LoadRotation (codes "270") _ refl refl refl
    by _ = extended_tells LoadRotation (codes "0") _ refl refl refl

-- ---- apertures

pub aperture_spells : (n : ℕ) → 10 ≤ n → n ≤ 2147483647 → Spells (UseAperture n)
unfolding spelled operation_of operation_code selection
aperture_spells n least greatest =
    let small : n < 2 ^ 64 = omega arith in
    let p : OperationParts = record { mode = None; x = None; y = None; i = None; j = None; d = Some (decimal n) } in
    let runs : ArePartRuns p = record { x = tt; y = tt; i = tt; j = tt; d = decimal_run n small } in
    let parts = words_say_their_parts.bare p runs refl (omega arith) in
    let no_1 : eqb n 1 ≡ false = ne_eqb n 1 (λ (e : n ≡ 1). omega (arith, e)) in
    let no_2 : eqb n 2 ≡ false = ne_eqb n 2 (λ (e : n ≡ 2). omega (arith, e)) in
    let no_3 : eqb n 3 ≡ false = ne_eqb n 3 (λ (e : n ≡ 3). omega (arith, e)) in
    word_tells (68 ∷ decimal n) _ (decimal_code n small) refl (ap statement_said parts
    ∙ rw (natural_again n small, no_1, no_2, no_3, le-ltb n 10 least, le-ltb 2147483647 n greatest) refl)

-- ---- words without numbers

pub mode_spells : (mode : Mode) → Spells (UseMode mode)
unfolding spelled word_command by_function function mode_of field natural value_of is_numeric
mode_spells Linear = word_tells (codes "G01") _ refl refl refl
mode_spells Clockwise = word_tells (codes "G02") _ refl refl refl
mode_spells Counterclockwise = word_tells (codes "G03") _ refl refl refl

pub arcs_spell : Spells UseArcs
unfolding spelled word_command by_function function mode_of lone_function field natural value_of is_numeric
arcs_spell = word_tells (codes "G75") _ refl refl refl

pub region_begun_spells : Spells EnterRegion
unfolding spelled word_command by_function function mode_of lone_function field natural value_of is_numeric
region_begun_spells = word_tells (codes "G36") _ refl refl refl

pub region_ended_spells : Spells LeaveRegion
unfolding spelled word_command by_function function mode_of lone_function field natural value_of is_numeric
region_ended_spells = word_tells (codes "G37") _ refl refl refl

pub end_spells : Spells Finish
unfolding spelled word_command program_code field natural value_of is_numeric
end_spells = word_tells (codes "M02") _ refl refl refl

-- ---- the format and the unit

pub unit_spells : Spells UseMillimetres
unfolding spelled named_command unit_command
unit_spells = extended_tells UnitMode (codes "MM") _ refl refl refl

pub format_spells : Spells UseFormat
unfolding spelled named_command format_command behind_head format_of_axes format_of field is_numeric
format_spells = extended_tells FormatSpecification (codes "LAX46Y46") _ refl refl refl
