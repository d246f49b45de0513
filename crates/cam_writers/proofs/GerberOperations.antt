-- How operations, blocks and repeats are spelled.
use Rattle.std.proofs.Common.{◌≡◌, ℕ, suc, ◌^◌, ◌<◌, ◌≤◌, List, [], ◌∷◌, ◌++◌, length, Option, None, Some, refl, sym, ap, subst}
use Rattle.std.proofs.Common.{◌∙◌, arith, append_assoc, append-nil, codes, decimal, true, false, eqb, eq-eqb, ne_eqb}
use Rattle.std.specs.Prelude.{ℤ, pos, negsuc, ◌-ℤ◌, unsigned_abs}
use Rattle.std.proofs.lemmas.Int.{ints}
use Rattle.std.proofs.lemmas.Bool.{le-ltb}
use Rattle.std.proofs.lemmas.Fmt.{decimal_nonempty, length-decimal-le}
use Rattle.std.specs.List.{list_all}
use Rattle.cam_units.specs.declared.point.Point.{Point}
use Rattle.cam_units.specs.Board.{IsOnBoard}
use Rattle.cam_numbers.specs.Numbers.{is_numeric, natural, natural_within, value_of, integer, defined_number}
use Rattle.cam_commands.specs.declared.parts.Slot.TheVariants.{Omitted}
use Rattle.cam_commands.specs.declared.parts.OperationCode.{OperationCode}
use Rattle.cam_commands.specs.declared.parts.OperationCode.TheVariants.{Plot, Move, Flash}
use Rattle.cam_commands.specs.WordCommands.{OperationParts, operation_code, operation_of}
use Rattle.cam_commands.specs.Laws.{IsNumberRun, ArePartRuns, parts_text}
use Rattle.cam_commands.proofs.Written.{words_say_their_parts}
use Rattle.cam_gerber.specs.Computing.{statement_said}
use Rattle.cam_writers.specs.Lengths.{whole, mm, scaled}
use Rattle.cam_writers.specs.Phrases.{ArcTo, FlashAt, LineTo, MoveTo, coordinates, offsets, operation_to, said}
use Rattle.cam_writers.specs.Phrases.{spelled, word, EnterBlock, EnterRepeat, LeaveBlock, LeaveRepeat}
use Rattle.cam_writers.proofs.Decimals.{IsUnsigned, unsigned, signed_without, signed_minus, digits_of_decimal}
use Rattle.cam_writers.proofs.Decimals.{decimal_run, natural_again, mm_again, mm_numeric}
use Rattle.cam_writers.proofs.GerberSayings.{IsCode, Spells, Tells, code_append, whole_code, whole_run, word_tells}
use Rattle.cam_writers.proofs.GerberSayings.{extended_tells, packed_code, decimal_code, mm_code}
use Rattle.cam_commands.specs.declared.names.Name.TheVariants.{ApertureBlock, StepAndRepeat}
use Rattle.cam_commands.specs.Fields.{field}
use Rattle.cam_commands.specs.Numbers.{count}
use Rattle.cam_commands.specs.Commands.{OpenBlock}
use Rattle.cam_commands.specs.ExtendedCommands.{named_command, block_command, repeat_command}
use Rattle.cam_writers.proofs.Runs.{Stops, run_read, run_left, run_alone_read, run_alone_left}
use Rattle.cam_numbers.specs.Numbers as numbers

-- ---- coordinates

within_again : (n : ℕ) → n < 10 ^ 15 → natural_within 15 (decimal n) ≡ Some n
unfolding natural_within
within_again n h =
    let few : length (decimal n) ≤ 15 = length-decimal-le 15 n (omega arith) h (omega arith) in
    rw (le-ltb 15 (length (decimal n)) few) (natural_again n (omega arith))

unsigned_digits : (n : ℕ) → n < 2 ^ 64 → IsUnsigned (decimal n)
unsigned_digits n h =
    subst IsUnsigned (append-nil (decimal n)) (unsigned (decimal n) [] (digits_of_decimal n h) (decimal_nonempty n h))

pub integer_again : (z : ℤ) → unsigned_abs z < 10 ^ 15 → integer (whole z) ≡ Some z
integer_again (pos n) h =
    signed_without (natural_within 15) (decimal n) n (unsigned_digits n (omega arith)) (within_again n h)
integer_again (negsuc n) h = signed_minus (natural_within 15) (decimal (suc n)) (suc n) (within_again (suc n) h)

-- ---- operations by their parts

-- a point, and the runs behind I, J and D
abbrev parts_to : Point → Option (List ℕ) → Option (List ℕ) → List ℕ → OperationParts
parts_to to across up code = record {
  mode = None;
  x = Some (whole to.x);
  y = Some (whole to.y);
  i = across;
  j = up;
  d = Some code;
}

coordinates_are : (to : Point) (rest : List ℕ) → coordinates to ++ rest ≡ 88 ∷ (whole to.x ++ 89 ∷ (whole to.y ++ rest))
unfolding coordinates
coordinates_are to rest = ap (λ (t : List ℕ). 88 ∷ t) (append_assoc (whole to.x) (89 ∷ whole to.y) rest)

offsets_are : (start centre : Point) (rest : List ℕ)
    → offsets start centre ++ rest ≡ 73 ∷ (whole (centre.x -ℤ start.x) ++ 74 ∷ (whole (centre.y -ℤ start.y) ++ rest))
unfolding offsets
offsets_are start centre rest = grind (arith, append_assoc)

point_code : (x y : ℤ) (first second : ℕ) (rest : List ℕ) → unsigned_abs x < 2 ^ 63 → unsigned_abs y < 2 ^ 63
    → IsCode (first ∷ []) → IsCode (second ∷ []) → IsCode rest
    → IsCode (first ∷ (whole x ++ second ∷ (whole y ++ rest)))
point_code x y first second rest hx hy one two others = grind (arith, code_append, whole_code)

-- ---- moves, flashes and lines

plain_tells : (to : Point) (code : List ℕ) (n : ℕ) (named : OperationCode) → IsOnBoard to → IsNumberRun code
    → IsCode (68 ∷ code) → natural code ≡ Some n → operation_code n ≡ Some named
    → Tells (word (coordinates to ++ 68 ∷ code)) (operation_to to Omitted Omitted named)
unfolding operation_of
plain_tells to code n named on run good is e =
    let p : OperationParts = parts_to to None None code in
    let runs : ArePartRuns p = record {
      x = whole_run to.x (omega (arith, on.x));
      y = whole_run to.y (omega (arith, on.y));
      i = tt;
      j = tt;
      d = run;
    } in
    let all = point_code to.x to.y 88 89 (68 ∷ code) (omega (arith, on.x)) (omega (arith, on.y)) refl refl good in
    let ex = integer_again to.x (omega (arith, on.x)) in
    let ey = integer_again to.y (omega (arith, on.y)) in
    subst (λ (t : List ℕ). Tells (word t) (operation_to to Omitted Omitted named)) (sym (coordinates_are to (68 ∷ code)))
    (word_tells (parts_text p) _ all refl
    (ap statement_said (words_say_their_parts.bare p runs refl (omega arith)) ∙ rw (is, e, ex, ey) refl))

pub move_spells : (to : Point) → IsOnBoard to → Spells (MoveTo to)
unfolding spelled operation_code natural value_of is_numeric
move_spells to on = plain_tells to (codes "02") 2 Move on refl refl refl refl

pub flash_spells : (at : Point) → IsOnBoard at → Spells (FlashAt at)
unfolding spelled operation_code natural value_of is_numeric
flash_spells at on = plain_tells at (codes "03") 3 Flash on refl refl refl refl

pub line_spells : (to : Point) → IsOnBoard to → Spells (LineTo to)
unfolding spelled operation_code natural value_of is_numeric
line_spells to on = plain_tells to (codes "01") 1 Plot on refl refl refl refl

-- ---- arcs

short_offset : (from to : ℤ) → unsigned_abs from < 1000000000 → unsigned_abs to < 1000000000
    → unsigned_abs (to -ℤ from) < 2000000000
short_offset from to h k = omega (arith, ints)

-- the offsets of an arc are short
record HasOffsets (start centre : Point) : Type 0 where
  across : unsigned_abs (centre.x -ℤ start.x) < 2000000000
  up : unsigned_abs (centre.y -ℤ start.y) < 2000000000

short_offsets : (start centre : Point) → IsOnBoard start → IsOnBoard centre → HasOffsets start centre
short_offsets start centre from about = grind (arith, short_offset)

abbrev arc_parts : Point → Point → Point → OperationParts
arc_parts start to centre =
    parts_to to (Some (whole (centre.x -ℤ start.x))) (Some (whole (centre.y -ℤ start.y))) (codes "01")

arc_text : (start to centre : Point)
    → coordinates to ++ (offsets start centre ++ codes "D01") ≡ parts_text (arc_parts start to centre)
arc_text start to centre = grind (arith, coordinates_are, offsets_are)

arc_code : (start to centre : Point) → IsOnBoard to → HasOffsets start centre
    → IsCode (parts_text (arc_parts start to centre))
arc_code start to centre on short =
    point_code to.x to.y 88 89
    (73 ∷ (whole (centre.x -ℤ start.x) ++ 74 ∷ (whole (centre.y -ℤ start.y) ++ codes "D01")))
    (omega (arith, on.x)) (omega (arith, on.y)) refl refl
    (point_code (centre.x -ℤ start.x) (centre.y -ℤ start.y) 73 74 (codes "D01") (omega (arith, short.across))
    (omega (arith, short.up)) refl refl refl)

arc_runs : (start to centre : Point) → IsOnBoard to → HasOffsets start centre → ArePartRuns (arc_parts start to centre)
unfolding is_numeric
arc_runs start to centre on short = grind (arith, whole_run)

arc_said : (start to centre : Point) → IsOnBoard to → HasOffsets start centre
    → statement_said (operation_of (arc_parts start to centre)) ≡ said (ArcTo start to centre)
unfolding operation_of operation_code natural value_of
arc_said start to centre on short = grind (arith, integer_again)

pub arc_spells : (start to centre : Point) → IsOnBoard start → IsOnBoard to → IsOnBoard centre → Spells (ArcTo start to centre)
unfolding spelled
arc_spells start to centre from on about =
    let short = short_offsets start centre from about in
    let parts = words_say_their_parts.bare (arc_parts start to centre) (arc_runs start to centre on short) refl (omega arith) in
    subst (λ (t : List ℕ). Tells (word t) (said (ArcTo start to centre))) (sym (arc_text start to centre))
    (word_tells (parts_text (arc_parts start to centre)) _ (arc_code start to centre on short) refl
    (ap statement_said parts ∙ arc_said start to centre on short))

-- ---- fields

field_read : (letter : ℕ) (run rest : List ℕ) → list_all is_numeric run ≡ true → Stops is_numeric rest
    → field letter (letter ∷ (run ++ rest)) ≡ (Some run, rest)
unfolding field
field_read letter run rest all stops = grind (arith, eq-eqb, run_read, run_left)

field_alone : (letter : ℕ) (run : List ℕ) → list_all is_numeric run ≡ true
    → field letter (letter ∷ run) ≡ (Some run, [])
unfolding field
field_alone letter run all = rw (eq-eqb letter letter refl, run_alone_read is_numeric run all, run_alone_left is_numeric run all) refl

-- ---- numbers

pub defined_again : (n : ℕ) → 10 ≤ n → n ≤ 2147483647 → defined_number (decimal n) ≡ Some n
defined_again n least greatest = grind (arith, natural_again, le-ltb)

count_again : (n : ℕ) → 0 < n → n ≤ 999999999 → count (decimal n) ≡ Some n
unfolding count natural_within
count_again n some few =
    let short : length (decimal n) ≤ 9 = length-decimal-le 9 n (omega arith) (omega arith) (omega arith) in
    let e : eqb n 0 ≡ false = ne_eqb n 0 (λ (z : n ≡ 0). omega (arith, some)) in
    rw (le-ltb 9 (length (decimal n)) short, natural_again n (omega arith), e) refl

step_again : (z : ℤ) → unsigned_abs z < 1000000000 → numbers.decimal (mm z) ≡ Some (scaled z)
step_again z h = mm_again z (omega arith)

-- ---- blocks

block_begun : (n : ℕ) → 10 ≤ n → n ≤ 2147483647 → block_command (68 ∷ decimal n) ≡ OpenBlock (Some n)
unfolding block_command
block_begun n least greatest = grind (arith, field_alone, decimal_run, defined_again)

pub block_begun_spells : (n : ℕ) → 10 ≤ n → n ≤ 2147483647 → Spells (EnterBlock n)
unfolding spelled named_command
block_begun_spells n least greatest =
    let code = decimal_code n (omega arith) in
    extended_tells ApertureBlock (68 ∷ decimal n) _ refl code
    (rw (packed_code (68 ∷ decimal n) code, block_begun n least greatest) refl)

pub block_ended_spells : Spells LeaveBlock
unfolding spelled named_command block_command
block_ended_spells = extended_tells ApertureBlock [] _ refl refl refl

-- ---- repeats

-- what a repeat may have
pub record IsWritableRepeat (columns rows : ℕ) (i j : ℤ) : Type 0 where
  pub some_columns : 0 < columns
  pub few_columns : columns ≤ 999999999
  pub some_rows : 0 < rows
  pub few_rows : rows ≤ 999999999
  pub across : unsigned_abs i < 1000000000
  pub up : unsigned_abs j < 1000000000

-- behind `SR`
abbrev repeat_text : ℕ → ℕ → ℤ → ℤ → List ℕ
repeat_text columns rows i j = 88 ∷ (decimal columns ++ 89 ∷ (decimal rows ++ 73 ∷ (mm i ++ 74 ∷ mm j)))

repeat_begun : (columns rows : ℕ) (i j : ℤ) → IsWritableRepeat columns rows i j
    → statement_said (repeat_command (repeat_text columns rows i j)) ≡ said (EnterRepeat columns rows i j)
unfolding repeat_command is_numeric
repeat_begun columns rows i j h = grind (arith, field_read, decimal_run, mm_numeric, field_alone, count_again, step_again)

repeat_code : (columns rows : ℕ) (i j : ℤ) → IsWritableRepeat columns rows i j → IsCode (repeat_text columns rows i j)
repeat_code columns rows i j h = grind (arith, code_append, decimal_code, mm_code)

pub repeat_begun_spells : (columns rows : ℕ) (i j : ℤ) → IsWritableRepeat columns rows i j
    → Spells (EnterRepeat columns rows i j)
unfolding spelled named_command
repeat_begun_spells columns rows i j h =
    let code = repeat_code columns rows i j h in
    extended_tells StepAndRepeat (repeat_text columns rows i j) _ refl code
    (rw (packed_code (repeat_text columns rows i j) code) (repeat_begun columns rows i j h))

pub repeat_ended_spells : Spells LeaveRepeat
unfolding spelled named_command repeat_command field
repeat_ended_spells = extended_tells StepAndRepeat [] _ refl refl refl
