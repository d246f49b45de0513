-- Fields that are written one after another are read back.
use Rattle.std.proofs.Common.{◌≡◌, ℕ, suc, ◌+◌, ◌<◌, List, [], ◌∷◌, ◌++◌, length, Bool, true, false, None, Some, Option}
use Rattle.std.proofs.Common.{refl, sym, ap, ◌∙◌, arith, eq-eqb, ne_eqb}
use Rattle.std.specs.Prelude.{◌||◌, ◌==◌}
use Rattle.std.specs.List.{prefix_len, list_all}
use Rattle.std.proofs.lemmas.Bool.{and_parts, or_cases, eqb-true, or_right, or_left}
use Rattle.cam_commands.specs.declared.parts.Mode.{Mode}
use Rattle.cam_numbers.specs.Numbers.{run_of, behind_run, is_numeric, natural}
use Rattle.cam_commands.specs.Fields.{field}
use Rattle.cam_commands.specs.Commands.{SetMode}
use Rattle.cam_commands.specs.WordCommands.{OperationParts, mode_of, operation, operation_of, word_command, by_function, function}
use Rattle.cam_commands.specs.Laws.{IsNumberRun, IsRunIfWritten, ArePartRuns, field_text, parts_text, WordsSayTheirParts}

-- the first byte, if there is one, passes
abbrev FirstIs : (ℕ → Bool) → List ℕ → Type 0
FirstIs p [] = Unit {0}
FirstIs p (byte ∷ text) = p byte ≡ true

-- no number holds a byte that passes
record IsBare (p : ℕ → Bool) : Type 0 where
  bare : (byte : ℕ) → p byte ≡ true → is_numeric byte ≡ false

one_more : (n : ℕ) → 1 + n ≡ suc n
one_more n = omega arith

run_front : (p : ℕ → Bool) (run rest : List ℕ) → IsBare p → FirstIs p rest → IsNumberRun run → run_of (run ++ rest) ≡ run
run_front p [] [] b f h = refl
run_front p [] (byte ∷ rest) b f h = rw (b.bare byte f) refl
run_front p (byte ∷ run) rest b f h =
    let both = and_parts (is_numeric byte) (list_all is_numeric run) h in
    rw (both.0, one_more (prefix_len is_numeric (run ++ rest))) (ap (λ r. byte ∷ r) (run_front p run rest b f both.1))

run_behind : (p : ℕ → Bool) (run rest : List ℕ) → IsBare p → FirstIs p rest → IsNumberRun run → behind_run (run ++ rest) ≡ rest
run_behind p [] [] b f h = refl
run_behind p [] (byte ∷ rest) b f h = rw (b.bare byte f) refl
run_behind p (byte ∷ run) rest b f h =
    let both = and_parts (is_numeric byte) (list_all is_numeric run) h in
    rw (both.0, one_more (prefix_len is_numeric (run ++ rest))) (run_behind p run rest b f both.1)

-- a letter that does not stand there
absent : (p : ℕ → Bool) (letter : ℕ) (rest : List ℕ) → FirstIs p rest → p letter ≡ false → field letter rest ≡ (None, rest)
unfolding field
absent p letter rest f e = grind arith

reads : (p : ℕ → Bool) (letter : ℕ) (o : Option (List ℕ)) (rest : List ℕ) → IsBare p → FirstIs p rest → p letter ≡ false
    → IsRunIfWritten o → field letter (field_text letter o ++ rest) ≡ (o, rest)
unfolding field
reads p letter o rest b f e h = grind (arith, absent, eq-eqb, run_front, run_behind)

-- one letter more in front
first_of : (p : ℕ → Bool) (letter : ℕ) (o : Option (List ℕ)) (rest : List ℕ) → FirstIs p rest
    → FirstIs (λ byte. (byte == letter) || p byte) (field_text letter o ++ rest)
first_of p letter o rest f = grind (arith, or_right, or_left, eq-eqb)

bare_more : (p : ℕ → Bool) (letter : ℕ) → is_numeric letter ≡ false → IsBare p → IsBare (λ byte. (byte == letter) || p byte)
bare_more p letter e b = grind (arith, or_cases, eqb-true)

abbrev passes_none : ℕ → Bool
passes_none byte = false

abbrev from_d : ℕ → Bool
from_d byte = (byte == 68) || passes_none byte

abbrev from_j : ℕ → Bool
from_j byte = (byte == 74) || from_d byte

abbrev from_i : ℕ → Bool
from_i byte = (byte == 73) || from_j byte

abbrev from_y : ℕ → Bool
from_y byte = (byte == 89) || from_i byte

abbrev from_x : ℕ → Bool
from_x byte = (byte == 88) || from_y byte

bare_none : IsBare passes_none
bare_none = record { bare = λ byte h. absurd cc }

bare_d : IsBare from_d
unfolding is_numeric
bare_d = bare_more passes_none 68 refl bare_none

bare_j : IsBare from_j
unfolding is_numeric
bare_j = bare_more from_d 74 refl bare_d

bare_i : IsBare from_i
unfolding is_numeric
bare_i = bare_more from_j 73 refl bare_j

bare_y : IsBare from_y
unfolding is_numeric
bare_y = bare_more from_i 89 refl bare_i

bare_x : IsBare from_x
unfolding is_numeric
bare_x = bare_more from_y 88 refl bare_y

-- the texts behind X, Y, I and J
abbrev behind_j : OperationParts → List ℕ
behind_j p = field_text 68 p.d

abbrev behind_i : OperationParts → List ℕ
behind_i p = field_text 74 p.j ++ behind_j p

abbrev behind_y : OperationParts → List ℕ
behind_y p = field_text 73 p.i ++ behind_i p

abbrev behind_x : OperationParts → List ℕ
behind_x p = field_text 89 p.y ++ behind_y p

first_d : (o : Option (List ℕ)) → FirstIs from_d (field_text 68 o)
first_d o = grind arith

first_j : (p : OperationParts) → FirstIs from_j (behind_i p)
first_j p = first_of from_d 74 p.j (behind_j p) (first_d p.d)

first_i : (p : OperationParts) → FirstIs from_i (behind_y p)
first_i p = first_of from_j 73 p.i (behind_i p) (first_j p)

first_y : (p : OperationParts) → FirstIs from_y (behind_x p)
first_y p = first_of from_i 89 p.y (behind_y p) (first_i p)

first_x : (p : OperationParts) → FirstIs from_x (parts_text p)
first_x p = first_of from_y 88 p.x (behind_x p) (first_y p)

nothing_more : (text : List ℕ) → text ++ [] ≡ text
nothing_more [] = refl
nothing_more (byte ∷ text) = ap (λ t. byte ∷ t) (nothing_more text)

read_d : (o : Option (List ℕ)) → IsRunIfWritten o → field 68 (field_text 68 o) ≡ (o, [])
read_d o h = ap (field 68) (sym (nothing_more (field_text 68 o))) ∙ reads passes_none 68 o [] bare_none tt refl h

pub operation_said : (p : OperationParts) → ArePartRuns p → operation p.mode (parts_text p) ≡ operation_of p
unfolding operation
operation_said p h =
    let x = reads from_y 88 p.x (behind_x p) bare_y (first_y p) refl h.x in
    let y = reads from_i 89 p.y (behind_y p) bare_i (first_i p) refl h.y in
    let i = reads from_j 73 p.i (behind_i p) bare_j (first_j p) refl h.i in
    let j = reads from_d 74 p.j (behind_j p) bare_d (first_d p.d) refl h.j in
    let d = read_d p.d h.d in
    rw (x, y, i, j, d) refl

some_length : (text : List ℕ) → 0 < length text → (length text == 0) ≡ false
some_length text h = ne_eqb (length text) 0 (λ e. absurd (omega (arith, e)))

bare_said : (p : OperationParts) → ArePartRuns p → p.mode ≡ None → 0 < length (parts_text p) → word_command (parts_text p) ≡ operation_of p
unfolding word_command by_function
bare_said p h none some = grind (arith, absent, first_x, some_length, operation_said)

no_m : (text : List ℕ) → field 77 (71 ∷ text) ≡ (None, 71 ∷ text)
unfolding field
no_m text = refl

behind_said : (p : OperationParts) (run : List ℕ) (code : ℕ) (mode : Mode) → ArePartRuns p → IsNumberRun run → natural run ≡ Some code
    → mode_of code ≡ Some mode → p.mode ≡ Some mode
    → 0 < length (parts_text p) → word_command (71 ∷ run ++ parts_text p) ≡ operation_of p
unfolding word_command by_function function
behind_said p run code mode h is n m same some =
    let some_byte : (length (71 ∷ run ++ parts_text p) == 0) ≡ false = some_length (71 ∷ run ++ parts_text p) (omega arith) in
    let g = reads from_x 71 (Some run) (parts_text p) bare_x (first_x p) refl is in
    rw (no_m (run ++ parts_text p), some_byte, g, n, m, some_length (parts_text p) some)
    (ap (λ mode. operation mode (parts_text p)) (sym same) ∙ operation_said p h)

alone_said : (run : List ℕ) (code : ℕ) (mode : Mode) → IsNumberRun run → natural run ≡ Some code → mode_of code ≡ Some mode
    → word_command (71 ∷ run) ≡ SetMode mode
unfolding word_command by_function function
alone_said run code mode is n m =
    let some_byte : (length (71 ∷ run) == 0) ≡ false = some_length (71 ∷ run) (omega arith) in
    let g : field 71 (71 ∷ run) ≡ (Some run, []) = ap (λ r. field 71 (71 ∷ r)) (sym (nothing_more run))
    ∙ reads passes_none 71 (Some run) [] bare_none tt refl is in
    rw (no_m run, some_byte, g, n, m) refl

pub words_say_their_parts : WordsSayTheirParts
words_say_their_parts = record { bare = bare_said; behind_mode = behind_said; mode_alone = alone_said }
