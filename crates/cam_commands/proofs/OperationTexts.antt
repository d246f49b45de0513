-- A word that says an operation is written from its parts.
use Rattle.std.proofs.Common.{◌≡◌, ℕ, suc, subst, ◌+◌, List, [], ◌∷◌, ◌++◌, length, Bool, true, false, None, Some}
use Rattle.std.proofs.Common.{Option, refl, ap, ◌∙◌, arith, cond}
use Rattle.std.specs.Prelude.{◌==◌}
use Rattle.std.specs.List.{prefix_len}
use Rattle.std.proofs.lemmas.Bool.{eqb-true}
use Rattle.std.proofs.lemmas.List.{take-append-drop, nil_from_length}
use Rattle.std.specs.Option.{option_and_then}
use Rattle.cam_units.specs.declared.length.Unit.{Unit as FileUnit}
use Rattle.cam_commands.specs.declared.parts.Style.TheVariants.{Word}
use Rattle.cam_commands.specs.declared.parts.Mode.{Mode}
use Rattle.cam_commands.specs.declared.parts.Operation.{Operation}
use Rattle.cam_numbers.specs.Numbers.{run_of, is_numeric, natural}
use Rattle.cam_commands.specs.Fields.{field}
use Rattle.cam_commands.specs.Commands.{Command, SetUnit, RefusedOld, SetMode, SingleQuadrant, MultiQuadrant}
use Rattle.cam_commands.specs.Commands.{BeginRegion, EndRegion, Nothing, Select, Operate, End, Unknown}
use Rattle.cam_commands.specs.WordCommands.{OperationParts, mode_of, selection, operation, operation_of, prefixed_selection}
use Rattle.cam_commands.specs.WordCommands.{lone_function, program_code, word_command, by_function, function, by_run}
use Rattle.cam_commands.specs.WordCommands.{by_code, by_mode}
use Rattle.cam_commands.specs.Laws.{IsNumberRun, IsRunIfWritten, ArePartRuns, field_text, parts_text, IsWrittenFrom, OperationsAreWritten}

one_more : (n : ℕ) → 1 + n ≡ suc n
one_more n = omega arith

run_is_numeric : (text : List ℕ) → IsNumberRun (run_of text)
run_is_numeric [] = refl
run_is_numeric (byte ∷ text) =
    (elim (is_numeric byte) as (λ b. is_numeric byte ≡ b → IsNumberRun (run_of (byte ∷ text))) [
      | true ↦ λ e. rw (e, one_more (prefix_len is_numeric text), e) (run_is_numeric text)
      | false ↦ λ e. rw e refl
    ]) refl

-- what a field is read from
pub record IsRead (letter : ℕ) (text : List ℕ) (read : Option (List ℕ) × List ℕ) : Type 0 where
  pub text_is : text ≡ field_text letter read.0 ++ read.1
  pub run : IsRunIfWritten read.0

is_read : (letter : ℕ) (text : List ℕ) → IsRead letter text (field letter text)
unfolding field
is_read letter text = grind (arith, eqb-true, take-append-drop, run_is_numeric)

abbrev x_in : List ℕ → Option (List ℕ) × List ℕ
x_in text = field 88 text

abbrev y_in : List ℕ → Option (List ℕ) × List ℕ
y_in text = field 89 (x_in text).1

abbrev i_in : List ℕ → Option (List ℕ) × List ℕ
i_in text = field 73 (y_in text).1

abbrev j_in : List ℕ → Option (List ℕ) × List ℕ
j_in text = field 74 (i_in text).1

abbrev d_in : List ℕ → Option (List ℕ) × List ℕ
d_in text = field 68 (j_in text).1

abbrev parts_in : Option Mode → List ℕ → OperationParts
parts_in mode text = record { mode = mode; x = (x_in text).0; y = (y_in text).0; i = (i_in text).0; j = (j_in text).0; d = (d_in text).0 }

runs_in : (mode : Option Mode) (text : List ℕ) → ArePartRuns (parts_in mode text)
runs_in mode text = record {
  x = (is_read 88 text).run;
  y = (is_read 89 (x_in text).1).run;
  i = (is_read 73 (y_in text).1).run;
  j = (is_read 74 (i_in text).1).run;
  d = (is_read 68 (j_in text).1).run;
}

nothing_more : (text : List ℕ) → text ++ [] ≡ text
nothing_more [] = refl
nothing_more (byte ∷ text) = ap (λ t. byte ∷ t) (nothing_more text)

text_in : (mode : Option Mode) (text : List ℕ) → (length (d_in text).1 == 0) ≡ true → text ≡ parts_text (parts_in mode text)
text_in mode text e =
    let none : (d_in text).1 ≡ [] = nil_from_length (d_in text).1 (eqb-true (length (d_in text).1) 0 e) in
    let d : (j_in text).1 ≡ field_text 68 (d_in text).0 = (is_read 68 (j_in text).1).text_is
    ∙ ap (λ (t : List ℕ). field_text 68 (d_in text).0 ++ t) none ∙ nothing_more (field_text 68 (d_in text).0) in
    let j : (i_in text).1 ≡ field_text 74 (j_in text).0 ++ field_text 68 (d_in text).0 = (is_read 74 (i_in text).1).text_is
    ∙ ap (λ (t : List ℕ). field_text 74 (j_in text).0 ++ t) d in
    let i : (y_in text).1 ≡ field_text 73 (i_in text).0 ++ (field_text 74 (j_in text).0 ++ field_text 68 (d_in text).0) =
    (is_read 73 (y_in text).1).text_is ∙ ap (λ (t : List ℕ). field_text 73 (i_in text).0 ++ t) j in
    let y : (x_in text).1 ≡ field_text 89 (y_in text).0
    ++ (field_text 73 (i_in text).0 ++ (field_text 74 (j_in text).0 ++ field_text 68 (d_in text).0)) =
    (is_read 89 (x_in text).1).text_is ∙ ap (λ (t : List ℕ). field_text 89 (y_in text).0 ++ t) i in
    (is_read 88 text).text_is ∙ ap (λ (t : List ℕ). field_text 88 (x_in text).0 ++ t) y

-- a command that is no operation
record IsNone (command : Command) : Type 0 where
  none : (o : Operation) → command ≡ Operate o → ⊥

nothing_none : IsNone Nothing
nothing_none = record { none = λ o e. absurd cc }

unknown_none : IsNone Unknown
unknown_none = record { none = λ o e. absurd cc }

end_none : IsNone End
end_none = record { none = λ o e. absurd cc }

refused_none : IsNone (RefusedOld Word)
refused_none = record { none = λ o e. absurd cc }

mode_none : (mode : Mode) → IsNone (SetMode mode)
mode_none mode = record { none = λ o e. absurd cc }

select_none : (n : Option ℕ) → IsNone (Select n)
select_none n = record { none = λ o e. absurd cc }

unit_none : (unit : FileUnit) → IsNone (SetUnit unit Word)
unit_none unit = record { none = λ o e. absurd cc }

single_none : IsNone SingleQuadrant
single_none = record { none = λ o e. absurd cc }

multi_none : IsNone MultiQuadrant
multi_none = record { none = λ o e. absurd cc }

begin_none : IsNone BeginRegion
begin_none = record { none = λ o e. absurd cc }

close_none : IsNone EndRegion
close_none = record { none = λ o e. absurd cc }

either : (b : Bool) (x y : Command) → IsNone x → IsNone y → IsNone (cond b x y)
either b x y h k = grind arith

coded : (code : Option ℕ) (meaning : ℕ → Command) → ((n : ℕ) → IsNone (meaning n)) → IsNone (by_code code meaning)
coded code meaning h = grind (arith, unknown_none)

program_none : (code : ℕ) → IsNone (program_code code)
unfolding program_code
program_none code = search (either, end_none, refused_none, unknown_none)

selection_none : (code : ℕ) → IsNone (selection code)
unfolding selection
selection_none code = search (either, select_none, unknown_none)

prefixed_none : (text : List ℕ) → IsNone (prefixed_selection text)
unfolding prefixed_selection
prefixed_none text = search (either, coded, selection_none, unknown_none)

lone_none : (code : ℕ) → IsNone (lone_function code)
unfolding lone_function
lone_none code = grind (arith, either, begin_none, close_none, unit_none, single_none, multi_none)

-- what follows from a command that is an operation, by the cases of the command
from_if : (b : Bool) (x y : Command) (o : Operation) (Goal : Type 0) → (b ≡ true → x ≡ Operate o → Goal)
    → (b ≡ false → y ≡ Operate o → Goal) → cond b x y ≡ Operate o → Goal
from_if b x y o Goal h k e = grind arith

from_run : (run : Option (List ℕ)) (meaning : List ℕ → Command) (otherwise : Command) (o : Operation) (Goal : Type 0)
    → ((r : List ℕ) → run ≡ Some r → meaning r ≡ Operate o → Goal) → (run ≡ None → otherwise ≡ Operate o → Goal)
    → by_run run meaning otherwise ≡ Operate o → Goal
from_run run meaning otherwise o Goal h k e = grind arith

from_code : (code : Option ℕ) (meaning : ℕ → Command) (o : Operation) (Goal : Type 0)
    → ((n : ℕ) → code ≡ Some n → meaning n ≡ Operate o → Goal) → by_code code meaning ≡ Operate o → Goal
from_code code meaning o Goal h e = grind (arith, unknown_none)

from_mode : (mode : Option Mode) (rest : List ℕ) (otherwise : Command) (o : Operation) (Goal : Type 0)
    → ((m : Mode) → mode ≡ Some m → cond (length rest == 0) (SetMode m) (operation (Some m) rest) ≡ Operate o → Goal)
    → (otherwise ≡ Operate o → Goal) → by_mode mode rest otherwise ≡ Operate o → Goal
from_mode mode rest otherwise o Goal h k e = grind arith

abbrev IsWritten : List ℕ → Operation → Type 0
IsWritten text o = (p : OperationParts) × (prefix : Option (List ℕ)) × IsWrittenFrom text p prefix × (operation_of p ≡ Operate o)

-- an operation behind a prefix
behind : (mode : Option Mode) (text rest : List ℕ) (prefix : Option (List ℕ)) (o : Operation) → IsRunIfWritten prefix
    → mode ≡ option_and_then (λ run. option_and_then mode_of (natural run)) prefix
    → text ≡ field_text 71 prefix ++ rest → operation mode rest ≡ Operate o → IsWritten text o
unfolding operation
behind mode text rest prefix o run is whole e =
    from_if (length (d_in rest).1 == 0) (operation_of (parts_in mode rest)) Unknown o (IsWritten text o)
    (λ ends said. (
      parts_in mode rest,
      prefix,
      record {
        runs = runs_in mode rest;
        prefix_run = run;
        mode_is = is;
        text_is = whole
            ∙ ap (λ (t : List ℕ). field_text 71 prefix ++ t) (text_in mode rest ends);
      },
      said,
    ))
    (λ goes_on said. absurd (unknown_none.none o said)) e

-- behind the G code that was read
behind_code : (text : List ℕ) (o : Operation) (run : List ℕ) (code : ℕ) → (field 71 text).0 ≡ Some run → natural run ≡ Some code
    → function (field 71 text).1 code ≡ Operate o → IsWritten text o
unfolding function
behind_code text o run code is n e =
    let read : IsRead 71 text (field 71 text) = is_read 71 text in
    let written : IsRunIfWritten (Some run) = subst IsRunIfWritten is read.run in
    let whole : text ≡ field_text 71 (Some run) ++ (field 71 text).1 = read.text_is
    ∙ ap (λ (r : Option (List ℕ)). field_text 71 r ++ (field 71 text).1) is in
    from_mode (mode_of code) (field 71 text).1 _ o (IsWritten text o)
    (λ mode m said.
    from_if (length (field 71 text).1 == 0) (SetMode mode) (operation (Some mode) (field 71 text).1) o (IsWritten text o)
    (λ ends lone. absurd ((mode_none mode).none o lone))
    (λ goes_on operates. behind (Some mode) text (field 71 text).1 (Some run) o written (rw (n, m) refl) whole operates) said)
    (λ said. absurd
    ((either (code == 54) _ _ (prefixed_none (field 71 text).1)
    (either (length (field 71 text).1 == 0) _ _ (lone_none code) unknown_none)).none o said)) e

by_g : (text : List ℕ) (o : Operation) → by_function (field 71 text) text ≡ Operate o → IsWritten text o
unfolding by_function
by_g text o e =
    from_run (field 71 text).0 (λ run. by_code (natural run) (function (field 71 text).1)) (operation None text) o (IsWritten text o)
    (λ run is said. from_code (natural run) (function (field 71 text).1) o (IsWritten text o)
    (λ code n operates. behind_code text o run code is n operates) said)
    (λ none said. behind None text text None o tt refl refl said) e

pub operations_are_written : OperationsAreWritten
unfolding word_command
operations_are_written text o e =
    from_if (length text == 0) Nothing _ o (IsWritten text o) (λ empty said. absurd (nothing_none.none o said))
    (λ some said.
    from_run (field 77 text).0 (λ run. cond (length (field 77 text).1 == 0) (by_code (natural run) program_code) Unknown)
    (by_function (field 71 text) text) o (IsWritten text o)
    (λ run is ends.
    absurd ((either (length (field 77 text).1 == 0) _ _ (coded (natural run) program_code program_none) unknown_none).none o ends))
    (λ none operates. by_g text o operates) said) e
