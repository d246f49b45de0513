-- The tools that lines declare have numbers from 1 to 9,999.
use Rattle.std.proofs.Common.{ℕ, ◌≤◌, List, [], ◌∷◌, Bool, true, false, cond, eqb, ltb, Option, Some, None, arith}
use Rattle.std.specs.Prelude.{IfSome}
use Rattle.std.specs.List.{AllByRecursion}
use Rattle.std.specs.Str.{bytes_eq}
use Rattle.std.proofs.lemmas.Bool.{ltb-false}
use Rattle.std.proofs.lemmas.Bool.Decides.{eqb_tells}
use Rattle.cam_xnc.specs.declared.statement.Coordinate.{Coordinate}
use Rattle.cam_xnc.specs.declared.statement.Statement.{Statement}
use Rattle.cam_xnc.specs.declared.statement.Statement.TheVariants.{Declare, Neutral, DrillMode, RoutTo, Lower}
use Rattle.cam_xnc.specs.declared.statement.Statement.TheVariants.{CutTo, Raise, CutArc, End, Unknown}
use Rattle.cam_numbers.specs.Numbers.{run_of, behind_run, decimal}
use Rattle.cam_xnc.specs.Numbers.{declared_tool}
use Rattle.cam_xnc.specs.Syntax.{with_coordinates, slot_between, slot_statement, hit_or, tool_by}
use Rattle.cam_xnc.specs.Syntax.{tool_statement, header_words, body_words, word_in, word_or, rout_statement, other_statement, statement_of}

abbrev pub IsToolNumber : ℕ → Type 0
IsToolNumber n = (1 ≤ n) × (n ≤ 9999)

abbrev pub HasToolNumber : Statement → Type 0
HasToolNumber (Declare number diameter) = IfSome number IsToolNumber
HasToolNumber _ = Unit {0}

record IsNumbered (says : Statement) : Type 0 where
  pub number : HasToolNumber says

either : (b : Bool) (x y : Statement) → IsNumbered x → IsNumbered y → IsNumbered (cond b x y)
either b x y h k = grind arith

unknown : IsNumbered Unknown
unknown = record { number = tt }

arc : IsNumbered CutArc
arc = record { number = tt }

placed : (says : Coordinate → Coordinate → Statement) (o : Option (Coordinate × Coordinate))
    → ((x y : Coordinate) → IsNumbered (says x y)) → IsNumbered (with_coordinates says o)
placed says o h = grind (arith, unknown)

hit_or_other : (o : Option (Coordinate × Coordinate)) (other : Statement) → IsNumbered other → IsNumbered (hit_or o other)
hit_or_other o other h = grind arith

between : (start end : Option (Coordinate × Coordinate)) → IsNumbered (slot_between start end)
between start end = grind (arith, unknown)

slots : (text : List ℕ) → IsNumbered (slot_statement text)
unfolding slot_statement
slots text = either _ _ Unknown (between _ _) unknown

starts : (x y : Coordinate) → IsNumbered (RoutTo x y)
starts x y = record { number = tt }

cuts : (x y : Coordinate) → IsNumbered (CutTo x y)
cuts x y = record { number = tt }

small : (n : ℕ) → IfSome (cond {A = Option ℕ} (eqb n 0) None (cond (ltb 9999 n) None (Some n))) IsToolNumber
small n = grind (arith, eqb_tells, ltb-false)

declared_small : (run : List ℕ) → IfSome (declared_tool run) IsToolNumber
declared_small run = grind (arith, small)

declares : (number size : List ℕ) → IsNumbered (Declare (declared_tool number) (decimal size))
declares number size = record { number = declared_small number }

tools : (number behind : List ℕ) → IsNumbered (tool_by number behind)
unfolding tool_by
tools number behind = grind (arith, either, declares, unknown)

words_numbered : (words : List (List ℕ × Statement)) (text : List ℕ) (otherwise : Statement)
    → AllByRecursion (λ word. IsNumbered word.1) words → IsNumbered otherwise → IsNumbered (word_or (word_in words text) otherwise)
words_numbered [] text otherwise all other = other
words_numbered (word ∷ words) text otherwise all other =
    elim (bytes_eq text word.0) as (λ b. IsNumbered (word_or (cond b (Some word.1) (word_in words text)) otherwise)) [
      | true ↦ all.0
      | false ↦ words_numbered words text otherwise all.1 other
    ]

plain : (says : Statement) → HasToolNumber says → IsNumbered says
plain says h = record { number = h }

routs : (text : List ℕ) → IsNumbered (rout_statement text)
unfolding rout_statement
routs text = search (either, placed, starts, cuts, arc, unknown)

others : (text : List ℕ) → IsNumbered (other_statement text)
unfolding other_statement
others text =
    words_numbered body_words text (word_or (word_in header_words text) (rout_statement text))
    (plain Neutral tt, (plain Neutral tt, (plain DrillMode tt, (plain Lower tt, (plain Raise tt, (plain End tt, tt))))))
    (words_numbered header_words text (rout_statement text)
    (plain _ tt, (plain _ tt, (plain _ tt, (plain _ tt, (plain _ tt, (plain _ tt, (plain _ tt, (plain _ tt, tt)))))))) (routs text))

tool_lines : (text : List ℕ) → IsNumbered (tool_statement text)
unfolding tool_statement
tool_lines text = tools (run_of text) (behind_run text)

says_numbered : (text : List ℕ) → IsNumbered (statement_of text)
unfolding statement_of
says_numbered text = grind (arith, unknown, either, hit_or_other, slots, tool_lines, others)

pub has_tool_number : (text : List ℕ) → HasToolNumber (statement_of text)
has_tool_number text = (says_numbered text).number
