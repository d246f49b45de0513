-- An expression read from left to right, where operators wait for what binds closer; the law of `Parsing` ties this to
-- the grammar. Gerber Layer Format Specification, "Aperture macro (AM)", "Arithmetic expressions".
use Rattle.std.specs.Prelude.{ℕ, zero, suc, ◌==◌, ◌||◌, nat_lt, Bool, if◌then◌else◌, List, [], ◌∷◌, ◌++◌, replicate}
use Rattle.std.specs.Prelude.{take_while, Option, Some, None, option_map}
use Rattle.std.specs.Option.{option_and_then}
use Rattle.std.specs.Char.{is_ascii_digit}
use Rattle.cam_macros.specs.declared.expression.Operator.{Operator}
use Rattle.cam_macros.specs.declared.expression.Operator.TheVariants.{Add, Subtract, Multiply, Divide}
use Rattle.cam_macros.specs.declared.expression.Step.{Step}
use Rattle.cam_macros.specs.declared.expression.Step.TheVariants.{Push, Read, Negate, Apply}
use Rattle.cam_macros.specs.declared.parsing.mark.Mark.{Mark}
use Rattle.cam_macros.specs.declared.parsing.mark.Mark.TheVariants.{Numeral, Dollar, Open, Close, Plus, Minus, Times, Over}
use Rattle.cam_macros.specs.declared.parsing.mark.Mark.TheVariants.{Other}
use Rattle.cam_macros.specs.declared.parsing.scanner.Level.{Level}
use Rattle.cam_macros.specs.Bytes.{closing, dollar, large_x, minus_sign, opening_parenthesis, plus, decimal_point, slash, small_x}
use Rattle.cam_numbers.specs.Numbers.{natural, unsigned_decimal}

-- a digit or a point
abbrev pub is_run_byte : ℕ → Bool
is_run_byte b = is_ascii_digit b || (b == decimal_point)

abbrev pub mark_of : ℕ → Mark
mark_of b =
    if is_run_byte b then Numeral
    else (if b == dollar then Dollar
    else (if b == opening_parenthesis then Open
    else (if b == closing then Close
    else (if b == plus then Plus
    else (if b == minus_sign then Minus
    else (if (b == small_x) || (b == large_x) then Times
    else (if b == slash then Over else Other)))))))

-- a run of digits and points
abbrev pub number_of_run : List ℕ → Option ℕ
number_of_run run = unsigned_decimal run

-- the number of a variable
abbrev pub variable_by : ℕ → Option ℕ
variable_by n = if n == 0 then None else if nat_lt 9999 n then None else Some n

abbrev pub variable_of : List ℕ → Option ℕ
variable_of run = option_and_then variable_by (natural run)

-- the steps so far; the operators that wait in the innermost parentheses and in each outer
-- pair, innermost first; how many more pairs may open; how many more operators and signs may come
pub record Scan : Type 0 where
  pub steps : List Step
  pub level : Level
  pub outer : List Level
  pub room : ℕ
  pub budget : ℕ

abbrev pub level_of : Option Operator → Option Operator → ℕ → Level
level_of sum term minuses = record { sum = sum; term = term; minuses = minuses }

abbrev pub fresh_level : Level
fresh_level = level_of None None 0

abbrev pub scan_of : List Step → Level → List Level → ℕ → ℕ → Scan
scan_of steps level outer room budget =
    record { steps = steps; level = level; outer = outer; room = room; budget = budget }

abbrev pub start : Scan
start = scan_of [] fresh_level [] 64 1000

abbrev pub waiting : Option Operator → List Step
waiting None = []
waiting (Some o) = Apply o ∷ []

-- behind a whole operand come the negations and the operator that waited for it
abbrev pub with_operand : Scan → Scan
with_operand s =
    scan_of (s.steps ++ replicate s.level.minuses Negate ++ waiting s.level.term) (level_of s.level.sum None 0)
    s.outer s.room s.budget

abbrev pub step_scanned : Step → Scan → Scan
step_scanned step s = with_operand (scan_of (s.steps ++ step ∷ []) s.level s.outer s.room s.budget)

-- one operator or sign more
abbrev pub charged : Scan → Option Scan
charged s = elim s.budget [ zero ↦ None | suc budget ↦ Some (scan_of s.steps s.level s.outer s.room budget) ]

abbrev pub with_minus : Scan → Scan
with_minus s = scan_of s.steps (level_of s.level.sum s.level.term (suc s.level.minuses)) s.outer s.room s.budget

abbrev pub with_sum : Operator → Scan → Scan
with_sum o s =
    scan_of (s.steps ++ waiting s.level.sum) (level_of (Some o) s.level.term s.level.minuses) s.outer s.room s.budget

abbrev pub with_term : Operator → Scan → Scan
with_term o s = scan_of s.steps (level_of s.level.sum (Some o) s.level.minuses) s.outer s.room s.budget

abbrev pub group_opened : Scan → Option Scan
group_opened s = elim s.room [ zero ↦ None | suc room ↦ Some (scan_of s.steps fresh_level (s.level ∷ s.outer) room s.budget) ]

abbrev pub closed : Scan → Option Scan
closed s =
    elim s.outer [
      | [] ↦ None
      | (level ∷ outer) ↦
          Some (with_operand (scan_of (s.steps ++ waiting s.level.sum) level outer (suc s.room) s.budget))
    ]

-- whether an operand is wanted, or is whole, or has just begun as a number or a variable
pub data Status : Type 0 where
  Wanted : Status
  Behind : Status
  InNumber : Status
  InVariable : Status

abbrev pub Next : Type 0
Next = Option (Status × Scan)

abbrev pub then_at : Status → Option Scan → Next
then_at status next = option_map (λ s. (status, s)) next

abbrev pub operand_at : Mark → Scan → ℕ → List ℕ → Next
operand_at Numeral s b bs =
    option_map (λ n. (InNumber, step_scanned (Push n) s)) (number_of_run (b ∷ take_while is_run_byte bs))
operand_at Dollar s b bs =
    option_map (λ n. (InVariable, step_scanned (Read n) s)) (variable_of (take_while is_ascii_digit bs))
operand_at Open s b bs = then_at Wanted (group_opened s)
operand_at Plus s b bs = then_at Wanted (charged s)
operand_at Minus s b bs = then_at Wanted (option_map with_minus (charged s))
operand_at Close s b bs = None
operand_at Times s b bs = None
operand_at Over s b bs = None
operand_at Other s b bs = None

abbrev pub operator_at : Mark → Scan → Next
operator_at Plus s = then_at Wanted (option_map (with_sum Add) (charged s))
operator_at Minus s = then_at Wanted (option_map (with_sum Subtract) (charged s))
operator_at Times s = then_at Wanted (option_map (with_term Multiply) (charged s))
operator_at Over s = then_at Wanted (option_map (with_term Divide) (charged s))
operator_at Close s = then_at Behind (closed s)
operator_at Numeral s = None
operator_at Dollar s = None
operator_at Open s = None
operator_at Other s = None

abbrev pub step_at : Status → Scan → ℕ → List ℕ → Next
step_at Wanted s b bs = operand_at (mark_of b) s b bs
step_at Behind s b bs = operator_at (mark_of b) s
step_at InNumber s b bs = if is_run_byte b then Some (InNumber, s) else operator_at (mark_of b) s
step_at InVariable s b bs = if is_ascii_digit b then Some (InVariable, s) else operator_at (mark_of b) s

abbrev pub finished : Status → Scan → Option (List Step)
finished Wanted s = None
finished Behind s = elim s.outer [ [] ↦ Some (s.steps ++ waiting s.level.sum) | (_ ∷ _) ↦ None ]
finished InNumber s = elim s.outer [ [] ↦ Some (s.steps ++ waiting s.level.sum) | (_ ∷ _) ↦ None ]
finished InVariable s = elim s.outer [ [] ↦ Some (s.steps ++ waiting s.level.sum) | (_ ∷ _) ↦ None ]

abbrev pub goes_on : Next → (Status → Scan → Option (List Step)) → Option (List Step)
goes_on None k = None
goes_on (Some next) k = k next.0 next.1

-- the steps of what is to come
unfoldable pub scan : Status → Scan → List ℕ → Option (List Step)
scan status s [] = finished status s
scan status s (b ∷ bs) = goes_on (step_at status s b bs) (λ status' s'. scan status' s' bs)

abbrev pub scanned : List ℕ → Option (List Step)
scanned text = scan Wanted start text
