-- Reading from left to right, against the grammar.
use Rattle.std.proofs.Common.{◌≡◌, ℕ, zero, suc, ◌+◌, ◌-◌, Bool, true, false, cond, ◌==◌, ◌||◌, ◌&&◌, List, [], ◌∷◌, ◌++◌}
use Rattle.std.proofs.Common.{replicate, Option, Some, None, refl, ap, sym, ◌∙◌, append_assoc, append-nil, arith, take, one-add}
use Rattle.std.specs.Prelude.{take_while}
use Rattle.std.specs.List.{list_all, prefix_len}
use Rattle.std.specs.Char.{is_ascii_digit}
use Rattle.cam_macros.specs.declared.expression.Operator.{Operator}
use Rattle.cam_macros.specs.declared.expression.Step.{Step}
use Rattle.cam_macros.specs.declared.expression.Step.TheVariants.{Push, Read, Negate, Apply}
use Rattle.cam_macros.specs.declared.parsing.scanner.Level.{Level}
use Rattle.cam_numbers.specs.Numbers.{value_of}
use Rattle.cam_numbers.proofs.Naturals.{natural-digits}
use Rattle.cam_numbers.proofs.Written.{AreParts, read_whole, read_pointed, some_digits}
use Rattle.cam_macros.specs.Numbers.{number_written}
use Rattle.cam_macros.specs.Tree.{Tree}
use Rattle.cam_macros.specs.Postfix.{postfix}
use Rattle.cam_macros.specs.Grammar.{Sign, Plus, Minus, Cross, Whole, Pointed, Sum, OneTerm}
use Rattle.cam_macros.specs.Grammar.{Added, Term, OneFactor, Multiplied, Factor, Numeral, Dollar, Signed, Enclosed}
use Rattle.cam_macros.specs.Grammar.{sign_byte, cross_byte, sum_text, term_text, factor_text, sum_count, term_count}
use Rattle.cam_macros.specs.Grammar.{factor_count, AreDigits, IsNumber, IsVariable, IsSum, IsTerm, IsFactor}
use Rattle.cam_macros.specs.Grammar.{sign_operator, cross_operator, sum_tree, term_tree, factor_tree, IsExpression}
use Rattle.cam_macros.specs.Scanning.{Behind, fresh_level, goes_on, InNumber, InVariable, is_run_byte, level_of, mark_of}
use Rattle.cam_macros.specs.Scanning.{number_of_run, operator_at, scan, Scan, scan_of, scanned}
use Rattle.cam_macros.specs.Scanning.{variable_of, waiting, Wanted, with_operand, step_scanned}
use Rattle.cam_macros.specs.Bytes.{closing, dollar, opening_parenthesis, decimal_point}

-- what follows is no part of a number or a variable
abbrev pub IsApart : List ℕ → Type 0
IsApart [] = Unit {0}
IsApart (b ∷ _) = is_run_byte b ≡ false

-- behind a whole number or variable
after_number : (s : Scan) (rest : List ℕ) → IsApart rest → scan InNumber s rest ≡ scan Behind s rest
unfolding scan
after_number s rest apart = grind arith

or_left : (a b : Bool) → a || b ≡ false → a ≡ false
or_left a b h = grind arith

and_left : (a b : Bool) → a && b ≡ true → a ≡ true
and_left a b h = grind arith

and_right : (a b : Bool) → a && b ≡ true → b ≡ true
and_right a b h = grind arith

-- within a number, and within a variable
in_number : (s : Scan) (run rest : List ℕ) → list_all is_run_byte run ≡ true
    → scan InNumber s (run ++ rest) ≡ scan InNumber s rest
unfolding scan
in_number s [] rest h = refl
in_number s (b ∷ run) rest h =
    ap (λ v. goes_on (cond v (Some (InNumber, s)) (operator_at (mark_of b) s))
    (λ status' s'. scan status' s' (run ++ rest))) (and_left (is_run_byte b) (list_all is_run_byte run) h)
    ∙ in_number s run rest (and_right (is_run_byte b) (list_all is_run_byte run) h)

in_variable : (s : Scan) (run rest : List ℕ) → list_all is_ascii_digit run ≡ true
    → scan InVariable s (run ++ rest) ≡ scan InVariable s rest
unfolding scan
in_variable s [] rest h = refl
in_variable s (b ∷ run) rest h =
    ap (λ v. goes_on (cond v (Some (InVariable, s)) (operator_at (mark_of b) s))
    (λ status' s'. scan status' s' (run ++ rest))) (and_left (is_ascii_digit b) (list_all is_ascii_digit run) h)
    ∙ in_variable s run rest (and_right (is_ascii_digit b) (list_all is_ascii_digit run) h)

take_one : (n b : ℕ) (xs : List ℕ) → take (1 + n) (b ∷ xs) ≡ b ∷ take n xs
take_one n b xs = rw one-add refl

-- the run ends where the rest begins
run_ends : (p : ℕ → Bool) (run rest : List ℕ) → list_all p run ≡ true
    → ((b : ℕ) (bs : List ℕ) → rest ≡ b ∷ bs → p b ≡ false) → take_while p (run ++ rest) ≡ run
run_ends p [] [] h apart = refl
run_ends p [] (b ∷ rest) h apart = ap (λ v. take (cond v (1 + prefix_len p rest) 0) (b ∷ rest)) (apart b rest refl)
run_ends p (b ∷ run) rest h apart =
    grind (arith, and_left, take_one, and_right, run_ends p run rest (and_right (p b) (list_all p run) h) apart)

apart_head : (rest : List ℕ) → IsApart rest → (b : ℕ) (bs : List ℕ) → rest ≡ b ∷ bs → is_run_byte b ≡ false
apart_head rest apart b bs e = grind arith

run_numeric : (run rest : List ℕ) → list_all is_run_byte run ≡ true → IsApart rest
    → take_while is_run_byte (run ++ rest) ≡ run
run_numeric run rest h apart = run_ends is_run_byte run rest h (apart_head rest apart)

run_digits : (run rest : List ℕ) → list_all is_ascii_digit run ≡ true → IsApart rest
    → take_while is_ascii_digit (run ++ rest) ≡ run
run_digits run rest h apart = grind (arith, run_ends, or_left)

number_read : (s : Scan) (b : ℕ) (run rest : List ℕ) (n : ℕ) → list_all is_run_byte (b ∷ run) ≡ true
    → number_of_run (b ∷ run) ≡ Some n → IsApart rest
    → scan Wanted s (b ∷ (run ++ rest)) ≡ scan Behind (step_scanned (Push n) s) rest
unfolding scan
number_read s b run rest n h e apart = grind (arith, and_left, run_numeric, and_right, in_number, after_number)

variable_read : (s : Scan) (run rest : List ℕ) (n : ℕ) → list_all is_ascii_digit run ≡ true → variable_of run ≡ Some n
    → IsApart rest
    → scan Wanted s (dollar ∷ (run ++ rest)) ≡ scan Behind (step_scanned (Read n) s) rest
unfolding scan
variable_read s run rest n h e apart = grind (arith, run_digits, in_variable)

-- single bytes

cross_step : (o : Cross) (steps : List Step) (sum : Option Operator) (outer : List Level) (room left : ℕ)
    (rest : List ℕ)
    → scan Behind (scan_of steps (level_of sum None 0) outer room (suc left)) (cross_byte o ∷ rest)
    ≡ scan Wanted (scan_of steps (level_of sum (Some (cross_operator o)) 0) outer room left) rest
unfolding scan
cross_step o steps sum outer room left rest = grind arith

sum_step : (o : Sign) (steps : List Step) (sum : Option Operator) (outer : List Level) (room left : ℕ) (rest : List ℕ)
    → scan Behind (scan_of steps (level_of sum None 0) outer room (suc left)) (sign_byte o ∷ rest)
    ≡ scan Wanted (scan_of (steps ++ waiting sum) (level_of (Some (sign_operator o)) None 0) outer room left) rest
unfolding scan
sum_step o steps sum outer room left rest = grind arith

abbrev more_minuses : Sign → ℕ → ℕ
more_minuses Plus n = n
more_minuses Minus n = suc n

sign_step : (o : Sign) (steps : List Step) (sum term : Option Operator) (minuses : ℕ) (outer : List Level)
    (room left : ℕ) (rest : List ℕ)
    → scan Wanted (scan_of steps (level_of sum term minuses) outer room (suc left)) (sign_byte o ∷ rest)
    ≡ scan Wanted (scan_of steps (level_of sum term (more_minuses o minuses)) outer room left) rest
unfolding scan
sign_step o steps sum term minuses outer room left rest = grind arith

open_step : (steps : List Step) (level : Level) (outer : List Level) (room left : ℕ) (rest : List ℕ)
    → scan Wanted (scan_of steps level outer (suc room) left) (opening_parenthesis ∷ rest)
    ≡ scan Wanted (scan_of steps fresh_level (level ∷ outer) room left) rest
unfolding scan
open_step steps level outer room left rest = refl

close_step : (steps : List Step) (within level : Level) (outer : List Level) (room left : ℕ) (rest : List ℕ)
    → scan Behind (scan_of steps within (level ∷ outer) room left) (closing ∷ rest)
    ≡ scan Behind (with_operand (scan_of (steps ++ waiting within.sum) level outer (suc room) left)) rest
unfolding scan
close_step steps within level outer room left rest = refl

cross_apart : (o : Cross) (rest : List ℕ) → IsApart (cross_byte o ∷ rest)
cross_apart o rest = grind arith

sign_apart : (o : Sign) (rest : List ℕ) → IsApart (sign_byte o ∷ rest)
sign_apart o rest = grind arith

-- decimals

are_parts : (whole decimals : List ℕ) → IsNumber whole decimals → AreParts whole decimals
are_parts whole decimals h = record { before = h.before; behind = h.behind; some = h.some; small = h.small }

number_of_whole : (whole : List ℕ) → IsNumber whole [] → number_of_run whole ≡ Some (number_written whole [])
number_of_whole whole h = read_whole whole (are_parts whole [] h)

number_of_pointed : (whole decimals : List ℕ) → IsNumber whole decimals
    → number_of_run (whole ++ decimal_point ∷ decimals) ≡ Some (number_written whole decimals)
number_of_pointed whole decimals h = read_pointed whole decimals (are_parts whole decimals h)

pub variable_is : (digits : List ℕ) → IsVariable digits → variable_of digits ≡ Some (value_of digits)
variable_is digits h = grind (arith, natural-digits, some_digits)

or_true : (a b : Bool) → a ≡ true → a || b ≡ true
or_true a b h = grind arith

digits_numeric : (digits : List ℕ) → AreDigits digits → list_all is_run_byte digits ≡ true
digits_numeric [] h = refl
digits_numeric (b ∷ digits) h =
    ap (λ v. v && list_all is_run_byte digits)
    (or_true (is_ascii_digit b) (b == decimal_point) (and_left (is_ascii_digit b) (list_all is_ascii_digit digits) h))
    ∙ digits_numeric digits (and_right (is_ascii_digit b) (list_all is_ascii_digit digits) h)

pointed_numeric : (whole decimals : List ℕ) → AreDigits whole → AreDigits decimals
    → list_all is_run_byte (whole ++ decimal_point ∷ decimals) ≡ true
pointed_numeric [] decimals h k = digits_numeric decimals k
pointed_numeric (b ∷ whole) decimals h k =
    ap (λ v. v && list_all is_run_byte (whole ++ decimal_point ∷ decimals))
    (or_true (is_ascii_digit b) (b == decimal_point) (and_left (is_ascii_digit b) (list_all is_ascii_digit whole) h))
    ∙ pointed_numeric whole decimals (and_right (is_ascii_digit b) (list_all is_ascii_digit whole) h) k

whole_read : (s : Scan) (whole rest : List ℕ) → IsNumber whole [] → IsApart rest
    → scan Wanted s (whole ++ rest) ≡ scan Behind (step_scanned (Push (number_written whole [])) s) rest
whole_read s [] rest h apart = absurd (omega (arith, h.some))
whole_read s (b ∷ whole) rest h apart = grind (arith, number_read, digits_numeric, number_of_whole)

pointed_read : (s : Scan) (whole decimals rest : List ℕ) → IsNumber whole decimals → IsApart rest
    → scan Wanted s ((whole ++ decimal_point ∷ decimals) ++ rest)
    ≡ scan Behind (step_scanned (Push (number_written whole decimals)) s) rest
pointed_read s [] decimals rest h apart =
    number_read s decimal_point decimals rest (number_written [] decimals) (pointed_numeric [] decimals refl h.behind)
    (number_of_pointed [] decimals h) apart
pointed_read s (b ∷ whole) decimals rest h apart =
    number_read s b (whole ++ decimal_point ∷ decimals) rest (number_written (b ∷ whole) decimals)
    (pointed_numeric (b ∷ whole) decimals h.before h.behind) (number_of_pointed (b ∷ whole) decimals h) apart

-- the steps of a sum before its last operator, and that operator
abbrev pub front : Sum → List Step
front (OneTerm t) = postfix (term_tree t)
front (Added s o t) = postfix (sum_tree s) ++ postfix (term_tree t)

abbrev pub last : Sum → Option Operator
last (OneTerm t) = None
last (Added s o t) = Some (sign_operator o)

front_last : (s : Sum) → front s ++ waiting (last s) ≡ postfix (sum_tree s)
front_last s = grind (arith, append-nil, append_assoc)

-- the same scan at other steps, and before another count or text
other_steps : (a b : List Step) (level : Level) (outer : List Level) (room left : ℕ) (rest : List ℕ) → a ≡ b
    → scan Behind (scan_of a level outer room left) rest ≡ scan Behind (scan_of b level outer room left) rest
other_steps a b level outer room left rest e = ap (λ l. scan Behind (scan_of l level outer room left) rest) e

other_text : (steps : List Step) (level : Level) (outer : List Level) (room m n : ℕ) (a b : List ℕ) → m ≡ n → a ≡ b
    → scan Wanted (scan_of steps level outer room m) a ≡ scan Wanted (scan_of steps level outer room n) b
other_text steps level outer room m n a b e f = grind arith

product_steps : (steps t f : List Step) (o : Operator)
    → steps ++ t ++ f ++ [] ++ Apply o ∷ [] ≡ steps ++ (t ++ (f ++ Apply o ∷ []))
product_steps steps t f o = simp (append_assoc, append-nil)

sum_steps : (steps e t : List Step) (last : Option Operator) (whole : List Step) → e ++ waiting last ≡ whole
    → steps ++ e ++ waiting last ++ t ≡ steps ++ (whole ++ t)
sum_steps steps e t last whole h = grind (arith, append_assoc)

minus_steps : (steps f : List Step) (minuses : ℕ) (term : List Step)
    → steps ++ f ++ replicate (suc minuses) Negate ++ term
    ≡ steps ++ (f ++ Negate ∷ []) ++ replicate minuses Negate ++ term
minus_steps steps f minuses term = simp append_assoc

closed_steps : (steps e : List Step) (last : Option Operator) (whole : List Step) (minuses : ℕ) (term : List Step)
    → e ++ waiting last ≡ whole
    → steps ++ e ++ waiting last ++ replicate minuses Negate ++ term
    ≡ steps ++ whole ++ replicate minuses Negate ++ term
closed_steps steps e last whole minuses term h = grind (arith, append_assoc)

mutual
  sum_read : (e : Sum) (room : ℕ) (steps : List Step) (outer : List Level) (left : ℕ) (rest : List ℕ) → IsSum room e
      → IsApart rest
      → scan Wanted (scan_of steps fresh_level outer room (sum_count e + left)) (sum_text e ++ rest)
      ≡ scan Behind (scan_of (steps ++ front e) (level_of (last e) None 0) outer room left) rest
  sum_read (OneTerm t) room steps outer left rest h apart = term_read t room steps None outer left rest h apart
  sum_read (Added e o t) room steps outer left rest h apart =
      other_text steps fresh_level outer room _ _ _ _ (omega arith)
      (append_assoc (sum_text e) (sign_byte o ∷ term_text t) rest)
      ∙ sum_read e room steps outer (suc (term_count t + left)) (sign_byte o ∷ (term_text t ++ rest)) h.0
      (sign_apart o (term_text t ++ rest))
      ∙ sum_step o (steps ++ front e) (last e) outer room (term_count t + left) (term_text t ++ rest)
      ∙ term_read t room (steps ++ front e ++ waiting (last e)) (Some (sign_operator o)) outer left rest h.1 apart
      ∙ other_steps _ _ (level_of (Some (sign_operator o)) None 0) outer room left rest
      (sum_steps steps (front e) (postfix (term_tree t)) (last e) (postfix (sum_tree e)) (front_last e))

  term_read : (t : Term) (room : ℕ) (steps : List Step) (sum : Option Operator) (outer : List Level) (left : ℕ)
      (rest : List ℕ) → IsTerm room t → IsApart rest
      → scan Wanted (scan_of steps (level_of sum None 0) outer room (term_count t + left)) (term_text t ++ rest)
      ≡ scan Behind (scan_of (steps ++ postfix (term_tree t)) (level_of sum None 0) outer room left) rest
  term_read (OneFactor f) room steps sum outer left rest h apart =
      factor_read f room steps sum None 0 outer left rest h apart
      ∙ other_steps _ _ (level_of sum None 0) outer room left rest (append-nil _ ∙ append-nil _)
  term_read (Multiplied t o f) room steps sum outer left rest h apart =
      other_text steps (level_of sum None 0) outer room _ _ _ _ (omega arith)
      (append_assoc (term_text t) (cross_byte o ∷ factor_text f) rest)
      ∙ term_read t room steps sum outer (suc (factor_count f + left)) (cross_byte o ∷ (factor_text f ++ rest)) h.0
      (cross_apart o (factor_text f ++ rest))
      ∙ cross_step o (steps ++ postfix (term_tree t)) sum outer room (factor_count f + left) (factor_text f ++ rest)
      ∙ factor_read f room (steps ++ postfix (term_tree t)) sum (Some (cross_operator o)) 0 outer left rest h.1 apart
      ∙ other_steps _ _ (level_of sum None 0) outer room left rest
      (product_steps steps (postfix (term_tree t)) (postfix (factor_tree f)) (cross_operator o))

  factor_read : (f : Factor) (room : ℕ) (steps : List Step) (sum term : Option Operator) (minuses : ℕ)
      (outer : List Level) (left : ℕ) (rest : List ℕ) → IsFactor room f → IsApart rest
      → scan Wanted (scan_of steps (level_of sum term minuses) outer room (factor_count f + left))
      (factor_text f ++ rest)
      ≡ scan Behind
      (scan_of (steps ++ postfix (factor_tree f) ++ replicate minuses Negate ++ waiting term) (level_of sum None 0)
      outer room left) rest
  factor_read (Numeral (Whole whole)) room steps sum term minuses outer left rest h apart =
      other_text steps (level_of sum term minuses) outer room (0 + left) left _ _ (omega arith) refl
      ∙ whole_read (scan_of steps (level_of sum term minuses) outer room left) whole rest h apart
  factor_read (Numeral (Pointed whole decimals)) room steps sum term minuses outer left rest h apart =
      other_text steps (level_of sum term minuses) outer room (0 + left) left _ _ (omega arith) refl
      ∙ pointed_read (scan_of steps (level_of sum term minuses) outer room left) whole decimals rest h apart
  factor_read (Dollar digits) room steps sum term minuses outer left rest h apart =
      other_text steps (level_of sum term minuses) outer room (0 + left) left _ _ (omega arith) refl
      ∙ variable_read (scan_of steps (level_of sum term minuses) outer room left) digits rest (value_of digits) h.all
      (variable_is digits h) apart
  factor_read (Signed Plus f) room steps sum term minuses outer left rest h apart =
      other_text steps (level_of sum term minuses) outer room _ (suc (factor_count f + left)) _ _ (omega arith) refl
      ∙ sign_step Plus steps sum term minuses outer room (factor_count f + left) (factor_text f ++ rest)
      ∙ factor_read f room steps sum term minuses outer left rest h apart
  factor_read (Signed Minus f) room steps sum term minuses outer left rest h apart =
      other_text steps (level_of sum term minuses) outer room _ (suc (factor_count f + left)) _ _ (omega arith) refl
      ∙ sign_step Minus steps sum term minuses outer room (factor_count f + left) (factor_text f ++ rest)
      ∙ factor_read f room steps sum term (suc minuses) outer left rest h apart
      ∙ other_steps _ _ (level_of sum None 0) outer room left rest
      (minus_steps steps (postfix (factor_tree f)) minuses (waiting term))
  factor_read (Enclosed e) zero steps sum term minuses outer left rest h apart = absurd h
  factor_read (Enclosed e) (suc room) steps sum term minuses outer left rest h apart =
      open_step steps (level_of sum term minuses) outer room (sum_count e + left) ((sum_text e ++ closing ∷ []) ++ rest)
      ∙ other_text steps fresh_level (level_of sum term minuses ∷ outer) room _ _ _ _ refl
      (append_assoc (sum_text e) (closing ∷ []) rest)
      ∙ sum_read e room steps (level_of sum term minuses ∷ outer) left (closing ∷ rest) h refl
      ∙ close_step (steps ++ front e) (level_of (last e) None 0) (level_of sum term minuses) outer room left rest
      ∙ other_steps _ _ (level_of sum None 0) outer (suc room) left rest
      (closed_steps steps (front e) (last e) (postfix (sum_tree e)) minuses (waiting term) (front_last e))

-- an expression is read as the steps of its tree
pub expression_read : (text : List ℕ) (tree : Tree) → IsExpression text tree → scanned text ≡ Some (postfix tree)
unfolding scan
expression_read text tree h =
    let short : sum_count h.sum + (1000 - sum_count h.sum) ≡ 1000 = omega (arith, h.short) in
    ap scanned (h.written ∙ sym (append-nil (sum_text h.sum)))
    ∙ ap (λ n. scan Wanted (scan_of [] fresh_level [] 64 n) (sum_text h.sum ++ [])) (sym short)
    ∙ sum_read h.sum 64 [] [] (1000 - sum_count h.sum) [] h.leaves tt
    ∙ ap Some (front_last h.sum ∙ ap postfix (sym h.stands_for))
