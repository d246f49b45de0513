-- What has been read of nested parentheses, as parts of sums.
use Rattle.std.proofs.Common.{◌≡◌, ℕ, zero, suc, ◌+◌, ◌≤◌, true, length, ◌==◌, ◌||◌, ◌⊎◌, inl, inr, List, [], ◌∷◌, ◌++◌}
use Rattle.std.proofs.Common.{replicate, Option, Some, None, refl, ap, sym, subst, ◌∙◌, append_assoc, append-nil, arith}
use Rattle.cam_numbers.proofs.Written.{was_written, natural_found}
use Rattle.std.proofs.lemmas.Bool.{eqb-true}
use Rattle.cam_macros.specs.declared.expression.Operator.{Operator}
use Rattle.cam_macros.specs.declared.expression.Step.{Step}
use Rattle.cam_macros.specs.declared.expression.Step.TheVariants.{Negate}
use Rattle.cam_macros.specs.declared.parsing.scanner.Level.{Level}
use Rattle.cam_macros.specs.declared.parsing.mark.Mark.{Mark}
use Rattle.cam_numbers.specs.Numbers.{value_of}
use Rattle.cam_macros.specs.Numbers.{number_written}
use Rattle.cam_macros.specs.Tree.{Number}
use Rattle.cam_macros.specs.Postfix.{postfix}
use Rattle.cam_macros.specs.Grammar.{Sign, Plus, Minus, Cross, Decimal, Whole, Pointed, Sum, OneTerm, Added, Term}
use Rattle.cam_macros.specs.Grammar.{OneFactor, Multiplied, Factor, Signed, sign_byte, cross_byte, decimal_text}
use Rattle.cam_macros.specs.Grammar.{sum_text, term_text, factor_text, sum_count, term_count, factor_count}
use Rattle.cam_macros.specs.Grammar.{IsNumber, IsDecimal, IsVariable, IsSum, IsTerm, IsFactor, sign_operator}
use Rattle.cam_macros.specs.Grammar.{cross_operator, decimal_tree, sum_tree, term_tree, factor_tree}
use Rattle.cam_macros.specs.Scanning.{Behind, level_of, mark_of, number_of_run, Scan, scan, scan_of}
use Rattle.cam_macros.specs.Scanning.{variable_of, waiting, Wanted, with_operand}
use Rattle.cam_macros.specs.Bytes.{closing, dollar, large_x, minus_sign, opening_parenthesis, plus, decimal_point, slash, small_x}

-- leaves

pub record IsLeaf (run : List ℕ) (v : ℕ) : Type 0 where
  pub leaf : Decimal
  pub written : decimal_text leaf ≡ run
  pub fits : IsDecimal leaf
  pub same : decimal_tree leaf ≡ Number v

leaf_written : (run whole decimals : List ℕ) (v : ℕ) → IsNumber whole decimals → number_written whole decimals ≡ v
    → (decimals ≡ [] × run ≡ whole) ⊎ (run ≡ whole ++ decimal_point ∷ decimals) → IsLeaf run v
leaf_written run whole decimals v h e (inl w) = record {
  leaf = Whole whole;
  written = sym w.1;
  fits = subst (λ d. IsNumber whole d) w.0 h;
  same = ap Number (ap (number_written whole) (sym w.0) ∙ e);
}
leaf_written run whole decimals v h e (inr w) =
    record { leaf = Pointed whole decimals; written = sym w; fits = h; same = ap Number e }

pub leaf_of : (run : List ℕ) (v : ℕ) → number_of_run run ≡ Some v → IsLeaf run v
leaf_of run v n =
    let r = was_written run v n in
    let p = r.parts in
    leaf_written run r.whole r.decimals v (record { before = p.before; behind = p.behind; some = p.some; small = p.small })
    r.value r.written.parts

pub variable_found : (digits : List ℕ) (v : ℕ) → variable_of digits ≡ Some v → IsVariable digits × (value_of digits ≡ v)
variable_found digits v e = grind (arith, natural_found)

-- the byte of a mark

abbrev pub IsMarked : Mark → ℕ → Type 0
IsMarked Mark.Numeral b = Unit {0}
IsMarked Mark.Dollar b = b ≡ dollar
IsMarked Mark.Open b = b ≡ opening_parenthesis
IsMarked Mark.Close b = b ≡ closing
IsMarked Mark.Plus b = b ≡ plus
IsMarked Mark.Minus b = b ≡ minus_sign
IsMarked Mark.Times b = (b ≡ small_x) ⊎ (b ≡ large_x)
IsMarked Mark.Over b = b ≡ slash
IsMarked Mark.Other b = Unit {0}

pub either : (b : ℕ) → (b == small_x) || (b == large_x) ≡ true → (b ≡ small_x) ⊎ (b ≡ large_x)
either b = grind (arith, eqb-true)

pub marked : (b : ℕ) → IsMarked (mark_of b) b
marked b = grind (arith, eqb-true, either)

-- what has been read of a pair of parentheses: a sum with its sign, a term with its sign, signs

pub data SumPart : Type 0 where
  NoSum : SumPart
  SumBefore : Sum → Sign → SumPart

pub data TermPart : Type 0 where
  NoTerm : TermPart
  TermBefore : Term → Cross → TermPart

pub record Opened : Type 0 where
  pub sum : SumPart
  pub term : TermPart
  pub signs : List Sign

abbrev pub opened : SumPart → TermPart → List Sign → Opened
opened sum term signs = record { sum = sum; term = term; signs = signs }

abbrev pub sum_part_text : SumPart → List ℕ
sum_part_text NoSum = []
sum_part_text (SumBefore s o) = sum_text s ++ sign_byte o ∷ []

abbrev pub term_part_text : TermPart → List ℕ
term_part_text NoTerm = []
term_part_text (TermBefore t o) = term_text t ++ cross_byte o ∷ []

abbrev pub signs_text : List Sign → List ℕ
signs_text [] = []
signs_text (o ∷ signs) = sign_byte o ∷ signs_text signs

abbrev pub opened_text : Opened → List ℕ
opened_text l = sum_part_text l.sum ++ (term_part_text l.term ++ signs_text l.signs)

abbrev pub outer_text : List Opened → List ℕ
outer_text [] = []
outer_text (l ∷ ls) = outer_text ls ++ (opened_text l ++ opening_parenthesis ∷ [])

abbrev pub sum_part_steps : SumPart → List Step
sum_part_steps NoSum = []
sum_part_steps (SumBefore s o) = postfix (sum_tree s)

abbrev pub term_part_steps : TermPart → List Step
term_part_steps NoTerm = []
term_part_steps (TermBefore t o) = postfix (term_tree t)

abbrev pub outer_steps : List Opened → List Step
outer_steps [] = []
outer_steps (l ∷ ls) = outer_steps ls ++ (sum_part_steps l.sum ++ term_part_steps l.term)

abbrev pub sum_part_operator : SumPart → Option Operator
sum_part_operator NoSum = None
sum_part_operator (SumBefore s o) = Some (sign_operator o)

abbrev pub term_part_operator : TermPart → Option Operator
term_part_operator NoTerm = None
term_part_operator (TermBefore t o) = Some (cross_operator o)

abbrev pub minuses : List Sign → ℕ
minuses [] = 0
minuses (Plus ∷ signs) = minuses signs
minuses (Minus ∷ signs) = suc (minuses signs)

abbrev pub level_at : Opened → Level
level_at l = level_of (sum_part_operator l.sum) (term_part_operator l.term) (minuses l.signs)

abbrev pub levels_at : List Opened → List Level
levels_at [] = []
levels_at (l ∷ ls) = level_at l ∷ levels_at ls

abbrev pub sum_part_count : SumPart → ℕ
sum_part_count NoSum = 0
sum_part_count (SumBefore s o) = suc (sum_count s)

abbrev pub term_part_count : TermPart → ℕ
term_part_count NoTerm = 0
term_part_count (TermBefore t o) = suc (term_count t)

abbrev pub opened_count : Opened → ℕ
opened_count l = sum_part_count l.sum + (term_part_count l.term + length l.signs)

abbrev pub outer_count : List Opened → ℕ
outer_count [] = 0
outer_count (l ∷ ls) = outer_count ls + opened_count l

abbrev pub IsSumPart : ℕ → SumPart → Type 0
IsSumPart room NoSum = Unit {0}
IsSumPart room (SumBefore s o) = IsSum room s

abbrev pub IsTermPart : ℕ → TermPart → Type 0
IsTermPart room NoTerm = Unit {0}
IsTermPart room (TermBefore t o) = IsTerm room t

pub record IsOpened (room : ℕ) (l : Opened) : Type 0 where
  pub sum : IsSumPart room l.sum
  pub term : IsTermPart room l.term

abbrev pub AreOpened : ℕ → List Opened → Type 0
AreOpened room [] = Unit {0}
AreOpened room (l ∷ ls) = IsOpened (suc room) l × AreOpened (suc room) ls

-- the scan before an operand, and behind a term
abbrev pub before : Opened → List Opened → ℕ → ℕ → Scan
before l ls room budget =
    scan_of (outer_steps ls ++ (sum_part_steps l.sum ++ term_part_steps l.term)) (level_at l) (levels_at ls) room budget

abbrev pub behind : SumPart → Term → List Opened → ℕ → ℕ → Scan
behind sum t ls room budget =
    scan_of (outer_steps ls ++ (sum_part_steps sum ++ postfix (term_tree t)))
    (level_of (sum_part_operator sum) None 0) (levels_at ls) room budget

pub record IsBefore (l : Opened) (ls : List Opened) (room budget : ℕ) : Type 0 where
  pub inner : IsOpened room l
  pub outer : AreOpened room ls
  pub deep : length ls + room ≡ 64
  pub few : outer_count ls + opened_count l + budget ≡ 1000

pub record IsBehind (sum : SumPart) (t : Term) (ls : List Opened) (room budget : ℕ) : Type 0 where
  pub sums : IsSumPart room sum
  pub terms : IsTerm room t
  pub outer : AreOpened room ls
  pub deep : length ls + room ≡ 64
  pub few : outer_count ls + (sum_part_count sum + term_count t) + budget ≡ 1000

pub record Found (text : List ℕ) (out : List Step) : Type 0 where
  pub sum : Sum
  pub written : text ≡ sum_text sum
  pub leaves : IsSum 64 sum
  pub short : sum_count sum ≤ 1000
  pub same : out ≡ postfix (sum_tree sum)

pub record Reads (n : ℕ) : Type 0 where
  pub wanted : (rest : List ℕ) → length rest ≤ n → (l : Opened) (ls : List Opened) (room budget : ℕ) (out : List Step)
      → IsBefore l ls room budget
      → scan Wanted (before l ls room budget) rest ≡ Some out → Found (outer_text ls ++ (opened_text l ++ rest)) out
  pub whole : (rest : List ℕ) → length rest ≤ n
      → (sum : SumPart) (t : Term) (ls : List Opened) (room budget : ℕ) (out : List Step)
      → IsBehind sum t ls room budget
      → scan Behind (behind sum t ls room budget) rest ≡ Some out
      → Found (outer_text ls ++ (sum_part_text sum ++ (term_text t ++ rest))) out

-- the sum that ends with a term
abbrev pub ended : SumPart → Term → Sum
ended NoSum t = OneTerm t
ended (SumBefore s o) t = Added s o t

pub ended_text : (sum : SumPart) (t : Term) → sum_text (ended sum t) ≡ sum_part_text sum ++ term_text t
ended_text sum t = grind (arith, append_assoc)

pub ended_steps : (sum : SumPart) (t : Term)
    → (sum_part_steps sum ++ postfix (term_tree t)) ++ waiting (sum_part_operator sum)
    ≡ postfix (sum_tree (ended sum t))
ended_steps sum t = grind (arith, append-nil, append_assoc)

pub ended_count : (sum : SumPart) (t : Term) → sum_count (ended sum t) ≡ sum_part_count sum + term_count t
ended_count sum t = grind arith

pub ended_fits : (room : ℕ) (sum : SumPart) (t : Term) → IsSumPart room sum → IsTerm room t → IsSum room (ended sum t)
ended_fits room sum t h k = grind arith

-- the term that ends with a factor behind signs
abbrev pub signed : List Sign → Factor → Factor
signed [] f = f
signed (o ∷ signs) f = Signed o (signed signs f)

abbrev pub joined : TermPart → Factor → Term
joined NoTerm f = OneFactor f
joined (TermBefore t o) f = Multiplied t o f

pub signed_text : (signs : List Sign) (f : Factor) → factor_text (signed signs f) ≡ signs_text signs ++ factor_text f
signed_text [] f = refl
signed_text (o ∷ signs) f = ap (λ l. sign_byte o ∷ l) (signed_text signs f)

pub signed_count : (signs : List Sign) (f : Factor) → factor_count (signed signs f) ≡ length signs + factor_count f
signed_count [] f = omega arith
signed_count (o ∷ signs) f = omega (arith, signed_count signs f)

pub signed_fits : (room : ℕ) (signs : List Sign) (f : Factor) → IsFactor room f → IsFactor room (signed signs f)
signed_fits zero [] f h = h
signed_fits (suc room) [] f h = h
signed_fits zero (o ∷ signs) f h = signed_fits zero signs f h
signed_fits (suc room) (o ∷ signs) f h = signed_fits (suc room) signs f h

pub one_more : (n : ℕ) (step : Step) → replicate n step ++ step ∷ [] ≡ step ∷ replicate n step
one_more zero step = refl
one_more (suc n) step = ap (λ l. step ∷ l) (one_more n step)

pub signed_steps : (signs : List Sign) (f : Factor)
    → postfix (factor_tree (signed signs f)) ≡ postfix (factor_tree f) ++ replicate (minuses signs) Negate
signed_steps [] f = sym (append-nil (postfix (factor_tree f)))
signed_steps (Plus ∷ signs) f = signed_steps signs f
signed_steps (Minus ∷ signs) f = grind (arith, append_assoc, one_more, signed_steps signs f)

pub joined_count : (term : TermPart) (f : Factor) → term_count (joined term f) ≡ term_part_count term + factor_count f
joined_count term f = grind arith

pub joined_steps : (term : TermPart) (f : Factor)
    → term_part_steps term ++ (postfix (factor_tree f) ++ waiting (term_part_operator term))
    ≡ postfix (term_tree (joined term f))
joined_steps term f = grind (arith, append-nil)

-- a whole operand
pub operand_steps : (o s t f : List Step) (n : ℕ) (w : List Step)
    → o ++ (s ++ t) ++ f ++ replicate n Negate ++ w ≡ o ++ (s ++ (t ++ ((f ++ replicate n Negate) ++ w)))
operand_steps o s t f n w = simp append_assoc

pub operand_whole : (l : Opened) (ls : List Opened) (room budget : ℕ) (f : Factor)
    → with_operand
    (scan_of (outer_steps ls ++ (sum_part_steps l.sum ++ term_part_steps l.term) ++ postfix (factor_tree f))
    (level_at l) (levels_at ls) room budget)
    ≡ behind l.sum (joined l.term (signed l.signs f)) ls room budget
operand_whole l ls room budget f = grind (arith, operand_steps, signed_steps, joined_steps)

pub operand_behind : (l : Opened) (ls : List Opened) (room budget : ℕ) (f : Factor) → IsOpened room l
    → AreOpened room ls → length ls + room ≡ 64 → IsFactor room f
    → outer_count ls + opened_count l + factor_count f + budget ≡ 1000
    → IsBehind l.sum (joined l.term (signed l.signs f)) ls room budget
operand_behind l ls room budget f inner outer deep fits few = grind (arith, signed_fits, joined_count, signed_count)

pub operand_text : (l : Opened) (f : Factor) (rest : List ℕ)
    → sum_part_text l.sum ++ (term_text (joined l.term (signed l.signs f)) ++ rest)
    ≡ opened_text l ++ (factor_text f ++ rest)
operand_text l f rest = grind (arith, signed_text, append_assoc)
