-- Expressions as texts without spaces (Gerber Layer Format Specification, "Aperture macro (AM)",
-- "Arithmetic expressions"). A sum is a term, or a sum, a sign and a term; a term is a factor, or a
-- term, a sign of multiplication or division and a factor: so all go left to right.
use Rattle.std.specs.Prelude.{◌≡◌, ℕ, zero, suc, ◌+◌, ◌<◌, ◌≤◌, List, [], ◌∷◌, ◌++◌, length, true}
use Rattle.std.specs.List.{list_all}
use Rattle.std.specs.Char.{is_ascii_digit}
use Rattle.cam_macros.specs.declared.expression.Operator.{Operator}
use Rattle.cam_macros.specs.declared.expression.Operator.TheVariants.{Add, Subtract, Multiply, Divide}
use Rattle.cam_macros.specs.Bytes.{closing, dollar, large_x, minus_sign, opening_parenthesis, plus, decimal_point, slash, small_x}
use Rattle.cam_macros.specs.Tree.{Tree, Number, Variable, Negative, Binary}
use Rattle.cam_numbers.specs.Numbers.{value_of}
use Rattle.cam_macros.specs.Numbers.{number_written}

-- + or -, between terms or before a factor
pub data Sign : Type 0 where
  Plus : Sign
  Minus : Sign

-- x, X or /
pub data Cross : Type 0 where
  Small : Cross
  Large : Cross
  Slash : Cross

-- digits, with a point behind some or none of them
pub data Decimal : Type 0 where
  Whole : List ℕ → Decimal
  Pointed : List ℕ → List ℕ → Decimal

mutual
  pub data Sum : Type 0 where
    OneTerm : Term → Sum
    Added : Sum → Sign → Term → Sum

  pub data Term : Type 0 where
    OneFactor : Factor → Term
    Multiplied : Term → Cross → Factor → Term

  pub data Factor : Type 0 where
    Numeral : Decimal → Factor
    Dollar : List ℕ → Factor
    Signed : Sign → Factor → Factor
    Enclosed : Sum → Factor

-- the texts

abbrev pub sign_byte : Sign → ℕ
sign_byte Plus = plus
sign_byte Minus = minus_sign

abbrev pub cross_byte : Cross → ℕ
cross_byte Small = small_x
cross_byte Large = large_x
cross_byte Slash = slash

abbrev pub decimal_text : Decimal → List ℕ
decimal_text (Whole whole) = whole
decimal_text (Pointed whole decimals) = whole ++ decimal_point ∷ decimals

abbrev mutual
  pub sum_text : Sum → List ℕ
  sum_text (OneTerm t) = term_text t
  sum_text (Added s o t) = sum_text s ++ sign_byte o ∷ term_text t

  pub term_text : Term → List ℕ
  term_text (OneFactor f) = factor_text f
  term_text (Multiplied t o f) = term_text t ++ cross_byte o ∷ factor_text f

  pub factor_text : Factor → List ℕ
  factor_text (Numeral d) = decimal_text d
  factor_text (Dollar digits) = dollar ∷ digits
  factor_text (Signed o f) = sign_byte o ∷ factor_text f
  factor_text (Enclosed s) = opening_parenthesis ∷ (sum_text s ++ closing ∷ [])

-- how many operators and signs there are

abbrev mutual
  pub sum_count : Sum → ℕ
  sum_count (OneTerm t) = term_count t
  sum_count (Added s o t) = sum_count s + suc (term_count t)

  pub term_count : Term → ℕ
  term_count (OneFactor f) = factor_count f
  term_count (Multiplied t o f) = term_count t + suc (factor_count f)

  pub factor_count : Factor → ℕ
  factor_count (Numeral _) = 0
  factor_count (Dollar _) = 0
  factor_count (Signed o f) = suc (factor_count f)
  factor_count (Enclosed s) = sum_count s

-- what is asked of the leaves

abbrev pub AreDigits : List ℕ → Type 0
AreDigits digits = list_all is_ascii_digit digits ≡ true

-- at least one digit, and less than a million
pub record IsNumber (whole decimals : List ℕ) : Type 0 where
  pub before : AreDigits whole
  pub behind : AreDigits decimals
  pub some : 0 < length whole + length decimals
  pub small : value_of whole < 1000000

abbrev pub IsDecimal : Decimal → Type 0
IsDecimal (Whole whole) = IsNumber whole []
IsDecimal (Pointed whole decimals) = IsNumber whole decimals

-- the number of a variable, from 1 to 9,999
pub record IsVariable (digits : List ℕ) : Type 0 where
  pub all : AreDigits digits
  pub some : 0 < value_of digits
  pub small : value_of digits < 10000

-- leaves as they should be, and parentheses at most so deep

abbrev mutual
  pub IsSum : ℕ → Sum → Type 0
  IsSum deep (OneTerm t) = IsTerm deep t
  IsSum deep (Added s o t) = IsSum deep s × IsTerm deep t

  pub IsTerm : ℕ → Term → Type 0
  IsTerm deep (OneFactor f) = IsFactor deep f
  IsTerm deep (Multiplied t o f) = IsTerm deep t × IsFactor deep f

  pub IsFactor : ℕ → Factor → Type 0
  IsFactor deep (Numeral d) = IsDecimal d
  IsFactor deep (Dollar digits) = IsVariable digits
  IsFactor deep (Signed o f) = IsFactor deep f
  IsFactor zero (Enclosed s) = ⊥
  IsFactor (suc deep) (Enclosed s) = IsSum deep s

-- what they stand for

abbrev pub sign_operator : Sign → Operator
sign_operator Plus = Add
sign_operator Minus = Subtract

abbrev pub cross_operator : Cross → Operator
cross_operator Small = Multiply
cross_operator Large = Multiply
cross_operator Slash = Divide

abbrev pub decimal_tree : Decimal → Tree
decimal_tree (Whole whole) = Number (number_written whole [])
decimal_tree (Pointed whole decimals) = Number (number_written whole decimals)

abbrev pub signed_tree : Sign → Tree → Tree
signed_tree Plus t = t
signed_tree Minus t = Negative t

abbrev mutual
  pub sum_tree : Sum → Tree
  sum_tree (OneTerm t) = term_tree t
  sum_tree (Added s o t) = Binary (sign_operator o) (sum_tree s) (term_tree t)

  pub term_tree : Term → Tree
  term_tree (OneFactor f) = factor_tree f
  term_tree (Multiplied t o f) = Binary (cross_operator o) (term_tree t) (factor_tree f)

  pub factor_tree : Factor → Tree
  factor_tree (Numeral d) = decimal_tree d
  factor_tree (Dollar digits) = Variable (value_of digits)
  factor_tree (Signed o f) = signed_tree o (factor_tree f)
  factor_tree (Enclosed s) = sum_tree s

-- a text and the tree for which it stands: parentheses at most 64 deep, at most 1,000 operators and signs
pub record IsExpression (text : List ℕ) (tree : Tree) : Type 0 where
  pub sum : Sum
  pub written : text ≡ sum_text sum
  pub leaves : IsSum 64 sum
  pub short : sum_count sum ≤ 1000
  pub stands_for : tree ≡ sum_tree sum

-- a text stands for one tree at most
abbrev pub OneTreeLaw : Type 0
OneTreeLaw = (text : List ℕ) (a b : Tree) → IsExpression text a → IsExpression text b → a ≡ b
