-- A macro as the text of an AM command stands for it (Gerber Layer Format Specification, "Aperture macro (AM)").
use Rattle.std.specs.Prelude.{◌≡◌, ℕ, min, List, [], ◌∷◌, ◌++◌, filter, Bool, true, false, not, ◌==◌, ◌&&◌}
use Rattle.std.specs.Prelude.{Option, Some, None, ⊤}
use Rattle.std.specs.Borrow.{Bor}
use Rattle.std.specs.Option.{option_copied}
use Rattle.std.specs.List.{slice_split, list_any}
use Rattle.std.specs.Char.{is_ascii_digit}
use Rattle.cam_macros.specs.declared.part.Part.{Part}
use Rattle.cam_macros.specs.declared.part.Part.TheVariants.{Assignment, Primitive}
use Rattle.cam_macros.specs.declared.fault.MacroFault.{MacroFault}
use Rattle.cam_macros.specs.declared.fault.MacroFault.TheVariants.{BadName}
use Rattle.cam_words.specs.Bytes.{star}
use Rattle.cam_words.specs.Heads.{packed}
use Rattle.cam_words.specs.Pieces.{pieces_of}
use Rattle.cam_macros.specs.Answers.{IsMalformed, Nothing}
use Rattle.cam_macros.specs.Bytes.{comma_sign, dollar, equals, nought}
use Rattle.cam_macros.specs.Tree.{Tree}
use Rattle.cam_numbers.specs.Numbers.{value_of}
use Rattle.cam_macros.specs.Grammar.{AreDigits, IsVariable, IsExpression}

-- the name and the parts, between which stand stars; line ends, spaces and tabs do not count
abbrev pub pieces : List ℕ → List (List ℕ)
pieces text = slice_split (λ b. b == star) (packed text)

abbrev pub first : List (List ℕ) → List ℕ
first [] = []
first (name ∷ _) = name

abbrev pub others : List (List ℕ) → List (List ℕ)
others [] = []
others (_ ∷ parts) = parts

-- no digit first, and no comma
abbrev pub is_macro_name : List ℕ → Bool
is_macro_name [] = false
is_macro_name (b ∷ bs) = not (is_ascii_digit b) && not (list_any (λ c. c == comma_sign) (b ∷ bs))

-- an empty part, or a comment
abbrev pub is_silent : List ℕ → Bool
is_silent [] = true
is_silent (b ∷ _) = b == nought

-- the pieces that are parts
abbrev pub parts_spoken : List (List ℕ) → List (List ℕ)
parts_spoken pieces = filter (λ piece. not (is_silent piece)) pieces

abbrev pub AreExpressions : List (List ℕ) → List Tree → Type 0
AreExpressions [] [] = ⊤
AreExpressions (text ∷ texts) (tree ∷ trees) = IsExpression text tree × AreExpressions texts trees
AreExpressions [] (_ ∷ _) = ⊥
AreExpressions (_ ∷ _) [] = ⊥

-- `$n=expression`
pub record IsAssignment (piece : List ℕ) (variable : ℕ) (value : Tree) : Type 0 where
  pub digits : List ℕ
  pub text : List ℕ
  pub written : piece ≡ (dollar ∷ digits) ++ equals ∷ text
  pub number : IsVariable digits
  pub same : variable ≡ value_of digits
  pub reads : IsExpression text value

-- a code, and behind it expressions, each behind a comma; a code past 9,999 counts as 10,000
pub record IsPrimitive (piece : List ℕ) (code : ℕ) (fields : List Tree) : Type 0 where
  pub digits : List ℕ
  pub texts : List (List ℕ)
  pub written : slice_split (λ b. b == comma_sign) piece ≡ digits ∷ texts
  pub some : digits ≡ [] → ⊥
  pub number : AreDigits digits
  pub same : code ≡ min (value_of digits) 10000
  pub reads : AreExpressions texts fields

abbrev pub IsPart : List ℕ → Part → Type 0
IsPart piece (Assignment variable value) = IsAssignment piece variable value
IsPart piece (Primitive code fields) = IsPrimitive piece code fields

abbrev pub AreParts : List (List ℕ) → List Part → Type 0
AreParts [] [] = ⊤
AreParts (piece ∷ pieces) (part ∷ parts) = IsPart piece part × AreParts pieces parts
AreParts [] (_ ∷ _) = ⊥
AreParts (_ ∷ _) [] = ⊥

-- the text stands for a macro of this name and with these parts
pub record IsMacroReading (text name : List ℕ) (parts : List Part) : Type 0 where
  pub name_is : name ≡ first (pieces text)
  pub named : is_macro_name name ≡ true
  pub parts_are : AreParts (parts_spoken (others (pieces text))) parts

-- why the text stands for none
abbrev pub IsMacroRefused : List ℕ → MacroFault → Type 0
IsMacroRefused text BadName = is_macro_name (first (pieces text)) ≡ false
IsMacroRefused text fault =
    IsMalformed fault ((is_macro_name (first (pieces text)) ≡ true) × ((name : List ℕ) → Nothing (IsMacroReading text name)))

-- the pieces between bytes, if any text is left
abbrev pub pieces_between : ℕ → Option (Bor (List ℕ)) → List (List ℕ)
pieces_between c rest = pieces_of c (option_copied rest)

-- a text stands for one macro at most
abbrev pub OneReadingLaw : Type 0
OneReadingLaw = (text m n : List ℕ) (a b : List Part) → IsMacroReading text m a → IsMacroReading text n b → (m ≡ n) × (a ≡ b)
