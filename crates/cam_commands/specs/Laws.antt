-- What stands above the definitions: a word says what it is written from, and the two letters of an extended command decide.
use Rattle.std.specs.Prelude.{◌≡◌, ◌≢◌, ℕ, ◌<◌, List, [], ◌∷◌, ◌++◌, length, take, true, false, Option, Some, None}
use Rattle.std.specs.Option.{option_and_then}
use Rattle.std.specs.List.{list_all, list_any}
use Rattle.cam_words.specs.Bytes.{is_star}
use Rattle.cam_words.specs.Heads.{packed}
use Rattle.cam_commands.specs.declared.parts.Mode.{Mode}
use Rattle.cam_commands.specs.declared.parts.Operation.{Operation}
use Rattle.cam_commands.specs.declared.names.Name.{Name}
use Rattle.cam_commands.specs.declared.names.Name.TheVariants.{ApertureMacro}
use Rattle.cam_numbers.specs.Numbers.{is_numeric, natural}
use Rattle.cam_commands.specs.Commands.{SetMode, Operate, Unknown}
use Rattle.cam_commands.specs.WordCommands.{OperationParts, mode_of, operation_of, word_command}
use Rattle.cam_commands.specs.ExtendedCommands.{letters_of, named_command, extended_command}

-- digits, signs and points alone
abbrev pub IsNumberRun : List ℕ → Type 0
IsNumberRun run = list_all is_numeric run ≡ true

abbrev pub IsRunIfWritten : Option (List ℕ) → Type 0
IsRunIfWritten None = Unit {0}
IsRunIfWritten (Some run) = IsNumberRun run

pub record ArePartRuns (p : OperationParts) : Type 0 where
  pub x : IsRunIfWritten p.x
  pub y : IsRunIfWritten p.y
  pub i : IsRunIfWritten p.i
  pub j : IsRunIfWritten p.j
  pub d : IsRunIfWritten p.d

-- a letter before its run, where it is written
abbrev pub field_text : ℕ → Option (List ℕ) → List ℕ
field_text letter None = []
field_text letter (Some run) = letter ∷ run

-- X (88), Y (89), I (73), J (74) and D (68), each with its run
abbrev pub parts_text : OperationParts → List ℕ
parts_text p = field_text 88 p.x ++ (field_text 89 p.y ++ (field_text 73 p.i ++ (field_text 74 p.j ++ field_text 68 p.d)))

-- a word that is written from parts says their operation, also behind the G code (71) of a mode, which may stand alone
pub record WordsSayTheirParts : Type 0 where
  pub bare : (p : OperationParts) → ArePartRuns p → p.mode ≡ None → 0 < length (parts_text p) → word_command (parts_text p) ≡ operation_of p
  pub behind_mode : (p : OperationParts) (run : List ℕ) (code : ℕ) (mode : Mode) → ArePartRuns p → IsNumberRun run → natural run ≡ Some code
      → mode_of code ≡ Some mode → p.mode ≡ Some mode
      → 0 < length (parts_text p) → word_command (71 ∷ run ++ parts_text p) ≡ operation_of p
  pub mode_alone : (run : List ℕ) (code : ℕ) (mode : Mode) → IsNumberRun run → natural run ≡ Some code → mode_of code ≡ Some mode
      → word_command (71 ∷ run) ≡ SetMode mode

-- the text is written from the parts of an operation, behind the G code of its mode or without one
pub record IsWrittenFrom (text : List ℕ) (p : OperationParts) (prefix : Option (List ℕ)) : Type 0 where
  pub runs : ArePartRuns p
  pub prefix_run : IsRunIfWritten prefix
  pub mode_is : p.mode ≡ option_and_then (λ run. option_and_then mode_of (natural run)) prefix
  pub text_is : text ≡ field_text 71 prefix ++ parts_text p

-- a word that says an operation is written from parts that say it
abbrev pub OperationsAreWritten : Type 0
OperationsAreWritten =
    (text : List ℕ) (operation : Operation) → word_command text ≡ Operate operation
    → (p : OperationParts) × (prefix : Option (List ℕ)) × IsWrittenFrom text p prefix × (operation_of p ≡ Operate operation)

-- the two letters of an extended command decide what it says of its data
pub record NamesDecide : Type 0 where
  pub known : (name : Name) (text : List ℕ) → list_any is_star text ≡ false
      → extended_command (letters_of name ++ text) ≡ named_command name text
  pub macro : (text : List ℕ) → extended_command (letters_of ApertureMacro ++ text) ≡ named_command ApertureMacro text
  pub several : (name : Name) (text : List ℕ) → name ≢ ApertureMacro → list_any is_star text ≡ true
      → extended_command (letters_of name ++ text) ≡ Unknown
  pub unknown : (text : List ℕ) → ((name : Name) → take 2 (packed text) ≢ letters_of name) → extended_command text ≡ Unknown
