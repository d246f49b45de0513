-- What the words of a file say, the text of each macro read by its grammar.
-- Gerber Layer Format Specification, "Overview of the commands" and "Aperture macro (AM)".
use Rattle.std.specs.Prelude.{◌≡◌, ℕ, List, Option, Some, None, Ok, Err}
use Rattle.cam_refusals.specs.declared.refusal.Refusal.{Refusal}
use Rattle.cam_words.specs.Reading.{WordAnswer}
use Rattle.cam_macros.specs.declared.part.Part.{Part}
use Rattle.cam_macros.specs.Reading.{pieces, first, IsMacroReading}
use Rattle.cam_commands.specs.Commands.{Command, DefineMacro}
use Rattle.cam_commands.specs.Syntax.{command_of, start_of}

pub data Statement : Type 0 where
  -- a command that defines no macro
  Says : Command → Statement
  -- AM: the name, and the parts where the text stands for a macro
  NamesMacro : List ℕ → Option (List Part) → Statement
  -- the text cannot be cut here, and is refused for this
  Uncut : Refusal → Statement

-- the text stands for a macro with these parts, or for none
abbrev pub IsMacroRead : List ℕ → List ℕ → Option (List Part) → Type 0
IsMacroRead text name (Some parts) = IsMacroReading text name parts
IsMacroRead text name None = (parts : List Part) → ¬ IsMacroReading text name parts

-- a macro's statement is one of its text: its name stands before the first star
abbrev pub IsMacroOf : List ℕ → Statement → Type 0
IsMacroOf text (Says command) = ⊥
IsMacroOf text (NamesMacro name parts) = (name ≡ first (pieces text)) × IsMacroRead text name parts
IsMacroOf text (Uncut refusal) = ⊥

-- the statement of a command
abbrev pub IsSaidBy : Command → Statement → Type 0
IsSaidBy (DefineMacro text) statement = IsMacroOf text statement
IsSaidBy command statement = statement ≡ Says command

-- a statement, and the place of its command
pub record Told : Type 0 where
  pub says : Statement
  pub at : ℕ

-- what the cutting answers tells this
abbrev pub IsCommandTold : WordAnswer → Told → Type 0
IsCommandTold (Ok word) told = IsSaidBy (command_of word) told.says × (told.at ≡ start_of word)
IsCommandTold (Err fault) told = (told.says ≡ Uncut fault.code) × (told.at ≡ fault.at)
