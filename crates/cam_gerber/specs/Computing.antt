-- The one thing that a file means, as a function; the law ties it to the meaning.
use Rattle.std.specs.Prelude.{ℕ, List, [], length, map, Result, Ok, Err}
use Rattle.cam_refusals.specs.declared.read_fault.ReadFault.{ReadFault}
use Rattle.cam_words.specs.Reading.{WordAnswer, reading}
use Rattle.cam_macros.specs.Reading.{pieces, first}
use Rattle.cam_macros.specs.Parsing.{parts_of}
use Rattle.cam_objects.specs.Contents.{Content}
use Rattle.cam_commands.specs.Commands.{Command, DefineMacro}
use Rattle.cam_commands.specs.Syntax.{command_of, start_of}
use Rattle.cam_gerber.specs.Statements.{Statement, Says, NamesMacro, Uncut, Told}
use Rattle.cam_gerber.specs.State.{Past}
use Rattle.cam_gerber.specs.Reading.{given, Means}

abbrev pub statement_said : Command → Statement
statement_said (DefineMacro text) = NamesMacro (first (pieces text)) (parts_of text)
statement_said command = Says command

-- what the cutting answers tells
abbrev pub told_of : WordAnswer → Told
told_of (Ok word) = record { says = statement_said (command_of word); at = start_of word }
told_of (Err fault) = record { says = Uncut fault.code; at = fault.at }

-- what the rest of a file of so many bytes gives, behind a past without a fault
abbrev pub lead_of : ℕ → Past → List WordAnswer → Result Content ReadFault
lead_of len past answers = given len past (map told_of answers)

-- the layer of a file, or its fault
unfoldable pub reading_of : List ℕ → Result Content ReadFault
reading_of bytes = lead_of (length bytes) [] (reading 0 bytes)

-- each file means what is computed, and so nothing else
abbrev pub MeansItsReading : Type 0
MeansItsReading = (bytes : List ℕ) → Means bytes (reading_of bytes)
