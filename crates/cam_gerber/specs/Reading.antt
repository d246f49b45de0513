-- What a Gerber file means: the fault that is told of its places or, where it has none, its layer.
use Rattle.std.specs.Prelude.{◌≡◌, ℕ, List, [], ◌∷◌, length, Option, Some, None, Result, Ok, Err, ◌⊎◌, Bool, true}
use Rattle.std.specs.Prelude.{false, if◌then◌else◌}
use Rattle.cam_refusals.specs.declared.read_fault.ReadFault.{ReadFault}
use Rattle.cam_refusals.specs.declared.refusal.Refusal.TheVariants.{NoEnd}
use Rattle.cam_refusals.specs.FileFaults.{Place, first_told, told_at, no_memory}
use Rattle.cam_words.specs.Reading.{WordAnswer, reading}
use Rattle.cam_objects.specs.declared.layer.Layer.{Layer}
use Rattle.cam_commands.specs.Commands.{Command, End}
use Rattle.cam_objects.specs.Contents.{Content, content_of}
use Rattle.cam_gerber.specs.Statements.{Statement, Says, Told, IsCommandTold}
use Rattle.cam_gerber.specs.State.{Past}
use Rattle.cam_gerber.specs.Layers.{layer_in}
use Rattle.cam_gerber.specs.Faults.{faults}

abbrev pub is_end_command : Command → Bool
is_end_command End = true
is_end_command _ = false

-- the statement is M02
abbrev pub is_end : Statement → Bool
is_end (Says command) = is_end_command command
is_end _ = false

-- ---- places

-- where a command stands, and what it may be refused for behind a past
abbrev pub place_behind : Past → Told → Place
place_behind past command = record { at = command.at; checks = faults past command.says }

-- the fault that it tells
abbrev pub fault_told : Past → Told → Option ReadFault
fault_told past command = told_at (place_behind past command)

-- the places of the rest of a file of so many bytes, behind a past: its commands up to and with the first M02, or else
-- its end; what stands behind M02 is not read
abbrev pub places_from : ℕ → Past → List Told → List Place
places_from len past [] = record { at = len; checks = (NoEnd, true) ∷ [] } ∷ []
places_from len past (command ∷ later) =
    place_behind past command ∷ (if is_end command.says then [] else places_from len (command.says ∷ past) later)

-- the past that its commands make
abbrev pub past_from : Past → List Told → Past
past_from past [] = past
past_from past (command ∷ later) =
    if is_end command.says then command.says ∷ past else past_from (command.says ∷ past) later

-- ---- what a file gives

-- a layer, unless a fault is told
abbrev pub layer_unless : Option ReadFault → Content → Result Content ReadFault
layer_unless None layer = Ok layer
layer_unless (Some fault) layer = Err fault

-- what commands give that are the rest of a file of so many bytes, behind a past without a fault
abbrev pub given : ℕ → Past → List Told → Result Content ReadFault
given len past commands = layer_unless (first_told (places_from len past commands)) (layer_in (past_from past commands))

-- each answer tells one of these commands
abbrev pub AreTold : List WordAnswer → List Told → Type 0
AreTold [] [] = Unit {0}
AreTold (answer ∷ answers) (command ∷ commands) = IsCommandTold answer command × AreTold answers commands
AreTold [] (command ∷ commands) = ⊥
AreTold (answer ∷ answers) [] = ⊥

-- what the rest of a file of so many bytes gives, behind a past without a fault
abbrev pub Leads : ℕ → Past → List WordAnswer → Result Content ReadFault → Type 0
Leads len past answers result = (commands : List Told) × AreTold answers commands × (result ≡ given len past commands)

-- a file gives a layer, or a fault
unfoldable pub Means : List ℕ → Result Content ReadFault → Type 0
Means bytes result = Leads (length bytes) [] (reading 0 bytes) result

abbrev pub layer_answer : Result Layer ReadFault → Result Content ReadFault
layer_answer (Ok layer) = Ok (content_of layer)
layer_answer (Err fault) = Err fault

-- the reader's answer: what the file means, but where memory was refused
abbrev pub IsReading : List ℕ → Result Layer ReadFault → Type 0
IsReading bytes result = Means bytes (layer_answer result) ⊎ (result ≡ Err no_memory)
