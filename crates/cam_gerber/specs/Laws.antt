-- Laws of what Gerber files mean.
use Rattle.std.specs.Prelude.{◌≡◌, ◌≢◌, ◌↔◌, ℕ, List, [], ◌∷◌, ◌++◌, length, Some, None, Result, Ok, Err, ◌⊎◌, true}
use Rattle.std.specs.Prelude.{ℤ, false, not}
use Rattle.std.specs.List.{list_all, AllByRecursion, AllPairs}
use Rattle.cam_words.specs.Reading.{WordAnswer, reading}
use Rattle.cam_objects.specs.declared.layer.Layer.{Layer}
use Rattle.cam_objects.specs.Soundness.{IsSound}
use Rattle.cam_commands.specs.Commands.{SetFormat, SetUnit, SetPolarity, SetMirror, SetRotation, SetMode, Select}
use Rattle.cam_commands.specs.declared.parts.Format.{Format}
use Rattle.cam_commands.specs.declared.parts.Style.{Style}
use Rattle.cam_commands.specs.declared.parts.Polarity.{Polarity}
use Rattle.cam_commands.specs.declared.parts.Mirror.{Mirror}
use Rattle.cam_commands.specs.declared.parts.Mode.{Mode}
use Rattle.cam_units.specs.declared.length.Unit.{Unit as FileUnit}
use Rattle.cam_objects.specs.Contents.{Content, content_of}
use Rattle.cam_refusals.specs.declared.read_fault.ReadFault.{ReadFault}
use Rattle.cam_refusals.specs.declared.refusal.Refusal.TheVariants.{NoMemory}
use Rattle.cam_refusals.specs.Checks.{least}
use Rattle.cam_refusals.specs.FileFaults.{IsFileFault, IsNotBehind}
use Rattle.cam_refusals.specs.Refusals.{number_of}
use Rattle.cam_gerber.specs.Statements.{Says, Told}
use Rattle.cam_gerber.specs.State.{Past, format_in, unit_in, dark_in, is_dark, mirror_in, turn_of_mirror, rotation_in}
use Rattle.cam_gerber.specs.State.{turn_of_angle, aperture_in, mode_in, has_arcs, in_region, code_in, point_in}
use Rattle.cam_gerber.specs.Homes.{open_blocks, open_repeat, home}
use Rattle.cam_gerber.specs.Making.{contour_in}
use Rattle.cam_gerber.specs.Layers.{macros_in, layer_in}
use Rattle.cam_gerber.specs.Faults.{faults, is_defined}
use Rattle.cam_gerber.specs.Reading.{AreTold, Leads, Means, fault_told, is_end, places_from}

-- ---- what a file means

-- a file means one thing at most
abbrev pub MeansOneThing : Type 0
MeansOneThing = (bytes : List ℕ) (a b : Result Content ReadFault) → Means bytes a → Means bytes b → a ≡ b

-- none of them is the end
abbrev pub AreEndless : List Told → Type 0
AreEndless commands = list_all (λ c. not (is_end c.says)) commands ≡ true

-- the past that they make, behind another
abbrev pub behind : Past → List Told → Past
behind past [] = past
behind past (command ∷ later) = behind (command.says ∷ past) later

-- a fault of the file: one that holds at one of the places of its commands
pub record IsFault (bytes : List ℕ) (fault : ReadFault) : Type 0 where
  pub commands : List Told
  pub are_told : AreTold (reading 0 bytes) commands
  pub is : IsFileFault (places_from (length bytes) [] commands) fault

-- the fault that is told is one of the file's, of the least place, and there of the least number
abbrev pub TellsLeastGerberFault : Type 0
TellsLeastGerberFault =
    (bytes : List ℕ) (f : ReadFault) → Means bytes (Err f) → IsFault bytes f × ((g : ReadFault) → IsFault bytes g
    → IsNotBehind f g)

-- a file that gives a layer has no fault
abbrev pub GivesFaultlessFiles : Type 0
GivesFaultlessFiles = (bytes : List ℕ) (layer : Content) (f : ReadFault) → Means bytes (Ok layer) → ¬ IsFault bytes f

-- no fault of a file is one of memory
abbrev pub IsNoMemoryFault : Type 0
IsNoMemoryFault = (bytes : List ℕ) (f : ReadFault) → Means bytes (Err f) → f.code ≢ NoMemory

-- a layer that a file gives is sound
abbrev pub GivesSoundLayers : Type 0
GivesSoundLayers = (bytes : List ℕ) (layer : Layer) → Means bytes (Ok (content_of layer)) → IsSound layer

-- ---- pasts

-- no statement has a fault behind those before it
abbrev pub AreFaultless : Past → List Told → Type 0
AreFaultless past [] = Unit {0}
AreFaultless past (command ∷ later) = (fault_told past command ≡ None) × AreFaultless (command.says ∷ past) later

-- a front without end and without fault leads where the rest leads behind it
abbrev pub GoesOnBehindItsFront : Type 0
GoesOnBehindItsFront =
    (len : ℕ) (past : Past) (front rest : List WordAnswer) (told : List Told) (result : Result Content ReadFault)
    → AreTold front told → AreEndless told → AreFaultless past told
    → Leads len past (front ++ rest) result ↔ Leads len (behind past told) rest result

abbrev pub IsFaultless : Past → Type 0
IsFaultless [] = Unit {0}
IsFaultless (says ∷ older) = (least number_of (faults older says) ≡ None) × IsFaultless older

-- an open block has a number of its own, and no repeat is open with it
pub record HomesStayApart (past : Past) : Type 0 where
  pub blocks : AllPairs (λ m n. m ≢ n) (open_blocks past)
  pub entries : AllByRecursion (λ n. is_defined past n ≡ false) (open_blocks past)
  pub repeat : (open_blocks past ≡ []) ⊎ (open_repeat past ≡ None)

abbrev pub KeepsHomesApart : Type 0
KeepsHomesApart = (past : Past) → IsFaultless past → HomesStayApart past

-- both pasts leave the same state and the same layer
pub record IsSameState (past other : Past) : Type 0 where
  pub format : format_in past ≡ format_in other
  pub unit : unit_in past ≡ unit_in other
  pub dark : dark_in past ≡ dark_in other
  pub mirror : mirror_in past ≡ mirror_in other
  pub rotation : rotation_in past ≡ rotation_in other
  pub aperture : aperture_in past ≡ aperture_in other
  pub mode : mode_in past ≡ mode_in other
  pub arcs : has_arcs past ≡ has_arcs other
  pub region : in_region past ≡ in_region other
  pub code : code_in past ≡ code_in other
  pub point : point_in past ≡ point_in other
  pub contour : contour_in past ≡ contour_in other
  pub macros : macros_in past ≡ macros_in other
  pub home : home past ≡ home other
  pub layer : layer_in past ≡ layer_in other

-- a setting of the value that is in force changes nothing
pub record SameSettingsChangeNothing (past : Past) : Type 0 where
  pub format : (f : Format) → format_in past ≡ Some f → IsSameState (Says (SetFormat f) ∷ past) past
  pub unit : (u : FileUnit) (style : Style) → unit_in past ≡ Some u → IsSameState (Says (SetUnit u style) ∷ past) past
  pub polarity : (p : Polarity) → dark_in past ≡ is_dark p → IsSameState (Says (SetPolarity p) ∷ past) past
  pub mirror : (m : Mirror) → mirror_in past ≡ turn_of_mirror m → IsSameState (Says (SetMirror m) ∷ past) past
  pub rotation : (angle : ℤ) → rotation_in past ≡ turn_of_angle angle
      → IsSameState (Says (SetRotation (Some angle)) ∷ past) past
  pub mode : (m : Mode) → mode_in past ≡ m → IsSameState (Says (SetMode m) ∷ past) past
  pub aperture : (n : ℕ) → aperture_in past ≡ Some n → IsSameState (Says (Select (Some n)) ∷ past) past
