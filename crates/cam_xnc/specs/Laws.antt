-- Laws of what XNC files mean.
use Rattle.std.specs.Prelude.{◌≡◌, ℕ, List, ◌∷◌, Ok, Err}
use Rattle.cam_refusals.specs.declared.read_fault.ReadFault.{ReadFault}
use Rattle.cam_refusals.specs.declared.refusal.Refusal.TheVariants.{NoMemory}
use Rattle.cam_refusals.specs.FileFaults.{IsFileFault, IsNotBehind}
use Rattle.cam_objects.specs.declared.drill_layer.DrillLayer.{DrillLayer}
use Rattle.cam_objects.specs.DrillSoundness.{IsSoundDrillContent}
use Rattle.cam_xnc.specs.declared.statement.Coordinate.{Coordinate}
use Rattle.cam_xnc.specs.declared.statement.Statement.TheVariants.{DrillMode, Slot, RoutTo, Lower, CutTo, Raise}
use Rattle.cam_xnc.specs.declared.modes.Mode.TheVariants.{Drilling}
use Rattle.cam_xnc.specs.DrillState.{DrillPast, part_in, drill_unit_in, drill_mode_in, tool_in_force, drill_point_in, drill_layer_in}
use Rattle.cam_xnc.specs.Reading.{places_of, drill_reading_of}
use Rattle.cam_objects.specs.Contents.{DrillContent, drill_content_of}

-- a fault of the file: one that holds at a line that is read, or at the end, which no M30 stands before
abbrev pub IsDrillFault : List ℕ → ReadFault → Type 0
IsDrillFault bytes fault = IsFileFault (places_of bytes) fault

-- the fault that is told is one of the file's, of the least place, and there of the least number
abbrev pub TellsLeastDrillFault : Type 0
TellsLeastDrillFault = (bytes : List ℕ) (f : ReadFault) → drill_reading_of bytes ≡ Err f
    → IsDrillFault bytes f × ((g : ReadFault) → IsDrillFault bytes g → IsNotBehind f g)

-- a file that gives a layer has no fault
abbrev pub GivesFaultlessDrillFiles : Type 0
GivesFaultlessDrillFiles = (bytes : List ℕ) (layer : DrillLayer) (f : ReadFault) → drill_reading_of bytes ≡ Ok (drill_content_of layer)
    → ¬ IsDrillFault bytes f

-- no fault of a file is one of memory
abbrev pub IsNoDrillMemoryFault : Type 0
IsNoDrillMemoryFault = (bytes : List ℕ) (f : ReadFault) → drill_reading_of bytes ≡ Err f → f.code ≡ NoMemory → ⊥

-- a layer that a file gives is sound
abbrev pub GivesSoundDrillLayers : Type 0
GivesSoundDrillLayers =
    (bytes : List ℕ) (layer : DrillContent) → drill_reading_of bytes ≡ Ok layer → IsSoundDrillContent layer.tools layer.items

-- the past behind a rout that goes to a start, cuts to an end and goes back to drilling
abbrev pub routed : (past : DrillPast) (start_x start_y end_x end_y : Coordinate) → DrillPast
routed past start_x start_y end_x end_y = DrillMode ∷ Raise ∷ CutTo end_x end_y ∷ Lower ∷ RoutTo start_x start_y ∷ past

-- two pasts with the same layer and the same values in force, but for an open rout
pub record AreAlike (one other : DrillPast) : Type 0 where
  pub part : part_in one ≡ part_in other
  pub unit : drill_unit_in one ≡ drill_unit_in other
  pub layer : drill_layer_in one ≡ drill_layer_in other
  pub point : drill_point_in one ≡ drill_point_in other
  pub mode : drill_mode_in one ≡ drill_mode_in other
  pub tool : tool_in_force one ≡ tool_in_force other

-- a slot in drill mode leaves what its rout leaves
abbrev pub SlotsAreRouts : Type 0
SlotsAreRouts = (past : DrillPast) (start_x start_y end_x end_y : Coordinate) → drill_mode_in past ≡ Drilling
    → AreAlike (Slot start_x start_y end_x end_y ∷ past) (routed past start_x start_y end_x end_y)
