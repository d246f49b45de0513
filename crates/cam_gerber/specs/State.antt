-- The graphics state of a Gerber file. The past of a command is the list of what the commands before it say, the
-- newest first, and each value of the state is read off it. Gerber Layer Format Specification, "Graphics state".
use Rattle.std.specs.Prelude.{ℕ, ℤ, pos, ◌+ℤ◌, List, [], ◌∷◌, Option, Some, None, unwrap_or, Bool, true, false}
use Rattle.std.specs.Option.{option_or, option_map}
use Rattle.std.specs.Prelude.{Result, Ok, Err}
use Rattle.cam_units.specs.declared.length.Unit.{Unit as FileUnit}
use Rattle.cam_units.specs.declared.point.Point.{Point}
use Rattle.cam_units.specs.declared.turn.Turn.{Turn}
use Rattle.cam_units.specs.declared.turn.Turn.TheVariants.{R0, R180, M0, M180}
use Rattle.cam_units.specs.Nearest.{coord_of, unit_or_mm}
use Rattle.cam_macros.specs.declared.fault.MacroFault.{MacroFault}
use Rattle.cam_macros.specs.Expansion.{rotation}
use Rattle.cam_objects.specs.Turning.{after}
use Rattle.cam_commands.specs.declared.parts.Format.{Format}
use Rattle.cam_commands.specs.declared.parts.Slot.{Slot}
use Rattle.cam_commands.specs.declared.parts.Slot.TheVariants.{Omitted, Malformed, Written}
use Rattle.cam_commands.specs.declared.parts.Polarity.{Polarity}
use Rattle.cam_commands.specs.declared.parts.Polarity.TheVariants.{Dark, Clear}
use Rattle.cam_commands.specs.declared.parts.Mirror.{Mirror}
use Rattle.cam_commands.specs.declared.parts.Mirror.TheVariants as mirror
use Rattle.cam_commands.specs.declared.parts.Mode.{Mode}
use Rattle.cam_commands.specs.declared.parts.Mode.TheVariants.{Linear}
use Rattle.cam_commands.specs.declared.parts.Operation.{Operation}
use Rattle.cam_commands.specs.declared.parts.OperationCode.{OperationCode}
use Rattle.cam_commands.specs.declared.parts.OperationCode.TheVariants.{Plot}
use Rattle.cam_commands.specs.Commands.{Command, SetFormat, SetUnit, SetPolarity, SetMirror, SetRotation, SetMode}
use Rattle.cam_commands.specs.Commands.{SingleQuadrant, MultiQuadrant, BeginRegion, EndRegion, Select, Operate}
use Rattle.cam_gerber.specs.Statements.{Statement, Says}

abbrev pub Past : Type 0
Past = List Statement

-- what the newest command that tells it says
abbrev pub newest : {A : Type 0} → (Command → Option A) → Past → Option A
newest tells [] = None
newest tells (Says command ∷ older) = option_or (tells command) (newest tells older)
newest tells (_ ∷ older) = newest tells older

-- ---- settings

abbrev pub format_told : Command → Option Format
format_told (SetFormat format) = Some format
format_told _ = None

abbrev pub format_in : Past → Option Format
format_in past = newest format_told past

abbrev pub unit_told : Command → Option FileUnit
unit_told (SetUnit unit style) = Some unit
unit_told _ = None

abbrev pub unit_in : Past → Option FileUnit
unit_in past = newest unit_told past

abbrev pub is_dark : Polarity → Bool
is_dark Dark = true
is_dark Clear = false

abbrev pub darkness_told : Command → Option Bool
darkness_told (SetPolarity polarity) = Some (is_dark polarity)
darkness_told _ = None

-- objects darken
abbrev pub dark_in : Past → Bool
dark_in past = unwrap_or (newest darkness_told past) true

-- x negated, y negated, or both
abbrev pub turn_of_mirror : Mirror → Turn
turn_of_mirror mirror.Neither = R0
turn_of_mirror mirror.X = M0
turn_of_mirror mirror.Y = M180
turn_of_mirror mirror.Both = R180

abbrev pub mirror_told : Command → Option Turn
mirror_told (SetMirror mirroring) = Some (turn_of_mirror mirroring)
mirror_told _ = None

abbrev pub unturned_or : Result Turn MacroFault → Turn
unturned_or (Ok turn) = turn
unturned_or (Err fault) = R0

-- an angle in 10^-9 of a degree, counterclockwise; those that are no quarter turns are faults
unfoldable pub turn_of_angle : ℤ → Turn
turn_of_angle angle = unturned_or (rotation angle)

abbrev pub rotation_told : Command → Option Turn
rotation_told (SetRotation angle) = option_map turn_of_angle angle
rotation_told _ = None

-- apertures are first mirrored, then rotated
abbrev pub mirror_in : Past → Turn
mirror_in past = unwrap_or (newest mirror_told past) R0

abbrev pub rotation_in : Past → Turn
rotation_in past = unwrap_or (newest rotation_told past) R0

abbrev pub turn_in : Past → Turn
turn_in past = after (mirror_in past) (rotation_in past)

abbrev pub aperture_told : Command → Option ℕ
aperture_told (Select number) = number
aperture_told _ = None

-- the number of the current aperture
abbrev pub aperture_in : Past → Option ℕ
aperture_in past = newest aperture_told past

-- alone, or before an operation
abbrev pub mode_told : Command → Option Mode
mode_told (SetMode mode) = Some mode
mode_told (Operate operation) = operation.mode
mode_told _ = None

abbrev pub mode_in : Past → Mode
mode_in past = unwrap_or (newest mode_told past) Linear

abbrev pub arcs_told : Command → Option Bool
arcs_told SingleQuadrant = Some false
arcs_told MultiQuadrant = Some true
arcs_told _ = None

-- arcs may be plotted: under G75
abbrev pub has_arcs : Past → Bool
has_arcs past = unwrap_or (newest arcs_told past) false

abbrev pub region_told : Command → Option Bool
region_told BeginRegion = Some true
region_told EndRegion = Some false
region_told _ = None

-- between G36 and G37
abbrev pub in_region : Past → Bool
in_region past = unwrap_or (newest region_told past) false

-- ---- operations

-- coordinates alone plot
abbrev pub code_of : Operation → OperationCode
code_of operation = unwrap_or operation.code Plot

abbrev pub code_told : Command → Option OperationCode
code_told (Operate operation) = Some (code_of operation)
code_told _ = None

-- what the last operation did
abbrev pub code_in : Past → Option OperationCode
code_in past = newest code_told past

abbrev pub slot_value : Slot ℤ → Option ℤ
slot_value Omitted = None
slot_value Malformed = None
slot_value (Written n) = Some n

abbrev pub x_told : Command → Option ℤ
x_told (Operate operation) = slot_value operation.x
x_told _ = None

abbrev pub y_told : Command → Option ℤ
y_told (Operate operation) = slot_value operation.y
y_told _ = None

-- lengths before the unit are as in mm, and coordinates before the format as whole units; both are faults
abbrev pub decimals_of : Option Format → ℕ
decimals_of None = 0
decimals_of (Some format) = format.decimals

-- a coordinate by the format and the unit, in nm
unfoldable pub coordinate_nm : Option Format → Option FileUnit → ℤ → ℤ
coordinate_nm format unit n = coord_of n (decimals_of format) (unit_or_mm unit)

-- the coordinate that the newest operation with one has written
abbrev pub newest_nm : (Command → Option ℤ) → Past → ℤ
newest_nm tells [] = pos 0
newest_nm tells (Says command ∷ older) =
    unwrap_or (option_map (coordinate_nm (format_in older) (unit_in older)) (tells command)) (newest_nm tells older)
newest_nm tells (_ ∷ older) = newest_nm tells older

-- the current point
abbrev pub point_in : Past → Point
point_in past = record { x = newest_nm x_told past; y = newest_nm y_told past }

-- how far an offset goes, in nm; an omitted one is 0
abbrev pub offset_nm : Past → Slot ℤ → ℤ
offset_nm past slot = unwrap_or (option_map (coordinate_nm (format_in past) (unit_in past)) (slot_value slot)) (pos 0)

-- the centre of an arc from the current point
abbrev pub arc_centre : Past → Operation → Point
arc_centre past operation =
    record { x = (point_in past).x +ℤ offset_nm past operation.i; y = (point_in past).y +ℤ offset_nm past operation.j }
