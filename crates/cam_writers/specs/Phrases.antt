-- The phrases of canonical Gerber texts: what each is written as, one command on a line, and what it says to the reader.
-- Gerber Layer Format Specification, "File attributes (TF)", "Graphics state", "Operations (D01/D02/D03)", "Aperture
-- definition (AD)", "Aperture macro (AM)", "Block aperture (AB)", "Step and repeat (SR)" and "Region statement (G36/G37)".
use Rattle.std.specs.Prelude.{ℕ, ℤ, pos, ◌-ℤ◌, List, [], ◌∷◌, ◌++◌, length, take, codes, decimal}
use Rattle.std.specs.Prelude.{Bool, true, false, None, Some, if◌then◌else◌}
use Rattle.std.specs.List.{flat_map}
use Rattle.std.specs.Ordering.{int_eq}
use Rattle.cam_units.specs.declared.length.Nm.{Nm}
use Rattle.cam_units.specs.declared.length.Unit.TheVariants.{Mm}
use Rattle.cam_units.specs.declared.point.Point.{Point}
use Rattle.cam_units.specs.declared.turn.Turn.{Turn}
use Rattle.cam_units.specs.declared.turn.Turn.TheVariants.{R0, R90, R180, R270, M0, M90, M180, M270}
use Rattle.cam_words.specs.Cutting.{Command, WordCommand, ExtendedCommand, bytes_of_command}
use Rattle.cam_macros.specs.declared.primitive.MacroPrimitive.{MacroPrimitive}
use Rattle.cam_macros.specs.declared.primitive.PrimShape.{PrimShape}
use Rattle.cam_macros.specs.declared.primitive.PrimShape.TheVariants.{Disc, Bar, Rect as Rectangle, Outline}
use Rattle.cam_macros.specs.Parsing.{parts_of}
use Rattle.cam_apertures.specs.declared.aperture.Aperture.{Aperture}
use Rattle.cam_apertures.specs.declared.aperture.Aperture.TheVariants.{Circle, Rect, Obround, Prims}
use Rattle.cam_objects.specs.declared.attribute.Attribute.{Attribute}
use Rattle.cam_commands.specs.declared.names.FreeText.TheVariants.{FileAttribute}
use Rattle.cam_commands.specs.declared.parts.Mirror.{Mirror}
use Rattle.cam_commands.specs.declared.parts.Mirror.TheVariants as mirror
use Rattle.cam_commands.specs.declared.parts.Mode.{Mode}
use Rattle.cam_commands.specs.declared.parts.Mode.TheVariants.{Linear, Clockwise, Counterclockwise}
use Rattle.cam_commands.specs.declared.parts.OperationCode.{OperationCode}
use Rattle.cam_commands.specs.declared.parts.OperationCode.TheVariants.{Plot, Move, Flash}
use Rattle.cam_commands.specs.declared.parts.Polarity.{Polarity}
use Rattle.cam_commands.specs.declared.parts.Polarity.TheVariants.{Dark, Clear}
use Rattle.cam_commands.specs.declared.parts.Slot.{Slot}
use Rattle.cam_commands.specs.declared.parts.Slot.TheVariants.{Omitted, Written}
use Rattle.cam_commands.specs.declared.parts.Style.TheVariants.{Extended}
use Rattle.cam_commands.specs.Commands.{SetFormat, SetUnit, DefineAperture, SetPolarity, SetMirror, SetRotation}
use Rattle.cam_commands.specs.Commands.{OpenBlock, CloseBlock, SetRepeat, CloseRepeat, SetMode, MultiQuadrant}
use Rattle.cam_commands.specs.Commands.{BeginRegion, EndRegion, KeepText, Select, Operate, End}
use Rattle.cam_gerber.specs.Statements.{Statement, Says, NamesMacro}
use Rattle.cam_writers.specs.Lengths.{mm, scaled, whole}

pub data Phrase : Type 0 where
  -- four integer digits and six decimals
  UseFormat : Phrase
  UseMillimetres : Phrase
  Attach : Attribute → Phrase
  -- arcs may be plotted
  UseArcs : Phrase
  UsePolarity : Bool → Phrase
  -- the mirror of a turn, and its rotation
  UseMirror : Turn → Phrase
  UseRotation : Turn → Phrase
  UseAperture : ℕ → Phrase
  UseMode : Mode → Phrase
  MoveTo : Point → Phrase
  FlashAt : Point → Phrase
  LineTo : Point → Phrase
  -- from a point to a point, about a centre
  ArcTo : Point → Point → Point → Phrase
  EnterRegion : Phrase
  LeaveRegion : Phrase
  -- the macro of the aperture of a number
  NameMacro : ℕ → List MacroPrimitive → Phrase
  NameAperture : ℕ → Aperture → Phrase
  EnterBlock : ℕ → Phrase
  LeaveBlock : Phrase
  -- columns and rows, and how far apart
  EnterRepeat : ℕ → ℕ → ℤ → ℤ → Phrase
  LeaveRepeat : Phrase
  Finish : Phrase

-- ---- parts of what is written

-- a turn is first a mirror of x or none, then a rotation
abbrev pub mirror_of : Turn → Turn
mirror_of M0 = M0
mirror_of M90 = M0
mirror_of M180 = M0
mirror_of M270 = M0
mirror_of _ = R0

abbrev pub rotation_of : Turn → Turn
rotation_of R0 = R0
rotation_of R90 = R90
rotation_of R180 = R180
rotation_of R270 = R270
rotation_of M0 = R0
rotation_of M90 = R90
rotation_of M180 = R180
rotation_of M270 = R270

-- the letters of a mirror
abbrev pub mirror_letters : Turn → List ℕ
mirror_letters M0 = codes "LMX"
mirror_letters _ = codes "LMN"

-- the degrees of a rotation
abbrev pub rotation_letters : Turn → List ℕ
rotation_letters R90 = codes "LR90"
rotation_letters R180 = codes "LR180"
rotation_letters R270 = codes "LR270"
rotation_letters _ = codes "LR0"

-- `X..Y..`, in nm
unfoldable pub coordinates : Point → List ℕ
coordinates p = codes "X" ++ (whole p.x ++ (codes "Y" ++ whole p.y))

-- `I..J..`: from the start of an arc to its centre
unfoldable pub offsets : Point → Point → List ℕ
offsets start centre = codes "I" ++ (whole (centre.x -ℤ start.x) ++ (codes "J" ++ whole (centre.y -ℤ start.y)))

-- behind the other parameters, where there is a hole
abbrev pub hole_text : Nm → List ℕ
hole_text hole = if int_eq hole.0 (pos 0) then [] else codes "X" ++ mm hole.0

-- the name of the macro of an aperture
abbrev pub macro_name : ℕ → List ℕ
macro_name n = codes "M" ++ decimal n

-- the template of an aperture of this number, and its parameters
abbrev pub template_text : ℕ → Aperture → List ℕ
template_text n (Circle diameter hole) = codes "C," ++ (mm diameter.0 ++ hole_text hole)
template_text n (Rect width height hole) = codes "R," ++ (mm width.0 ++ (codes "X" ++ (mm height.0 ++ hole_text hole)))
template_text n (Obround width height hole) = codes "O," ++ (mm width.0 ++ (codes "X" ++ (mm height.0 ++ hole_text hole)))
template_text n (Prims prims) = macro_name n

-- what stands behind `AD`
abbrev pub definition_text : ℕ → Aperture → List ℕ
definition_text n aperture = codes "D" ++ (decimal n ++ template_text n aperture)

abbrev pub point_fields : Point → List (List ℕ)
point_fields p = mm p.x ∷ mm p.y ∷ []

abbrev pub shape_code : PrimShape → List ℕ
shape_code (Disc centre diameter) = codes "1"
shape_code (Bar from to width) = codes "20"
shape_code (Rectangle centre width height) = codes "21"
shape_code (Outline points) = codes "4"

-- an outline ends where it began
abbrev pub shape_fields : PrimShape → List (List ℕ)
shape_fields (Disc centre diameter) = mm diameter.0 ∷ point_fields centre
shape_fields (Bar from to width) = mm width.0 ∷ (point_fields from ++ point_fields to)
shape_fields (Rectangle centre width height) = mm width.0 ∷ mm height.0 ∷ point_fields centre
shape_fields (Outline points) =
    decimal (length points) ∷ (flat_map point_fields points ++ flat_map point_fields (take 1 points))

abbrev pub exposure : Bool → List ℕ
exposure true = codes "1"
exposure false = codes "0"

-- the exposure first, and no rotation at the end
abbrev pub fields_of : MacroPrimitive → List (List ℕ)
fields_of prim = exposure prim.paint ∷ (shape_fields prim.shape ++ codes "0" ∷ [])

-- the code, and each field behind a comma
unfoldable pub primitive_text : MacroPrimitive → List ℕ
primitive_text prim = shape_code prim.shape ++ flat_map (λ field. codes "," ++ field) (fields_of prim)

-- what stands behind `AM`, in one line
abbrev pub macro_text : ℕ → List MacroPrimitive → List ℕ
macro_text n prims = macro_name n ++ flat_map (λ prim. codes "*" ++ primitive_text prim) prims

-- a line for each primitive
abbrev pub macro_lines : ℕ → List MacroPrimitive → List ℕ
macro_lines n prims = macro_name n ++ flat_map (λ prim. codes "*\n" ++ primitive_text prim) prims

-- ---- what is written

abbrev pub word : List ℕ → Command
word text = WordCommand text

abbrev pub extended : List ℕ → Command
extended text = ExtendedCommand text []

unfoldable pub spelled : Phrase → Command
spelled UseFormat = extended (codes "FSLAX46Y46")
spelled UseMillimetres = extended (codes "MOMM")
spelled (Attach a) = extended (codes "TF" ++ (a.name ++ a.fields))
spelled UseArcs = word (codes "G75")
spelled (UsePolarity true) = extended (codes "LPD")
spelled (UsePolarity false) = extended (codes "LPC")
spelled (UseMirror turn) = extended (mirror_letters (mirror_of turn))
spelled (UseRotation turn) = extended (rotation_letters (rotation_of turn))
spelled (UseAperture n) = word (codes "D" ++ decimal n)
spelled (UseMode Linear) = word (codes "G01")
spelled (UseMode Clockwise) = word (codes "G02")
spelled (UseMode Counterclockwise) = word (codes "G03")
spelled (MoveTo to) = word (coordinates to ++ codes "D02")
spelled (FlashAt at) = word (coordinates at ++ codes "D03")
spelled (LineTo to) = word (coordinates to ++ codes "D01")
spelled (ArcTo start to centre) = word (coordinates to ++ (offsets start centre ++ codes "D01"))
spelled EnterRegion = word (codes "G36")
spelled LeaveRegion = word (codes "G37")
-- one more line for the closing `%`
spelled (NameMacro n prims) = ExtendedCommand (codes "AM" ++ macro_lines n prims) (codes "\n")
spelled (NameAperture n aperture) = extended (codes "AD" ++ definition_text n aperture)
spelled (EnterBlock n) = extended (codes "ABD" ++ decimal n)
spelled LeaveBlock = extended (codes "AB")
spelled (EnterRepeat columns rows i j) =
    extended (codes "SRX" ++ (decimal columns ++ (codes "Y" ++ (decimal rows ++ (codes "I" ++ (mm i ++ (codes "J" ++ mm j)))))))
spelled LeaveRepeat = extended (codes "SR")
spelled Finish = word (codes "M02")

-- a command, and the end of its line
abbrev pub line_of : Command → List ℕ
line_of command = bytes_of_command command ++ codes "\n"

-- ---- what it says

abbrev pub polarity_of : Bool → Polarity
polarity_of true = Dark
polarity_of false = Clear

abbrev pub mirroring_of : Turn → Mirror
mirroring_of M0 = mirror.X
mirroring_of _ = mirror.Neither

-- in 10^-9 of a degree
abbrev pub angle_of : Turn → ℤ
angle_of R90 = pos 90000000000
angle_of R180 = pos 180000000000
angle_of R270 = pos 270000000000
angle_of _ = pos 0

abbrev pub operation_to : Point → Slot ℤ → Slot ℤ → OperationCode → Statement
operation_to to across up code =
    Says (Operate (record { mode = None; x = Written to.x; y = Written to.y; i = across; j = up; code = Some code }))

abbrev pub said : Phrase → Statement
said UseFormat = Says (SetFormat (record { integers = 4; decimals = 6 }))
said UseMillimetres = Says (SetUnit Mm Extended)
said (Attach a) = Says (KeepText FileAttribute (a.name ++ a.fields))
said UseArcs = Says MultiQuadrant
said (UsePolarity dark) = Says (SetPolarity (polarity_of dark))
said (UseMirror turn) = Says (SetMirror (mirroring_of (mirror_of turn)))
said (UseRotation turn) = Says (SetRotation (Some (angle_of (rotation_of turn))))
said (UseAperture n) = Says (Select (Some n))
said (UseMode mode) = Says (SetMode mode)
said (MoveTo to) = operation_to to Omitted Omitted Move
said (FlashAt at) = operation_to at Omitted Omitted Flash
said (LineTo to) = operation_to to Omitted Omitted Plot
said (ArcTo start to centre) = operation_to to (Written (centre.x -ℤ start.x)) (Written (centre.y -ℤ start.y)) Plot
said EnterRegion = Says BeginRegion
said LeaveRegion = Says EndRegion
said (NameMacro n prims) = NamesMacro (macro_name n) (parts_of (macro_text n prims))
said (NameAperture n aperture) = Says (DefineAperture (definition_text n aperture))
said (EnterBlock n) = Says (OpenBlock (Some n))
said LeaveBlock = Says CloseBlock
said (EnterRepeat columns rows i j) =
    Says (SetRepeat (record { columns = Written columns; rows = Written rows; i = Written (scaled i); j = Written (scaled j) }))
said LeaveRepeat = Says CloseRepeat
said Finish = Says End
