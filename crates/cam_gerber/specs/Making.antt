-- The objects that commands make. Gerber Layer Format Specification, "Operations (D01/D02/D03)", "Linear plotting
-- (G01)",
-- "Circular plotting (G02, G03)" and "Region statement (G36/G37)".
use Rattle.std.specs.Prelude.{ℕ, pos, List, [], ◌∷◌, ◌++◌, unwrap_or, Bool, true, false, if◌then◌else◌}
use Rattle.cam_units.specs.declared.point.Point.{Point}
use Rattle.cam_shapes.specs.declared.contour.Contour.{Contour}
use Rattle.cam_shapes.specs.declared.segments.Seg.{Seg}
use Rattle.cam_shapes.specs.declared.segments.Seg.TheVariants.{Line, Curve}
use Rattle.cam_units.specs.declared.turn.Turn.{Turn}
use Rattle.cam_objects.specs.declared.object.Object.{Object}
use Rattle.cam_objects.specs.declared.object.Object.TheVariants as object
use Rattle.cam_commands.specs.declared.parts.Mode.{Mode}
use Rattle.cam_commands.specs.declared.parts.Mode.TheVariants.{Linear, Clockwise, Counterclockwise}
use Rattle.cam_commands.specs.declared.parts.Operation.{Operation}
use Rattle.cam_commands.specs.declared.parts.OperationCode.{OperationCode}
use Rattle.cam_commands.specs.declared.parts.OperationCode.TheVariants.{Plot, Move, Flash}
use Rattle.cam_commands.specs.Commands.{BeginRegion, EndRegion, Operate}
use Rattle.cam_gerber.specs.Statements.{Statement, Says}
use Rattle.cam_gerber.specs.State.{Past, dark_in, turn_in, aperture_in, mode_in, in_region, code_of, point_in, arc_centre}
use Rattle.cam_gerber.specs.Homes.{Home, home, is_same_home}

-- ---- contours

-- a plot in a region, by its mode
abbrev pub segment : Mode → Point → Point → Seg
segment Linear to centre = Line to
segment Clockwise to centre = Curve to centre false
segment Counterclockwise to centre = Curve to centre true

-- the segments of the contour so far, where the newest operation of a region does this; a move begins another
abbrev pub segments_by : OperationCode → List Seg → Seg → List Seg
segments_by Plot older seg = older ++ seg ∷ []
segments_by Move older seg = []
segments_by Flash older seg = older

abbrev pub segments_in : Past → List Seg
segments_in [] = []
segments_in (Says (Operate operation) ∷ older) =
    let now = Says (Operate operation) ∷ older in
    if in_region older then segments_by (code_of operation) (segments_in older) (segment (mode_in now)
    (point_in now) (arc_centre older operation))
    else segments_in older
segments_in (Says BeginRegion ∷ older) = []
segments_in (Says EndRegion ∷ older) = []
segments_in (_ ∷ older) = segments_in older

abbrev pub start_by : OperationCode → Point → Point → Point
start_by Plot older to = older
start_by Move older to = to
start_by Flash older to = older

-- a contour starts where a move of its region went, the first at the current point
abbrev pub start_in : Past → Point
start_in [] = record { x = pos 0; y = pos 0 }
start_in (Says (Operate operation) ∷ older) =
    if in_region older then start_by (code_of operation) (start_in older) (point_in (Says (Operate operation)
    ∷ older)) else start_in older
start_in (Says BeginRegion ∷ older) = point_in older
start_in (_ ∷ older) = start_in older

abbrev pub contour_in : Past → Contour
contour_in past = record { start = start_in past; segs = segments_in past }

-- a contour without segments is no region
abbrev pub region_by : Point → List Seg → Bool → List Object
region_by start [] dark = []
region_by start (seg ∷ segs) dark = object.Region (record { start = start; segs = seg ∷ segs }) dark ∷ []

-- the region of the contour that ends behind a past
abbrev pub region_ended : Past → List Object
region_ended past = region_by (start_in past) (segments_in past) (dark_in past)

-- ---- objects

-- a plot outside regions, by its mode
abbrev pub stroke : Mode → ℕ → Point → Point → Point → Turn → Bool → Object
stroke Linear n from to centre turn dark = object.Draw n from to turn dark
stroke Clockwise n from to centre turn dark = object.Arc false dark n from to centre
stroke Counterclockwise n from to centre turn dark = object.Arc true dark n from to centre

abbrev pub number_in : Past → ℕ
number_in past = unwrap_or (aperture_in past) 0

abbrev pub stroke_of : Past → Operation → Object
stroke_of past operation =
    let now = Says (Operate operation) ∷ past in
    stroke (mode_in now) (number_in past) (point_in past) (point_in now) (arc_centre past operation) (turn_in past)
    (dark_in past)

abbrev pub flash_of : Past → Operation → Object
flash_of past operation =
    object.Flash (number_in past) (point_in (Says (Operate operation) ∷ past)) (turn_in past) (dark_in past)

-- what an operation makes, in a region or not
abbrev pub operated : OperationCode → Bool → Past → Operation → List Object
operated Plot false past operation = stroke_of past operation ∷ []
operated Plot true past operation = []
operated Move false past operation = []
operated Move true past operation = region_ended past
operated Flash region past operation = flash_of past operation ∷ []

-- what a statement makes behind a past
abbrev pub made : Past → Statement → List Object
made past (Says (Operate operation)) = operated (code_of operation) (in_region past) past operation
made past (Says EndRegion) = region_ended past
made past _ = []

-- it may make an object
abbrev pub IsMaker : Statement → Type 0
IsMaker (Says (Operate operation)) = Unit {0}
IsMaker (Says EndRegion) = Unit {0}
IsMaker _ = ⊥

-- what is made behind a past, where that is at home there
abbrev pub made_at : Home → Past → Statement → List Object
made_at h past says = if is_same_home (home past) h then made past says else []

-- the objects that belong to a home, in order
abbrev pub home_objects : Home → Past → List Object
home_objects h [] = []
home_objects h (Says (Operate operation) ∷ older) = home_objects h older ++ made_at h older (Says (Operate operation))
home_objects h (Says EndRegion ∷ older) = home_objects h older ++ made_at h older (Says EndRegion)
home_objects h (_ ∷ older) = home_objects h older
