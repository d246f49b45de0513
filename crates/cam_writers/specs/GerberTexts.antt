-- The canonical text of a Gerber layer, a list of phrases: behind the unit stand its file attributes, and then it grows by
-- the settings in which the next object differs from what is in force after all phrases before it, and by the object. Gerber
-- Layer Format Specification, "File attributes (TF)", "Graphics state", "Aperture dictionary", "Block aperture (AB)", "Step and repeat
-- (SR)" and "Region statement (G36/G37)".
use Rattle.std.specs.Prelude.{ℕ, ◌==◌, List, [], ◌∷◌, ◌++◌, map, Option, Some, None, Bool, true, false}
use Rattle.std.specs.Prelude.{not, if◌then◌else◌}
use Rattle.std.specs.List.{fold}
use Rattle.cam_units.specs.declared.point.Point.{Point}
use Rattle.cam_units.specs.declared.turn.Turn.{Turn}
use Rattle.cam_units.specs.Turns.{matrix_of}
use Rattle.cam_shapes.specs.Contour.{end_of}
use Rattle.cam_shapes.specs.declared.contour.Contour.{Contour}
use Rattle.cam_shapes.specs.declared.segments.Seg.{Seg}
use Rattle.cam_shapes.specs.declared.segments.Seg.TheVariants.{Line, Curve}
use Rattle.cam_apertures.specs.declared.aperture.Aperture.TheVariants.{Prims}
use Rattle.cam_apertures.specs.declared.aperture.Aperture.{Aperture as Shape}
use Rattle.cam_objects.specs.declared.attribute.Attribute.{Attribute}
use Rattle.cam_objects.specs.declared.object.Object.{Object}
use Rattle.cam_objects.specs.declared.object.Object.TheVariants.{Flash, Draw, Arc, Region}
use Rattle.cam_objects.specs.declared.entry.Entry.{Entry}
use Rattle.cam_objects.specs.declared.entry.Entry.TheVariants.{Aperture, Block}
use Rattle.cam_objects.specs.declared.item.Item.{Item}
use Rattle.cam_objects.specs.declared.item.Item.TheVariants.{One, Repeat}
use Rattle.cam_objects.specs.Turning.{has_rows}
use Rattle.cam_commands.specs.declared.parts.Mode.{Mode}
use Rattle.cam_commands.specs.declared.parts.Mode.TheVariants.{Linear, Clockwise, Counterclockwise}
use Rattle.cam_gerber.specs.State.{Past, dark_in, mirror_in, rotation_in, aperture_in, mode_in, point_in}
use Rattle.cam_gerber.specs.Faults.{is_same_point}
use Rattle.cam_writers.specs.Phrases.{Phrase, spelled, said, line_of, mirror_of, rotation_of, UseFormat, UseMillimetres, Attach}
use Rattle.cam_writers.specs.Phrases.{UseArcs, UsePolarity, UseMirror, UseRotation, UseAperture, UseMode, MoveTo, FlashAt}
use Rattle.cam_writers.specs.Phrases.{LineTo, ArcTo, EnterRegion, LeaveRegion, NameMacro, NameAperture, EnterBlock}
use Rattle.cam_writers.specs.Phrases.{LeaveBlock, EnterRepeat, LeaveRepeat, Finish}

-- the phrases of a text so far, the newest first
abbrev pub Phrases : Type 0
Phrases = List Phrase

-- each is written on a line
abbrev pub text_of : Phrases → List ℕ
text_of [] = []
text_of (phrase ∷ older) = text_of older ++ line_of (spelled phrase)

-- what the phrases say, by which the state after them is known
abbrev pub said_by : Phrases → Past
said_by phrases = map said phrases

-- ---- settings, each where another value is in force after the phrases before it

abbrev pub is_same_polarity : Bool → Bool → Bool
is_same_polarity true dark = dark
is_same_polarity false dark = not dark

abbrev pub with_polarity : Bool → Phrases → Phrases
with_polarity dark phrases = if is_same_polarity (dark_in (said_by phrases)) dark then phrases else UsePolarity dark ∷ phrases

abbrev pub is_same_turn : Turn → Turn → Bool
is_same_turn turn other = has_rows (matrix_of turn) (matrix_of other)

abbrev pub with_mirror : Turn → Phrases → Phrases
with_mirror turn phrases =
    if is_same_turn (mirror_in (said_by phrases)) (mirror_of turn) then phrases else UseMirror turn ∷ phrases

abbrev pub with_rotation : Turn → Phrases → Phrases
with_rotation turn phrases =
    if is_same_turn (rotation_in (said_by phrases)) (rotation_of turn) then phrases else UseRotation turn ∷ phrases

abbrev pub with_turn : Turn → Phrases → Phrases
with_turn turn phrases = with_rotation turn (with_mirror turn phrases)

abbrev pub is_selected : Option ℕ → ℕ → Bool
is_selected None n = false
is_selected (Some selected) n = selected == n

abbrev pub with_aperture : ℕ → Phrases → Phrases
with_aperture n phrases = if is_selected (aperture_in (said_by phrases)) n then phrases else UseAperture n ∷ phrases

abbrev pub is_same_mode : Mode → Mode → Bool
is_same_mode Linear Linear = true
is_same_mode Clockwise Clockwise = true
is_same_mode Counterclockwise Counterclockwise = true
is_same_mode _ _ = false

abbrev pub with_mode : Mode → Phrases → Phrases
with_mode mode phrases = if is_same_mode (mode_in (said_by phrases)) mode then phrases else UseMode mode ∷ phrases

abbrev pub with_start : Point → Phrases → Phrases
with_start from phrases = if is_same_point (point_in (said_by phrases)) from then phrases else MoveTo from ∷ phrases

-- ---- objects

abbrev pub arc_mode : Bool → Mode
arc_mode true = Counterclockwise
arc_mode false = Clockwise

abbrev pub with_segment : Point → Seg → Phrases → Phrases
with_segment here (Line to) phrases = LineTo to ∷ with_mode Linear phrases
with_segment here (Curve to centre ccw) phrases = ArcTo here to centre ∷ with_mode (arc_mode ccw) phrases

-- segments, each from where the one before it ends
abbrev pub with_segments : Point → List Seg → Phrases → Phrases
with_segments here [] phrases = phrases
with_segments here (seg ∷ segs) phrases = with_segments (end_of seg) segs (with_segment here seg phrases)

abbrev pub with_contour : Contour → Phrases → Phrases
with_contour contour phrases =
    LeaveRegion ∷ with_segments contour.start contour.segs (MoveTo contour.start ∷ EnterRegion ∷ phrases)

-- the phrases with one object more: the phrases, the settings in which the object differs, the object
abbrev pub with_object : Phrases → Object → Phrases
with_object phrases (Flash n at turn dark) = FlashAt at ∷ with_aperture n (with_turn turn (with_polarity dark phrases))
with_object phrases (Draw n from to turn dark) =
    LineTo to ∷ with_start from (with_mode Linear (with_aperture n (with_turn turn (with_polarity dark phrases))))
with_object phrases (Arc ccw dark n from to centre) =
    ArcTo from to centre ∷ with_start from (with_mode (arc_mode ccw) (with_aperture n (with_polarity dark phrases)))
with_object phrases (Region contour dark) = with_contour contour (with_polarity dark phrases)

abbrev pub with_objects : Phrases → List Object → Phrases
with_objects phrases objects = fold with_object phrases objects

-- ---- entries and items

-- the macro that an aperture is made of
abbrev pub with_macro : ℕ → Shape → Phrases → Phrases
with_macro n (Prims prims) phrases = NameMacro n prims ∷ phrases
with_macro n _ phrases = phrases

abbrev pub with_entry : Phrases → ℕ × Entry → Phrases
with_entry phrases (n, Aperture aperture) = NameAperture n aperture ∷ with_macro n aperture phrases
with_entry phrases (n, Block objects) = LeaveBlock ∷ with_objects (EnterBlock n ∷ phrases) objects

abbrev pub with_item : Phrases → Item → Phrases
with_item phrases (One object) = with_object phrases object
with_item phrases (Repeat columns rows i j objects) =
    LeaveRepeat ∷ with_objects (EnterRepeat columns rows i j ∷ phrases) objects

-- ---- the text

-- four integer digits and six decimals, in mm
abbrev pub units : Phrases
units = UseMillimetres ∷ UseFormat ∷ []

abbrev pub with_attribute_of : Phrases → Attribute → Phrases
with_attribute_of phrases a = Attach a ∷ phrases

-- behind the file attributes lines, and arcs of any length
unfoldable pub opening : List Attribute → Phrases
opening attributes = UseArcs ∷ UseMode Linear ∷ fold with_attribute_of units attributes

abbrev pub phrases_before_end : List Attribute → List (ℕ × Entry) → List Item → Phrases
phrases_before_end attributes entries items = fold with_item (fold with_entry (opening attributes) entries) items

-- the canonical text of file attributes, a dictionary and items
unfoldable pub gerber_text : List Attribute → List (ℕ × Entry) → List Item → List ℕ
gerber_text attributes entries items = text_of (Finish ∷ phrases_before_end attributes entries items)
