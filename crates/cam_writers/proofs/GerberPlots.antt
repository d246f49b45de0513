-- Operations of canonical texts, lines and arcs: what they do, and that none of their faults holds; and the values in force
-- behind the settings of an object.
use Rattle.std.proofs.lemmas.Grind.{common_steps}
use Rattle.std.proofs.Common.{arith, ◌≡◌, ◌∷◌, ◌++◌, Bool, true, false, Some, None, refl, ap, ap₂, ◌∙◌, IsTrue, ℕ, [], cond}
use Rattle.std.proofs.Common.{Option}
use Rattle.std.specs.Prelude.{ℤ, ◌-ℤ◌}
use Rattle.cam_refusals.specs.declared.refusal.Refusal.{Refusal}
use Rattle.cam_refusals.specs.Checks.{Checks, least}
use Rattle.cam_refusals.specs.Refusals.{number_of}
use Rattle.cam_units.specs.declared.length.Unit.TheVariants.{Mm}
use Rattle.cam_units.specs.declared.point.Point.{Point}
use Rattle.cam_units.specs.Board.{IsOnBoard}
use Rattle.cam_commands.specs.declared.parts.Slot.{Slot}
use Rattle.cam_commands.specs.declared.parts.Slot.TheVariants.{Omitted, Written}
use Rattle.cam_commands.specs.declared.parts.Operation.{Operation}
use Rattle.cam_commands.specs.declared.parts.OperationCode.{OperationCode}
use Rattle.cam_commands.specs.declared.parts.OperationCode.TheVariants.{Plot, Move}
use Rattle.cam_gerber.specs.State.{Past, format_in, unit_in, in_region, point_in, arc_centre, has_arcs, mode_in}
use Rattle.cam_gerber.specs.State.{dark_in, mirror_in, rotation_in, aperture_in}
use Rattle.cam_gerber.specs.Faults.{faults, is_malformed, leading_faults, operated_faults, is_arc, is_same_point, path_faults}
use Rattle.cam_gerber.specs.Faults.{plot_faults, command_faults, is_defined, is_no_quarter}
use Rattle.cam_objects.specs.Soundness.{is_on_board, is_apart}
use Rattle.cam_gerber.proofs.Paths.{on_board_test}
use Rattle.cam_writers.proofs.Walks.{either, same_number}
use Rattle.cam_writers.specs.Phrases.{Phrase, MoveTo, operation_to, said, angle_of, mirror_of, mirroring_of}
use Rattle.cam_writers.specs.Phrases.{rotation_of, UseMirror, UseMode, UseRotation}
use Rattle.cam_writers.proofs.GerberPlaces.{Stands, coordinate_again, across_and_back, other_point, Kept, kept_all}
use Rattle.cam_writers.proofs.GerberPlaces.{grown_by, kept_on, same_polarity, same_turn, same_mode}
use Rattle.cam_writers.proofs.GerberPlaces.{same_point, dark_again, mirror_again, rotation_again, by_quarters}
use Rattle.cam_shapes.specs.Contour.{end_of}
use Rattle.cam_shapes.specs.declared.segments.Seg.{Seg}
use Rattle.cam_shapes.specs.declared.segments.Seg.TheVariants.{Line, Curve}
use Rattle.cam_commands.specs.declared.parts.Mode.{Mode}
use Rattle.cam_commands.specs.declared.parts.Mode.TheVariants.{Linear}
use Rattle.cam_gerber.specs.Statements.{Statement, Says}
use Rattle.cam_gerber.specs.Making.{segment, made}
use Rattle.cam_writers.specs.GerberTexts.{Phrases, arc_mode, said_by, with_mode, with_segment, is_same_turn, is_same_mode}
use Rattle.cam_writers.specs.GerberTexts.{with_aperture, with_mirror, with_polarity, with_rotation, with_start}
use Rattle.cam_units.specs.declared.turn.Turn.{Turn}
use Rattle.cam_commands.specs.Commands.{Command, SetPolarity, SetMirror, SetRotation, Select, SetMode}

-- coordinates are read as canonical texts write them
pub record Scales (past : Past) : Type 0 where
  pub format : format_in past ≡ Some (record { integers = 4; decimals = 6 })
  pub unit : unit_in past ≡ Some Mm

pub scales : (past : Past) → Stands past → Scales past
scales past s = record { format = s.format; unit = s.unit }

-- an operation of a canonical text
abbrev pub operation : Point → Slot ℤ → Slot ℤ → OperationCode → Operation
operation to across up code =
    record { mode = None; x = Written to.x; y = Written to.y; i = across; j = up; code = Some code }

-- it goes to its point
pub point_after : (past : Past) (to : Point) (across up : Slot ℤ) (code : OperationCode) → Scales past
    → point_in (operation_to to across up code ∷ past) ≡ to
point_after past to across up code s = grind (arith, coordinate_again)

-- the centre that offsets from a point give
pub centre_after : (past : Past) (here to centre : Point) → Scales past → point_in past ≡ here
    → arc_centre past (operation to (Written (centre.x -ℤ here.x)) (Written (centre.y -ℤ here.y)) Plot) ≡ centre
centre_after past here to centre s e = grind (arith, coordinate_again, across_and_back)

-- ---- faults

-- what any operation may be refused for
leading_none : (past : Past) (to : Point) (across up : Slot ℤ) (code : OperationCode) (table : Checks Refusal) → Scales past
    → is_malformed across ≡ false → is_malformed up ≡ false
    → least number_of (leading_faults past (operation to across up code) ++ table) ≡ least number_of table
leading_none past to across up code table s a u = rw (a, u, s.format, s.unit) refl

pub unrefused : (past : Past) (to : Point) (across up : Slot ℤ) (code : OperationCode) (region : Bool) → Scales past
    → is_malformed across ≡ false → is_malformed up ≡ false → in_region past ≡ region
    → least number_of (operated_faults code region past (operation to across up code)) ≡ None
    → least number_of (faults past (operation_to to across up code)) ≡ None
unrefused past to across up code region s a u inside none = grind (arith, leading_none)

pub on_board_after : (past : Past) (to : Point) (across up : Slot ℤ) (code : OperationCode) → Scales past
    → IsOnBoard to → is_on_board (point_in (operation_to to across up code ∷ past)) ≡ true
on_board_after past to across up code s on =
    ap is_on_board (point_after past to across up code s) ∙ on_board_test to on

pub move_unrefused : (past : Past) (to : Point) → Scales past → in_region past ≡ false → IsOnBoard to
    → least number_of (faults past (said (MoveTo to))) ≡ None
move_unrefused past to s out on =
    let inside = on_board_after past to Omitted Omitted Move s on in
    unrefused past to Omitted Omitted Move false s refl refl out (rw inside refl)

-- ---- a segment as it is written

abbrev pub mode_of : Seg → Mode
mode_of (Line to) = Linear
mode_of (Curve to centre ccw) = arc_mode ccw

abbrev pub across_of : Point → Seg → Slot ℤ
across_of here (Line to) = Omitted
across_of here (Curve to centre ccw) = Written (centre.x -ℤ here.x)

abbrev pub up_of : Point → Seg → Slot ℤ
up_of here (Line to) = Omitted
up_of here (Curve to centre ccw) = Written (centre.y -ℤ here.y)

abbrev pub plot_along : Point → Seg → Operation
plot_along here seg = operation (end_of seg) (across_of here seg) (up_of here seg) Plot

abbrev pub plot_to : Point → Seg → Statement
plot_to here seg = operation_to (end_of seg) (across_of here seg) (up_of here seg) Plot

pub segment_is_plot : (here : Point) (seg : Seg) (phrases : Phrases)
    → said_by (with_segment here seg phrases) ≡ plot_to here seg ∷ said_by (with_mode (mode_of seg) phrases)
segment_is_plot here seg phrases = grind arith

-- ---- a segment that may be plotted

abbrev pub IsPlottable : Point → Seg → Type 0
IsPlottable here (Line to) = IsOnBoard to
IsPlottable here (Curve to centre ccw) = IsTrue (is_apart here centre) × IsOnBoard to × IsOnBoard centre

-- the past before a plot
pub record MayPlot (past : Past) (here : Point) (seg : Seg) : Type 0 where
  pub scaled : Scales past
  pub arcs : has_arcs past ≡ true
  pub mode : mode_in past ≡ mode_of seg
  pub point : point_in past ≡ here
  pub plottable : IsPlottable here seg

line_none : (arcs : Bool) (from to centre : Point) (rest : Checks Refusal) → is_on_board to ≡ true
    → least number_of (path_faults false arcs from to centre ++ rest) ≡ least number_of rest
line_none arcs from to centre rest on = rw on refl

arc_none : (arcs : Bool) (from to centre : Point) (rest : Checks Refusal) → arcs ≡ true → is_same_point from centre ≡ false
    → is_on_board to ≡ true → is_on_board centre ≡ true
    → least number_of (path_faults true arcs from to centre ++ rest) ≡ least number_of rest
arc_none arcs from to centre rest a radius on within = rw (a, radius, on, within) refl

both_arcs : (ccw : Bool) → is_arc (arc_mode ccw) ≡ true
both_arcs ccw = grind arith

-- the segment is an arc
abbrev pub curves : Seg → Bool
curves (Line to) = false
curves (Curve to centre ccw) = true

pub curved : (seg : Seg) → is_arc (mode_of seg) ≡ curves seg
curved seg = grind (arith, both_arcs)

module _ (past : Past) (here : Point) where
  pub end_is : (seg : Seg) → MayPlot past here seg → point_in (plot_to here seg ∷ past) ≡ end_of seg
  end_is seg m = point_after past (end_of seg) (across_of here seg) (up_of here seg) Plot m.scaled

  pub path_none : (seg : Seg) (rest : Checks Refusal) → MayPlot past here seg
      → least number_of (plot_faults past (plot_along here seg) ++ rest) ≡ least number_of rest
  path_none (Line to) rest m =
      let now = point_in (plot_to here (Line to) ∷ past) in
      let middle = arc_centre past (plot_along here (Line to)) in
      let on : is_on_board now ≡ true = ap is_on_board (end_is (Line to) m) ∙ on_board_test to m.plottable in
      ap (λ mode. least number_of (path_faults (is_arc mode) (has_arcs past) (point_in past) now middle ++ rest)) m.mode
      ∙ line_none (has_arcs past) (point_in past) now middle rest on
  path_none (Curve to centre ccw) rest m =
      let now = point_in (plot_to here (Curve to centre ccw) ∷ past) in
      let middle = arc_centre past (plot_along here (Curve to centre ccw)) in
      let same : middle ≡ centre = centre_after past here to centre m.scaled m.point in
      let there : now ≡ to = end_is (Curve to centre ccw) m in
      let on : is_on_board now ≡ true = ap is_on_board there ∙ on_board_test to m.plottable.1 in
      let within : is_on_board middle ≡ true = ap is_on_board same ∙ on_board_test centre m.plottable.2 in
      let radius : is_same_point (point_in past) middle ≡ false =
      ap₂ is_same_point m.point same ∙ other_point here centre m.plottable.0 in
      let curved : is_arc (mode_in past) ≡ true = ap is_arc m.mode ∙ both_arcs ccw in
      ap (λ arc. least number_of (path_faults arc (has_arcs past) (point_in past) now middle ++ rest)) curved
      ∙ arc_none (has_arcs past) (point_in past) now middle rest m.arcs radius on within

  -- the segment that is read behind a plot
  abbrev pub segment_read : Seg → Seg
  segment_read seg =
      let now = plot_to here seg ∷ past in segment (mode_in now) (point_in now) (arc_centre past (plot_along here seg))

  -- it is the one that was written
  pub segment_again : (seg : Seg) → MayPlot past here seg → segment_read seg ≡ seg
  segment_again seg m = grind (arith, end_is, centre_after, curved)

  pub plot_unrefused : (seg : Seg) (region : Bool) → MayPlot past here seg → in_region past ≡ region
      → least number_of (operated_faults Plot region past (plot_along here seg)) ≡ None
      → least number_of (faults past (plot_to here seg)) ≡ None
  plot_unrefused seg region m inside none = grind (arith, unrefused)

-- ---- one setting

-- a setting that canonical texts write, and what it asks of the past
abbrev pub IsSetting : Past → Command → Type 0
IsSetting past (SetPolarity polarity) = Unit {0}
IsSetting past (SetMirror mirroring) = Unit {0}
IsSetting past (SetRotation (Some angle)) = is_no_quarter angle ≡ false
IsSetting past (Select (Some n)) = is_defined past n ≡ true
IsSetting past (SetMode mode) = Unit {0}
IsSetting past _ = ⊥

no_fault : (past : Past) (command : Command) → IsSetting past command → in_region past ≡ false
    → least number_of (command_faults past command) ≡ None
no_fault past command h out = grind arith

-- it makes nothing, and what stands between objects still stands
pub setting : (past : Past) (command : Command) → IsSetting past command → Stands past
    → Kept past (Says command ∷ past) × Stands (Says command ∷ past)
setting past command h s = grind (arith, common_steps, kept_all, no_fault)

-- ---- the values in force

-- those that objects are made by
pub record Values : Type 0 where
  pub dark : Bool
  pub mirror : Turn
  pub rotation : Turn
  pub aperture : Option ℕ
  pub mode : Mode
  pub point : Point

abbrev pub values_in : Past → Values
values_in past = record {
  dark = dark_in past;
  mirror = mirror_in past;
  rotation = rotation_in past;
  aperture = aperture_in past;
  mode = mode_in past;
  point = point_in past;
}

-- behind settings these values are in force, and what was made before them is as it was
pub record Set (older newer : Past) (v : Values) : Type 0 where
  pub stands : Stands newer
  pub kept : Kept older newer
  pub dark : dark_in newer ≡ v.dark
  pub mirror : mirror_in newer ≡ v.mirror
  pub rotation : rotation_in newer ≡ v.rotation
  pub aperture : aperture_in newer ≡ v.aperture
  pub mode : mode_in newer ≡ v.mode
  pub point : point_in newer ≡ v.point

pub unset : (past : Past) → Stands past → Set past past (values_in past)
unset past s = search (kept_all past)

module _ (older : Past) (phrases : Phrases) (v : Values) (set : Set older (said_by phrases) v) where
  abbrev past : Past
  past = said_by phrases

  -- a setting that is written
  behind : (command : Command) → IsSetting past command → Kept older (Says command ∷ past) × Stands (Says command ∷ past)
  behind command h =
      let set_now = setting past command h set.stands in (kept_on older past (Says command ∷ past) set.kept set_now.0, set_now.1)

  -- it is written where another value is in force
  unless : (w : Values) (same : Bool) (phrase : Phrase) → (same ≡ true → Set older past w)
      → (same ≡ false → Set older (said phrase ∷ past) w) → Set older (said_by (cond same phrases (phrase ∷ phrases))) w
  unless w same phrase = either (λ (ps : Phrases). Set older (said_by ps) w) same phrases (phrase ∷ phrases)

  pub polarity_set : (dark : Bool) → Set older (said_by (with_polarity dark phrases)) (record v { dark = dark })
  polarity_set dark = grind (arith, unless, same_polarity, behind, dark_again)

  pub mirror_set : (turn : Turn) → Set older (said_by (with_mirror turn phrases)) (record v { mirror = mirror_of turn })
  mirror_set turn =
      let says : Command = SetMirror (mirroring_of (mirror_of turn)) in
      unless (record v { mirror = mirror_of turn }) (is_same_turn (mirror_in past) (mirror_of turn)) (UseMirror turn)
      (λ e. search (same_turn (mirror_in past) (mirror_of turn) e, set))
      (λ e. search (behind says tt, mirror_again turn, set))

  pub rotation_set : (turn : Turn) → Set older (said_by (with_rotation turn phrases)) (record v { rotation = rotation_of turn })
  rotation_set turn =
      let says : Command = SetRotation (Some (angle_of (rotation_of turn))) in
      unless (record v { rotation = rotation_of turn }) (is_same_turn (rotation_in past) (rotation_of turn)) (UseRotation turn)
      (λ e. search (same_turn (rotation_in past) (rotation_of turn) e, set))
      (λ e. search (behind says (by_quarters turn), rotation_again turn, set))

  pub aperture_set : (n : ℕ) → is_defined older n ≡ true
      → Set older (said_by (with_aperture n phrases)) (record v { aperture = Some n })
  aperture_set n known = grind (arith, unless, same_number, behind)

  pub mode_set : (mode : Mode) → Set older (said_by (with_mode mode phrases)) (record v { mode = mode })
  mode_set mode =
      unless (record v { mode = mode }) (is_same_mode (mode_in past) mode) (UseMode mode)
      (λ e. search (same_mode (mode_in past) mode e, set))
      (λ e. search (behind (SetMode mode) tt, set))

  -- a move outside a region makes nothing
  pub point_set : (at : Point) → IsOnBoard at → Set older (said_by (with_start at phrases)) (record v { point = at })
  point_set at on =
      let move : Statement = said (MoveTo at) in
      let scaled : Scales past = scales past set.stands in
      let nothing : made past move ≡ [] = rw set.stands.region refl in
      let moved : Kept older (move ∷ past) = kept_on older past (move ∷ past) set.kept (grown_by past move [] tt nothing) in
      let none : least number_of (faults past move) ≡ None = move_unrefused past at scaled set.stands.region on in
      let there : point_in (move ∷ past) ≡ at = point_after past at Omitted Omitted Move scaled in
      let stands : Stands (move ∷ past) = search (none, set.stands) in
      unless (record v { point = at }) (is_same_point (point_in past) at) (MoveTo at)
      (λ e. search (same_point (point_in past) at e, set)) (λ e. search (moved, stands, there, set))
