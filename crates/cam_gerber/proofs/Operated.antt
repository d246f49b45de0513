-- One more operation: what the values in force and the contour become.
use Rattle.std.proofs.Common.{arith}
use Rattle.std.proofs.Common.{◌≡◌, ℕ, List, [], ◌∷◌, ◌++◌, Bool, true, false, Option, Some, None, refl, sym, ap, ◌∙◌, subst}
use Rattle.std.specs.Prelude.{unwrap_or}
use Rattle.std.specs.Option.{option_or}
use Rattle.cam_refusals.specs.declared.refusal.Refusal.{Refusal}
use Rattle.cam_refusals.specs.declared.refusal.Refusal.TheVariants.{TooMuch}
use Rattle.cam_refusals.specs.Checks.{Checks, first_holding}
use Rattle.cam_units.specs.declared.point.Point.{Point}
use Rattle.cam_units.specs.declared.turn.Turn.{Turn}
use Rattle.cam_shapes.specs.declared.segments.Seg.{Seg}
use Rattle.cam_objects.specs.declared.object.Object.{Object}
use Rattle.cam_objects.specs.declared.entry.Entry.{Entry}
use Rattle.cam_objects.specs.Weights.{Weight as Weighing, object_count, object_depth, weight_in}
use Rattle.cam_objects.specs.Leaves.{meaning_in}
use Rattle.cam_objects.specs.Turning.{after}
use Rattle.cam_commands.specs.declared.parts.Mode.{Mode}
use Rattle.cam_commands.specs.declared.parts.Mode.TheVariants.{Linear}
use Rattle.cam_commands.specs.declared.parts.Operation.{Operation}
use Rattle.cam_commands.specs.declared.parts.OperationCode.TheVariants.{Plot}
use Rattle.cam_commands.specs.Commands.{Operate}
use Rattle.cam_gerber.specs.declared.modal.Modal.{Modal}
use Rattle.cam_gerber.specs.declared.region.Region.{Region}
use Rattle.cam_gerber.specs.declared.running.Running.{Running}
use Rattle.cam_gerber.specs.Laws.{IsFaultless}
use Rattle.cam_shapes.specs.Contour.{end_of}
use Rattle.cam_gerber.specs.Statements.{Says}
use Rattle.cam_gerber.specs.State.{Past, mode_in, mode_told, newest, point_in, arc_centre, code_of, in_region, turn_in, dark_in}
use Rattle.cam_gerber.specs.Homes.{home}
use Rattle.cam_gerber.specs.Making.{segment, stroke, stroke_of, number_in, made}
use Rattle.cam_gerber.specs.Layers.{entries_in}
use Rattle.cam_gerber.specs.Faults.{can_draw, operated_faults, plot_faults, is_full, is_arc}
use Rattle.cam_gerber.specs.Machinery.Tracking.{Tracks, TracksModal, TracksRegion, Keeps, IsOperated, mode_by}
use Rattle.cam_gerber.specs.Machinery.Tracking.{moved_point, centre_by, path_faults_by, stroke_along}
use Rattle.cam_objects.specs.declared.tip.Tip.{Tip}

-- ---- checks behind others

pub told_before : (checks rest : Checks Refusal) (refusal : Refusal) → first_holding checks ≡ Some refusal → first_holding (checks ++ rest) ≡ Some refusal
told_before [] rest refusal h = absurd cc
told_before ((told, true) ∷ checks) rest refusal h = h
told_before ((told, false) ∷ checks) rest refusal h = told_before checks rest refusal h

pub passed : (checks rest : Checks Refusal) → first_holding checks ≡ None → first_holding (checks ++ rest) ≡ first_holding rest
passed [] rest h = refl
passed ((told, true) ∷ checks) rest h = absurd cc
passed ((told, false) ∷ checks) rest h = passed checks rest h

-- ---- values in force

either : (a b : Option Mode) (m d : Mode) → m ≡ unwrap_or b d → unwrap_or a m ≡ unwrap_or (option_or a b) d
either a b m d h = grind arith

pub mode_same : (past : Past) (m : Modal) (operation : Operation) → TracksModal past m
    → mode_by m operation ≡ mode_in (Says (Operate operation) ∷ past)
mode_same past m operation t = either operation.mode (newest mode_told past) m.mode Linear t.mode

pub point_same : (past : Past) (m : Modal) (operation : Operation) → TracksModal past m
    → moved_point m operation ≡ point_in (Says (Operate operation) ∷ past)
point_same past m operation t = rw (t.format, t.unit, t.point) refl

pub centre_same : (past : Past) (m : Modal) (operation : Operation) → TracksModal past m → centre_by m operation ≡ arc_centre past operation
centre_same past m operation t = rw (t.format, t.unit, t.point) refl

pub plot_same : (past : Past) (m : Modal) (operation : Operation) → TracksModal past m
    → path_faults_by m operation ≡ plot_faults past operation
plot_same past m operation t = grind (arith, point_same, centre_same)

pub operated_tracks : (past : Past) (m n : Modal) (operation : Operation) (to : Point) → TracksModal past m
    → IsOperated m operation to n → to ≡ moved_point m operation
    → TracksModal (Says (Operate operation) ∷ past) n
operated_tracks past m n operation to t is e = grind (arith, point_same)

-- ---- contours

-- an operation outside a region leaves the contour
pub contour_stays : (past : Past) (r : Region) (operation : Operation) → TracksRegion past r → in_region past ≡ false
    → TracksRegion (Says (Operate operation) ∷ past) r
contour_stays past r operation t h = record { inside = t.inside; start = rw h t.start; segs = rw h t.segs }

-- ---- strokes

along : (m : Modal) (n : ℕ) (mode : Mode) (to centre : Point)
    → stroke_along m n (segment mode to centre) ≡ stroke mode n m.point to centre (after m.mirror m.rotation) m.dark
along m n mode to centre = grind arith

pub stroke_same : (past : Past) (m : Modal) (n : ℕ) (operation : Operation) → TracksModal past m → m.aperture ≡ Some n
    → stroke_along m n (segment (mode_by m operation) (moved_point m operation) (centre_by m operation)) ≡ stroke_of past operation
stroke_same past m n operation t a = grind (arith, along, point_same, centre_same)

pub stroke_count : (weigh : ℕ → Weighing) (mode : Mode) (n : ℕ) (from to centre : Point) (turn : Turn) (dark : Bool)
    → (1 ≡ object_count weigh (stroke mode n from to centre turn dark)) × (0 ≡ object_depth weigh (stroke mode n from to centre turn dark))
stroke_count weigh mode n from to centre turn dark = grind arith

-- what the test of an aperture tells
pub draws_along : (arc : Bool) (mode : Mode) (tip : Option Tip) (result : Bool) → result ≡ true → result ≡ can_draw arc tip
    → arc ≡ is_arc mode → true ≡ can_draw (is_arc mode) tip
draws_along arc mode tip result is told same = sym is ∙ told ∙ ap (λ b. can_draw b tip) same

-- a stroke that may be drawn is refused for its path or its home alone
pub stroke_checks : (past : Past) (m : Modal) (entries : List (ℕ × Entry)) (n : ℕ) (operation : Operation) → TracksModal past m
    → entries ≡ entries_in past → m.aperture ≡ Some n
    → true ≡ can_draw (is_arc (mode_by m operation)) (meaning_in entries n).tip
    → first_holding (operated_faults Plot false past operation)
    ≡ first_holding (path_faults_by m operation ++ (TooMuch, is_full (home past) past (stroke_of past operation)) ∷ [])
stroke_checks past m entries n operation t e a solid = grind (arith, plot_same)

pub stroke_made : (past : Past) (operation : Operation) → in_region past ≡ false → code_of operation ≡ Plot
    → made past (Says (Operate operation)) ≡ stroke_of past operation ∷ []
stroke_made past operation h e = rw (e, h) refl

pub end_same : (mode : Mode) (to centre : Point) → end_of (segment mode to centre) ≡ to
end_same mode to centre = grind arith

-- a stroke joins its home
pub stroke_tracks : (past : Past) (operation : Operation) (old kept : Running) (m : Modal) (n : ℕ) (seg : Seg) → IsFaultless past
    → Tracks past old → in_region past ≡ false → code_of operation ≡ Plot
    → old.modal.aperture ≡ Some n
    → true ≡ can_draw (is_arc (mode_by old.modal operation)) (meaning_in old.built.layer.apertures n).tip
    → first_holding (path_faults_by old.modal operation) ≡ None
    → seg ≡ segment (mode_by old.modal operation) (moved_point old.modal operation) (centre_by old.modal operation)
    → ((object : Object) → 1 ≡ object_count (weight_in old.built.layer.apertures) object
    → 0 ≡ object_depth (weight_in old.built.layer.apertures) object → false ≡ is_full (home past) past object)
    → Keeps (stroke_along old.modal n seg) 1 old kept → IsOperated kept.modal operation (end_of seg) m
    → (first_holding (operated_faults Plot false past operation) ≡ None) × Tracks (Says (Operate operation) ∷ past) (record kept { modal = m })
stroke_tracks past operation old kept m n seg none t out plots a solid path seg_is full keeps done =
    let object : stroke_along old.modal n seg ≡ stroke_of past operation = ap (stroke_along old.modal n) seg_is
    ∙ stroke_same past old.modal n operation t.modal a in
    let now = Says (Operate operation) ∷ past in
    let counts = stroke_count (weight_in old.built.layer.apertures) (mode_in now) (number_in past) (point_in past) (point_in now)
    (arc_centre past operation) (turn_in past) (dark_in past) in
    let room : is_full (home past) past (stroke_of past operation) ≡ false = sym (full (stroke_of past operation) counts.0 counts.1) in
    let made_is : made past (Says (Operate operation)) ≡ stroke_along old.modal n seg ∷ [] = stroke_made past operation out plots
    ∙ ap (λ o. o ∷ []) (sym object) in
    let places = keeps.places past (Says (Operate operation)) none (record { frames = t.frames; built = t.built }) tt made_is
    (counts.0 ∙ ap (object_count (weight_in old.built.layer.apertures)) (sym object)
    ∙ ap (λ es. object_count (weight_in es) (stroke_along old.modal n seg)) t.built.entries)
    (ap (is_full (home past) past) object ∙ room) in (
      stroke_checks past old.modal old.built.layer.apertures n operation t.modal t.built.entries a solid
          ∙ passed (path_faults_by old.modal operation) ((TooMuch, is_full (home past) past (stroke_of past operation)) ∷ []) path
          ∙ rw room refl,
      record {
        modal = operated_tracks past old.modal m operation (end_of seg) t.modal
            (subst (λ (k : Modal). IsOperated k operation (end_of seg) m) keeps.modal done)
            (ap end_of seg_is ∙ end_same (mode_by old.modal operation) (moved_point old.modal operation) (centre_by old.modal operation));
        region = contour_stays past kept.region operation (subst (TracksRegion past) (sym keeps.region) t.region) out;
        frames = places.frames;
        built = places.built;
        attributes = keeps.attributes ∙ t.attributes;
      },
    )

-- its home is full
pub stroke_full : (past : Past) (operation : Operation) (old : Running) (n : ℕ) → Tracks past old → old.modal.aperture ≡ Some n
    → true ≡ can_draw (is_arc (mode_by old.modal operation)) (meaning_in old.built.layer.apertures n).tip
    → first_holding (path_faults_by old.modal operation) ≡ None
    → ((object : Object) → 1 ≡ object_count (weight_in old.built.layer.apertures) object
    → 0 ≡ object_depth (weight_in old.built.layer.apertures) object → true ≡ is_full (home past) past object)
    → first_holding (operated_faults Plot false past operation) ≡ Some TooMuch
stroke_full past operation old n t a solid path full =
    let now = Says (Operate operation) ∷ past in
    let counts = stroke_count (weight_in old.built.layer.apertures) (mode_in now) (number_in past) (point_in past) (point_in now)
    (arc_centre past operation) (turn_in past) (dark_in past) in
    let room : is_full (home past) past (stroke_of past operation) ≡ true = sym (full (stroke_of past operation) counts.0 counts.1) in
    stroke_checks past old.modal old.built.layer.apertures n operation t.modal t.built.entries a solid
    ∙ passed (path_faults_by old.modal operation) ((TooMuch, is_full (home past) past (stroke_of past operation)) ∷ []) path
    ∙ rw room refl
