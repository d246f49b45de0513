-- The contour of a region.
use Rattle.std.proofs.Common.{◌≡◌, ℕ, List, [], ◌∷◌, ◌++◌, length, true, false, Option, Some, None, refl}
use Rattle.std.proofs.Common.{sym, ap, ap₂, ◌∙◌, arith}
use Rattle.std.specs.Prelude.{map, nat_le, Err}
use Rattle.cam_refusals.specs.declared.refusal.Refusal.{Refusal}
use Rattle.cam_refusals.specs.declared.refusal.Refusal.TheVariants.{TooMuch}
use Rattle.cam_refusals.specs.Checks.{Checks, first_holding}
use Rattle.cam_refusals.specs.declared.stop.Stop.{Stop}
use Rattle.std.specs.Option.{option_map}
use Rattle.std.proofs.lemmas.List.{append-nil}
use Rattle.cam_objects.specs.Weights.{block_count, weight_in}
use Rattle.cam_gerber.specs.declared.frames.Frames.{Frames}
use Rattle.cam_gerber.specs.declared.built.Built.{Built}
use Rattle.cam_gerber.specs.Layers.{entries_in, home_leaves}
use Rattle.cam_units.specs.declared.point.Point.{Point}
use Rattle.cam_shapes.specs.declared.segments.Seg.{Seg}
use Rattle.cam_shapes.specs.Contour.{end_of}
use Rattle.cam_commands.specs.declared.parts.Operation.{Operation}
use Rattle.cam_commands.specs.declared.parts.OperationCode.TheVariants.{Plot, Move}
use Rattle.cam_commands.specs.Commands.{Operate, EndRegion}
use Rattle.cam_gerber.specs.declared.modal.Modal.{Modal}
use Rattle.cam_gerber.specs.declared.region.Region.{Region}
use Rattle.cam_gerber.specs.declared.running.Running.{Running}
use Rattle.cam_gerber.specs.Statements.{Statement, Says}
use Rattle.cam_gerber.specs.State.{Past, mode_in, point_in, arc_centre, code_of, in_region}
use Rattle.cam_gerber.specs.Homes.{Home, Opened, home}
use Rattle.cam_gerber.specs.Making.{segment, segments_in, region_ended, made, made_at, home_objects, IsMaker}
use Rattle.cam_gerber.specs.Faults.{command_faults, operated_faults, is_full, holds_of_one}
use Rattle.cam_objects.specs.Soundness.{is_on_board}
use Rattle.cam_gerber.specs.Machinery.Tracking.{Tracks, Answers, Ended, TracksModal, TracksFrames, TracksBuilt, TracksPlaces}
use Rattle.cam_gerber.specs.Machinery.Tracking.{IsOperated, mode_by, moved_point, centre_by, path_faults_by, block_of, repeat_of}
use Rattle.cam_gerber.proofs.Pasts.{Joins, joins}
use Rattle.cam_gerber.proofs.Operated.{told_before, passed, mode_same, point_same, centre_same, plot_same, operated_tracks, end_same}

none_at : (h : Home) (past : Past) (says : Statement) → made past says ≡ [] → made_at h past says ≡ []
none_at h past says none = grind arith

module _ (past : Past) (says : Statement) (j : Joins past says) (none : made past says ≡ []) where
  objects_stay : (h : Home) → home_objects h (says ∷ past) ≡ home_objects h past
  objects_stay h = j.objects h ∙ ap (λ all. home_objects h past ++ all) (none_at h past says none) ∙ append-nil _

  leaves_stay : (h : Home) → home_leaves h (says ∷ past) ≡ home_leaves h past
  leaves_stay h = omega (arith, j.leaves h, ap (block_count (weight_in (entries_in past))) (none_at h past says none))

  blocks_stay : (numbers : List ℕ) → map (block_of past) numbers ≡ map (block_of (says ∷ past)) numbers
  blocks_stay [] = refl
  blocks_stay (n ∷ outer) = grind (arith, objects_stay, leaves_stay, blocks_stay outer)

  repeat_stays : (repeat : Option Opened) → option_map (repeat_of past) repeat ≡ option_map (repeat_of (says ∷ past)) repeat
  repeat_stays repeat = grind (arith, objects_stay, leaves_stay)

  stay_open : (f : Frames) → TracksFrames past f → TracksFrames (says ∷ past) f
  stay_open f t = grind (arith, blocks_stay, repeat_stays)

  stay_built : (b : Built) → TracksBuilt past b → TracksBuilt (says ∷ past) b
  stay_built b t = grind (arith, none_at, append-nil)

-- a statement that makes nothing leaves what is open and built
pub nothing_made : (past : Past) (says : Statement) (r : Running) → IsMaker says → made past says ≡ [] → TracksPlaces past r
    → TracksPlaces (says ∷ past) r
nothing_made past says r maker none t = record {
  frames = stay_open past says (joins past says maker) none r.frames t.frames;
  built = stay_built past says (joins past says maker) none r.built t.built;
}

segment_checks : (past : Past) (operation : Operation) (m : Modal) → TracksModal past m
    → first_holding (operated_faults Plot true past operation)
    ≡ first_holding (path_faults_by m operation ++ (TooMuch, nat_le 1000000 (length (segments_in past))) ∷ [])
segment_checks past operation m t = grind (arith, plot_same)

-- a segment of a region joins the contour
pub segment_tracks : (past : Past) (operation : Operation) (old : Running) (region : Region) (m : Modal) (seg : Seg)
    → Tracks past old → in_region past ≡ true → code_of operation ≡ Plot
    → first_holding (path_faults_by old.modal operation) ≡ None → nat_le 1000000 (length old.region.segs.items) ≡ false
    → seg ≡ segment (mode_by old.modal operation) (moved_point old.modal operation) (centre_by old.modal operation)
    → region.inside ≡ old.region.inside → region.start ≡ old.region.start → region.segs.items ≡ old.region.segs.items ++ seg ∷ []
    → IsOperated old.modal operation (end_of seg) m
    → (first_holding (operated_faults Plot true past operation) ≡ None)
    × Tracks (Says (Operate operation) ∷ past) (record old { modal = m; region = region })
segment_tracks past operation old region m seg t inside plots path few seg_is inside_is start_is segs_is done =
    let now = Says (Operate operation) ∷ past in
    let room : nat_le 1000000 (length (segments_in past)) ≡ false = ap (λ segs. nat_le 1000000 (length segs)) (sym t.region.segs) ∙ few in
    let same : seg ≡ segment (mode_in now) (point_in now) (arc_centre past operation) =
    seg_is ∙ ap (λ mode. segment mode (moved_point old.modal operation) (centre_by old.modal operation))
    (mode_same past old.modal operation t.modal)
    ∙ ap₂ (λ to centre. segment (mode_in now) to centre) (point_same past old.modal operation t.modal)
    (centre_same past old.modal operation t.modal) in
    let places = nothing_made past (Says (Operate operation)) old tt (rw (plots, inside) refl)
    (record { frames = t.frames; built = t.built }) in (
      segment_checks past operation old.modal t.modal
          ∙ passed (path_faults_by old.modal operation) ((TooMuch, nat_le 1000000 (length (segments_in past))) ∷ []) path ∙ rw room refl,
      record {
        modal = operated_tracks past old.modal m operation (end_of seg) t.modal done
            (ap end_of seg_is ∙ end_same (mode_by old.modal operation) (moved_point old.modal operation) (centre_by old.modal operation));
        region = record {
          inside = inside_is ∙ t.region.inside;
          start = start_is ∙ rw (inside, plots) t.region.start;
          segs = segs_is ∙ rw (inside, plots) (ap₂ (λ older s. older ++ s ∷ []) t.region.segs same);
        };
        frames = places.frames;
        built = places.built;
        attributes = t.attributes;
      },
    )

pub segment_told : (past : Past) (operation : Operation) (m : Modal) (refusal : Refusal) → TracksModal past m
    → first_holding (path_faults_by m operation) ≡ Some refusal
    → first_holding (operated_faults Plot true past operation) ≡ Some refusal
segment_told past operation m refusal t path =
    segment_checks past operation m t
    ∙ told_before (path_faults_by m operation) ((TooMuch, nat_le 1000000 (length (segments_in past))) ∷ []) refusal path

pub segment_full : (past : Past) (operation : Operation) (old : Running) → Tracks past old
    → first_holding (path_faults_by old.modal operation) ≡ None → nat_le 1000000 (length old.region.segs.items) ≡ true
    → first_holding (operated_faults Plot true past operation) ≡ Some TooMuch
segment_full past operation old t path full =
    let room : nat_le 1000000 (length (segments_in past)) ≡ true = ap (λ segs. nat_le 1000000 (length segs)) (sym t.region.segs) ∙ full in
    segment_checks past operation old.modal t.modal
    ∙ passed (path_faults_by old.modal operation) ((TooMuch, nat_le 1000000 (length (segments_in past))) ∷ []) path ∙ rw room refl

-- ---- a contour ends

-- a refusal for some checks is one for others that tell the same
pub refused_alike : (stop : Stop) (a b : Checks Refusal) (P Q : Type 0) → first_holding a ≡ first_holding b → Answers (Err stop) a P → Answers (Err stop) b Q
refused_alike stop a b P Q e h = grind arith

pub next_checks : (past : Past) (operation : Operation) (old : Running) → Tracks past old
    → is_on_board (moved_point old.modal operation) ≡ true
    → first_holding ((TooMuch, holds_of_one (is_full (home past) past) (region_ended past)) ∷ []) ≡ first_holding (operated_faults Move true past operation)
next_checks past operation old t on = grind (arith, point_same)

pub next_made : (past : Past) (operation : Operation) → in_region past ≡ true → code_of operation ≡ Move
    → made past (Says (Operate operation)) ≡ region_ended past
next_made past operation inside moves = rw (moves, inside) refl

pub next_tracks : (past : Past) (operation : Operation) (old kept : Running) (to : Point) (m : Modal) → Tracks past old
    → in_region past ≡ true → code_of operation ≡ Move
    → Ended (Says (Operate operation) ∷ past) old kept → to ≡ moved_point old.modal operation → IsOperated kept.modal operation to m
    → Tracks (Says (Operate operation) ∷ past) (record kept { modal = m; region = record kept.region { start = to } })
next_tracks past operation old kept to m t inside moves ended e done = grind (arith, operated_tracks, point_same)

pub closed_tracks : (past : Past) (old kept : Running) → Tracks past old → Ended (Says EndRegion ∷ past) old kept
    → Tracks (Says EndRegion ∷ past) (record kept { region = record kept.region { inside = false } })
closed_tracks past old kept t ended = grind arith

pub closed_checks : (past : Past) (old : Running) → Tracks past old → old.region.inside ≡ true
    → first_holding ((TooMuch, holds_of_one (is_full (home past) past) (region_ended past)) ∷ []) ≡ first_holding (command_faults past EndRegion)
closed_checks past old t inside = grind arith
