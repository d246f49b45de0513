-- Operations without a fault make sound objects that fit their home.
use Rattle.std.proofs.Common.{◌≡◌, ℕ, List, [], ◌∷◌, length, Bool, true, false, Option, refl, arith, lit≤}
use Rattle.std.specs.Prelude.{not, is_none, unwrap_or}
use Rattle.std.specs.List.{flat_map}
use Rattle.std.proofs.lemmas.Bool.{leb-false, lt-ltb, or_parts}
use Rattle.std.proofs.lemmas.List.Elements.{All-cons, All-nil}
use Rattle.cam_units.specs.Board.{IsOnBoard}
use Rattle.cam_units.specs.declared.point.Point.{Point}
use Rattle.cam_units.specs.declared.turn.Turn.{Turn}
use Rattle.cam_shapes.specs.declared.segments.Seg.{Seg}
use Rattle.cam_objects.specs.declared.object.Object.{Object}
use Rattle.cam_objects.specs.declared.object.Object.TheVariants as object
use Rattle.cam_objects.specs.declared.item.Item.TheVariants.{One}
use Rattle.cam_objects.specs.Leaves.{meaning_in, object_leaves, origin}
use Rattle.cam_objects.specs.Soundness.{AreOnBoard, points_of_seg, is_on_board}
use Rattle.cam_objects.proofs.SoundItems.{HasNumber}
use Rattle.cam_commands.specs.declared.parts.Mode.{Mode}
use Rattle.cam_commands.specs.declared.parts.Operation.{Operation}
use Rattle.cam_commands.specs.declared.parts.OperationCode.{OperationCode}
use Rattle.cam_commands.specs.declared.parts.OperationCode.TheVariants.{Plot, Move, Flash}
use Rattle.cam_commands.specs.Commands.{Operate}
use Rattle.cam_gerber.specs.Statements.{Says}
use Rattle.cam_gerber.specs.State.{Past, aperture_in, arc_centre, dark_in, has_arcs, mode_in, point_in, turn_in}
use Rattle.cam_gerber.specs.Homes.{Home, InBlock, InRepeat, InLayer, home}
use Rattle.cam_gerber.specs.Making.{number_in, operated, region_by, region_ended, segments_in, start_in, stroke, stroke_of}
use Rattle.cam_gerber.specs.Layers.{entries_in}
use Rattle.cam_gerber.specs.Faults.{can_draw, holds_of_one, is_arc, is_full, is_outside_at, is_unfit, operated_faults}
use Rattle.cam_gerber.proofs.Least.{ArePassed}
use Rattle.cam_gerber.proofs.StandingLeaves.{IsNoFlash, leaves_stand}
use Rattle.cam_gerber.proofs.SoundParts.{Pairs, IsMade}
use Rattle.cam_gerber.proofs.JoiningParts.{AreFit, IsBoundAt, on_board, told}
use Rattle.cam_gerber.proofs.SoundContours.{IsPath, IsSoundContour, IsTurnOf, path_of}
use Rattle.cam_gerber.proofs.SoundViews.{IsKnownNumber, IsSoundView, view, inside}

-- ---- where the leaves lie

bound : (h : Home) (past : Past) (o : Object) → AreOnBoard (object_leaves (meaning_in (entries_in past)) origin o) → IsBoundAt h past o
bound h past o on = grind arith

bound_flash : (h : Home) (past : Past) (o : Object) → is_outside_at h past o ≡ false → IsBoundAt h past o
bound_flash (InBlock n) past o out = inside past (One o) out
bound_flash (InRepeat before) past o out = tt
bound_flash InLayer past o out = inside past (One o) out

-- ---- strokes

-- an object that is no flash
record IsMark (es : Pairs) (o : Object) : Type 0 where
  made : IsMade es o
  none : IsNoFlash o

stroked : (es : Pairs) (mode : Mode) (n : ℕ) (from to centre : Point) (turn : Turn) (dark : Bool) → HasNumber es n
    → can_draw (is_arc mode) (meaning_in es n).tip ≡ true → IsOnBoard from → IsPath mode from to centre
    → IsMark es (stroke mode n from to centre turn dark)
stroked es mode n from to centre turn dark known wide on path = grind (arith, All-cons, All-nil)

fit_mark : (past : Past) (o : Object) → IsMark (entries_in past) o → is_full (home past) past o ≡ false → AreFit past (o ∷ []) (home past)
fit_mark past o m room =
    record {
      made = m.made;
      room = room;
      bound =
          bound (home past) past o (leaves_stand (meaning_in (entries_in past)) o m.none m.made.points);
    }

-- ---- the current aperture

known_number : (es : Pairs) (a : Option ℕ) → is_none a ≡ false → IsKnownNumber es a → HasNumber es (unwrap_or a 0)
known_number es a some h = grind arith

fit_number : (past : Past) (arc : Bool) (a : Option ℕ) → is_none a ≡ false → is_unfit past arc a ≡ false
    → can_draw arc (meaning_in (entries_in past) (unwrap_or a 0)).tip ≡ true
fit_number past arc a some h = grind (arith, told)

-- ---- regions

pub fit_region : (past : Past) → IsSoundContour (start_in past) (segments_in past)
    → holds_of_one (is_full (home past) past) (region_ended past) ≡ false → AreFit past (region_ended past) (home past)
fit_region past c room = by (start_in past) (segments_in past) c room
  where
    by : (start : Point) (segs : List Seg) → IsSoundContour start segs
        → holds_of_one (is_full (home past) past) (region_by start segs (dark_in past)) ≡ false
        → AreFit past (region_by start segs (dark_in past)) (home past)
    by start [] c room = tt
    by start (seg ∷ segs) c room = fit_mark past (object.Region (record { start = start; segs = seg ∷ segs }) (dark_in past))
        (record {
          made = record {
            formed = lt-ltb 0 (length (seg ∷ segs)) (omega arith);
            known = refl;
            drawable = refl;
            radius = c.radii;
            points = All-cons IsOnBoard start (flat_map points_of_seg (seg ∷ segs)) c.start_on c.segs_on;
            segs = c.few;
          };
          none = tt;
        })
        room

-- ---- operations

-- what an operation without a fault leaves
pub record IsDone (past : Past) (operation : Operation) (code : OperationCode) (region : Bool) : Type 0 where
  pub fit : AreFit past (operated code region past operation) (home past)
  pub to_on : IsOnBoard (point_in (Says (Operate operation) ∷ past))
  pub turn : region ≡ true
      → IsTurnOf code (mode_in (Says (Operate operation) ∷ past)) (point_in past) (point_in (Says (Operate operation) ∷ past))
      (arc_centre past operation) (segments_in past)

never : {A : Type 0} → false ≡ true → A
never e = absurd cc

pub done : (code : OperationCode) (region : Bool) (past : Past) (operation : Operation) → IsSoundView (view past)
    → ArePassed (operated_faults code region past operation) → IsDone past operation code region
done Plot false past operation s pass =
    let now = Says (Operate operation) ∷ past in
    let paths = pass.1.1 in
    let path = path_of (mode_in now) (has_arcs past) (point_in past) (point_in now) (arc_centre past operation)
    (paths.0, (paths.1.0, (paths.1.1.0, tt))) in
    record {
      fit = fit_mark past (stroke_of past operation)
          (stroked (entries_in past) (mode_in now) (number_in past) (point_in past) (point_in now) (arc_centre past operation)
          (turn_in past) (dark_in past)
          (known_number (entries_in past) (aperture_in past) pass.0 s.aperture)
          (fit_number past (is_arc (mode_in now)) (aperture_in past) pass.0 pass.1.0) s.point path)
          paths.1.1.1.0;
      to_on = path.to_on;
      turn = λ e. never e;
    }
done Plot true past operation s pass =
    let now = Says (Operate operation) ∷ past in
    let path = path_of (mode_in now) (has_arcs past) (point_in past) (point_in now) (arc_centre past operation)
    (pass.0, (pass.1.0, (pass.1.1.0, tt))) in
    record { fit = tt; to_on = path.to_on; turn = λ e. (path, leb-false 1000000 (length (segments_in past)) pass.1.1.1.0) }
done Move false past operation s pass = grind (arith, on_board, told, never)
done Move true past operation s pass = grind (arith, on_board, told, fit_region)
done Flash false past operation s pass =
    let to = point_in (Says (Operate operation) ∷ past) in
    let flash = object.Flash (number_in past) to (turn_in past) (dark_in past) in
    let parts = or_parts (not (is_on_board to)) (is_outside_at (home past) past flash) pass.1.0 in
    let on = on_board to (told (is_on_board to) parts.0) in
    record {
      fit = record {
        made = record {
          formed = refl;
          known = known_number (entries_in past) (aperture_in past) pass.0 s.aperture;
          drawable = refl;
          radius = refl;
          points = All-cons IsOnBoard to [] on (All-nil IsOnBoard);
          segs = lit≤ tt;
        };
        room = pass.1.1.0;
        bound = bound_flash (home past) past flash parts.1;
      };
      to_on = on;
      turn = λ e. never e;
    }
done Flash true past operation s pass = absurd (let wrong : true ≡ false = pass.0 in cc)
