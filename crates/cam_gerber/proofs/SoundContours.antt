-- Contours of regions that operations without a fault make are sound, and end at the current point.
use Rattle.std.proofs.Common.{◌≡◌, ◌<◌, ◌≤◌, List, [], ◌∷◌, ◌++◌, length, Bool, true, false, cond, refl, sym}
use Rattle.std.proofs.Common.{subst, arith, length-append}
use Rattle.std.specs.Prelude.{◌&&◌}
use Rattle.std.specs.List.{All, flat_map}
use Rattle.std.proofs.lemmas.Bool.{and_parts, or_parts}
use Rattle.std.proofs.lemmas.List.Elements.{All-append, All-cons, All-head, All-nil, All-tail}
use Rattle.cam_units.specs.Board.{IsOnBoard}
use Rattle.cam_units.specs.declared.point.Point.{Point}
use Rattle.cam_shapes.specs.declared.segments.Seg.{Seg}
use Rattle.cam_shapes.specs.declared.segments.Seg.TheVariants.{Line, Curve}
use Rattle.cam_objects.specs.Soundness.{have_radii, is_apart, points_of_seg}
use Rattle.cam_objects.proofs.SoundItems.{HaveRadii}
use Rattle.cam_commands.specs.declared.parts.Mode.{Mode}
use Rattle.cam_commands.specs.declared.parts.OperationCode.{OperationCode}
use Rattle.cam_commands.specs.declared.parts.OperationCode.TheVariants.{Plot, Move, Flash}
use Rattle.cam_gerber.specs.Making.{segment, segments_by, start_by}
use Rattle.cam_gerber.specs.Faults.{is_arc, path_faults}
use Rattle.cam_gerber.proofs.Least.{ArePassed}
use Rattle.cam_gerber.proofs.JoiningParts.{told, on_board}

-- ---- the path of a plot

pub record IsPath (mode : Mode) (from to centre : Point) : Type 0 where
  pub to_on : IsOnBoard to
  pub centre_on : is_arc mode ≡ true → IsOnBoard centre
  pub radius : is_arc mode ≡ true → is_apart from centre ≡ true

under : (a b : Bool) → (a && b) ≡ false → a ≡ true → b ≡ false
under a b h e = grind arith

pub path_of : (mode : Mode) (arcs : Bool) (from to centre : Point) → ArePassed (path_faults (is_arc mode) arcs from to centre)
    → IsPath mode from to centre
path_of mode arcs from to centre pass = grind (arith, or_parts, on_board, told, under)

-- ---- contours

-- the point where a contour ends
abbrev pub end_from : Point → List Seg → Point
end_from here [] = here
end_from here (Line to ∷ segs) = end_from to segs
end_from here (Curve to centre ccw ∷ segs) = end_from to segs

pub record IsSoundContour (start : Point) (segs : List Seg) : Type 0 where
  pub start_on : IsOnBoard start
  pub segs_on : All IsOnBoard (flat_map points_of_seg segs)
  pub radii : HaveRadii start segs
  pub few : length segs ≤ 1000000

end_behind : (here : Point) (segs : List Seg) (seg : Seg) (to : Point) → ((p : Point) → end_from p (seg ∷ []) ≡ to)
    → end_from here (segs ++ seg ∷ []) ≡ to
end_behind here [] seg to ends = ends here
end_behind here (Line p ∷ segs) seg to ends = end_behind p segs seg to ends
end_behind here (Curve p centre ccw ∷ segs) seg to ends = end_behind p segs seg to ends

radii_behind : (here : Point) (segs : List Seg) (seg : Seg) → HaveRadii here segs → HaveRadii (end_from here segs) (seg ∷ [])
    → HaveRadii here (segs ++ seg ∷ [])
radii_behind here [] seg h k = k
radii_behind here (Line p ∷ segs) seg h k = radii_behind p segs seg h k
radii_behind here (Curve p centre ccw ∷ segs) seg h k =
    let both = and_parts (is_apart here centre) (have_radii p segs) h in
    rw (both.0, radii_behind p segs seg both.1 k) refl

points_behind : (segs : List Seg) (seg : Seg) → All IsOnBoard (flat_map points_of_seg segs) → All IsOnBoard (points_of_seg seg)
    → All IsOnBoard (flat_map points_of_seg (segs ++ seg ∷ []))
points_behind [] seg h k = All-append IsOnBoard (points_of_seg seg) [] k (All-nil IsOnBoard)
points_behind (Line p ∷ segs) seg h k =
    let rest = flat_map points_of_seg segs in
    All-cons IsOnBoard p (flat_map points_of_seg (segs ++ seg ∷ [])) (All-head IsOnBoard p rest h)
    (points_behind segs seg (All-tail IsOnBoard p rest h) k)
points_behind (Curve p centre ccw ∷ segs) seg h k =
    let rest = flat_map points_of_seg segs in
    let after = All-tail IsOnBoard p (centre ∷ rest) h in
    let more = flat_map points_of_seg (segs ++ seg ∷ []) in
    All-cons IsOnBoard p (centre ∷ more) (All-head IsOnBoard p (centre ∷ rest) h)
    (All-cons IsOnBoard centre more (All-head IsOnBoard centre rest after)
    (points_behind segs seg (All-tail IsOnBoard centre rest after) k))

-- a segment from a point
record IsSegment (from to : Point) (seg : Seg) : Type 0 where
  ends : (p : Point) → end_from p (seg ∷ []) ≡ to
  points : All IsOnBoard (points_of_seg seg)
  radius : HaveRadii from (seg ∷ [])

segment_of : (mode : Mode) (from to centre : Point) → IsPath mode from to centre → IsSegment from to (segment mode to centre)
segment_of mode from to centre p = grind (arith, All-cons, All-nil)

-- what an operation in a region meets
abbrev pub IsTurnOf : OperationCode → Mode → Point → Point → Point → List Seg → Type 0
IsTurnOf Plot mode from to centre segs = IsPath mode from to centre × (length segs < 1000000)
IsTurnOf Move mode from to centre segs = IsOnBoard to
IsTurnOf Flash mode from to centre segs = ⊥

-- a contour, and in a region the point where it ends
pub record IsContourTo (region : Bool) (start : Point) (segs : List Seg) (to : Point) : Type 0 where
  pub sound : IsSoundContour start segs
  pub ends : region ≡ true → end_from start segs ≡ to

turned_by : (code : OperationCode) (mode : Mode) (start from to centre : Point) (segs : List Seg) → IsSoundContour start segs
    → end_from start segs ≡ from → IsTurnOf code mode from to centre segs
    → IsContourTo true (start_by code start to) (segments_by code segs (segment mode to centre)) to
turned_by Plot mode start from to centre segs s e t =
    let seg = segment_of mode from to centre t.0 in
    record {
      sound = record {
        start_on = s.start_on;
        segs_on = points_behind segs (segment mode to centre) s.segs_on seg.points;
        radii = radii_behind start segs (segment mode to centre) s.radii
            (subst (λ p. HaveRadii p (segment mode to centre ∷ [])) (sym e) seg.radius);
        few = omega (arith, t.1, length-append segs (segment mode to centre ∷ []));
      };
      ends = λ r. end_behind start segs (segment mode to centre) to seg.ends;
    }
turned_by Move mode start from to centre segs s e t = grind (arith, All-nil)
turned_by Flash mode start from to centre segs s e t = absurd t

-- the contour behind an operation
pub turned : (region : Bool) (code : OperationCode) (mode : Mode) (start from to centre : Point) (segs : List Seg)
    → IsContourTo region start segs from → (region ≡ true → IsTurnOf code mode from to centre segs)
    → IsContourTo region (cond region (start_by code start to) start) (cond region (segments_by code segs (segment mode to centre)) segs) to
turned true code mode start from to centre segs c t = turned_by code mode start from to centre segs c.sound (c.ends refl) (t refl)
turned false code mode start from to centre segs c t = record { sound = c.sound; ends = λ r. absurd (let wrong : false ≡ true = r in cc) }
