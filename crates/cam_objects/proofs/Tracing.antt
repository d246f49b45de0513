-- the box of a contour, segment by segment
use Rattle.std.proofs.Common.{arith, ◌≡◌, List, [], ◌∷◌, map, refl}
use Rattle.std.specs.Prelude.{fold}
use Rattle.std.specs.List.{All, flat_map}
use Rattle.std.proofs.lemmas.List.Elements.{All-cons, All-head, All-nil, All-tail}
use Rattle.cam_units.specs.Board.{IsOnBoard}
use Rattle.cam_units.specs.Boxes.{join_of}
use Rattle.cam_shapes.specs.declared.contour.Contour.{Contour}
use Rattle.cam_shapes.specs.declared.segments.Seg.{Seg}
use Rattle.cam_shapes.specs.declared.segments.Seg.TheVariants.{Line, Curve}
use Rattle.cam_shapes.specs.Contour.{caps_from, end_of}
use Rattle.cam_apertures.specs.Primitives.{box_of_point}
use Rattle.cam_objects.specs.declared.boxes.shapes.Trace.{Trace}
use Rattle.cam_objects.specs.Bounds.{box_of_cap, box_of_contour}
use Rattle.cam_objects.specs.Machinery.Tracing.{followed, started}
use Rattle.cam_objects.specs.Soundness.{points_of_seg}

traced_points : (t : Trace) (segs : List Seg) → (fold followed t segs).points ≡ fold (λ all p. join_of all (box_of_point p)) t.points
    (map end_of segs)
traced_points t [] = refl
traced_points t (Line to ∷ segs) = traced_points (followed t (Line to)) segs
traced_points t (Curve to centre ccw ∷ segs) = traced_points (followed t (Curve to centre ccw)) segs

traced_arcs : (t : Trace) (segs : List Seg) → (fold followed t segs).arcs ≡ fold (λ all c. join_of all (box_of_cap c)) t.arcs
    (caps_from t.here segs)
traced_arcs t [] = refl
traced_arcs t (Line to ∷ segs) = traced_arcs (followed t (Line to)) segs
traced_arcs t (Curve to centre ccw ∷ segs) = traced_arcs (followed t (Curve to centre ccw)) segs

pub traced_contour : (c : Contour) → let t = fold followed (started c) c.segs in join_of t.points t.arcs ≡ box_of_contour c
traced_contour c = λ i. join_of (traced_points (started c) c.segs i) (traced_arcs (started c) c.segs i)

-- it stands at the end of the segment, on the board
pub stands_behind : (t : Trace) (seg : Seg) → All IsOnBoard (points_of_seg seg) → IsOnBoard (followed t seg).here
stands_behind t seg h = grind (arith, All-head)

pub segs_on_board : (segs : List Seg) → All IsOnBoard (flat_map points_of_seg segs) → All (λ s. All IsOnBoard (points_of_seg s)) segs
segs_on_board [] h = All-nil (λ s. All IsOnBoard (points_of_seg s))
segs_on_board (Line to ∷ segs) h =
    let rest = flat_map points_of_seg segs in
    All-cons (λ s. All IsOnBoard (points_of_seg s)) (Line to) segs
    (All-cons IsOnBoard to [] (All-head IsOnBoard to rest h) (All-nil IsOnBoard))
    (segs_on_board segs (All-tail IsOnBoard to rest h))
segs_on_board (Curve to centre ccw ∷ segs) h =
    let rest = flat_map points_of_seg segs in
    let behind = All-tail IsOnBoard to (centre ∷ rest) h in
    All-cons (λ s. All IsOnBoard (points_of_seg s)) (Curve to centre ccw) segs
    (All-cons IsOnBoard to (centre ∷ []) (All-head IsOnBoard to (centre ∷ rest) h)
    (All-cons IsOnBoard centre [] (All-head IsOnBoard centre rest behind) (All-nil IsOnBoard)))
    (segs_on_board segs (All-tail IsOnBoard centre rest behind))
