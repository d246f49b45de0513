-- Strokes and regions on the board paint on the board.
use Rattle.std.proofs.Common.{ℕ, List, [], ◌∷◌, Bool, Option, Some, None, arith, map}
use Rattle.std.specs.List.{All, flat_map}
use Rattle.std.proofs.lemmas.Int.{ints}
use Rattle.std.proofs.lemmas.List.Elements.{All-cons, All-head, All-nil, All-tail}
use Rattle.cam_units.specs.Board.{IsOnBoard}
use Rattle.cam_units.specs.declared.length.Nm.{Nm}
use Rattle.cam_units.specs.declared.point.Point.{Point}
use Rattle.cam_units.specs.declared.turn.Turn.TheVariants.{R0}
use Rattle.cam_shapes.specs.declared.segments.Seg.{Seg}
use Rattle.cam_shapes.specs.declared.segments.Seg.TheVariants.{Line, Curve}
use Rattle.cam_shapes.specs.Placing.{placed_direction, placed_seg}
use Rattle.cam_objects.specs.declared.object.Object.{Object}
use Rattle.cam_objects.specs.declared.object.Object.TheVariants.{Flash, Draw, Arc, Region}
use Rattle.cam_objects.specs.Leaves.{Leaf, Meaning, arc_leaves, draw_leaves, object_leaves, origin, placed, polarity_in, drawn, round_width}
use Rattle.cam_objects.specs.Soundness.{AreOnBoard, points_of, points_of_seg, points_of_shape}
use Rattle.cam_objects.proofs.Placed.{turned_on_board}
use Rattle.cam_objects.specs.declared.tip.Tip.{Tip}
use Rattle.cam_units.specs.declared.turn.Turn.{Turn}
use Rattle.cam_objects.specs.Turning.{after}

pub stands : (p : Point) → IsOnBoard p → IsOnBoard (placed origin p)
stands p h = let q = turned_on_board R0 p h in record { x = omega (arith, ints, q.x); y = omega (arith, ints, q.y) }

abbrev IsLeafOnBoard : Leaf → Type 0
IsLeafOnBoard l = All IsOnBoard (points_of_shape l.shape)

one : (l : Leaf) → IsLeafOnBoard l → AreOnBoard (l ∷ [])
one l h = All-cons IsLeafOnBoard l [] h (All-nil IsLeafOnBoard)

ends : (tip : Tip) (from to : Point) → IsOnBoard from → IsOnBoard to → All IsOnBoard (points_of_shape (drawn tip from to))
ends tip from to h k = grind (arith, All-cons, All-nil)

straight : (tip : Option Tip) (t : Turn) (from to : Point) (dark : Bool) → IsOnBoard from → IsOnBoard to
    → AreOnBoard (draw_leaves tip t from to dark)
straight tip t from to dark h k = grind (arith, All-nil, one, ends)

arced : (width : Option Nm) (from to centre : Point) (ccw dark : Bool) → IsOnBoard from → IsOnBoard to → IsOnBoard centre
    → AreOnBoard (arc_leaves width from to centre ccw dark)
arced None from to centre ccw dark h k l = All-nil IsLeafOnBoard
arced (Some width) from to centre ccw dark h k l =
    one _ (All-cons IsOnBoard from (to ∷ centre ∷ []) h
    (All-cons IsOnBoard to (centre ∷ []) k (All-cons IsOnBoard centre [] l (All-nil IsOnBoard))))

segments : (segs : List Seg) → All IsOnBoard (flat_map points_of_seg segs)
    → All IsOnBoard (flat_map points_of_seg (map (placed_seg origin.turn origin.offset) segs))
segments [] h = All-nil IsOnBoard
segments (Line to ∷ segs) h =
    let rest = flat_map points_of_seg segs in
    All-cons IsOnBoard (placed origin to) (flat_map points_of_seg (map (placed_seg origin.turn origin.offset) segs))
    (stands to (All-head IsOnBoard to rest h)) (segments segs (All-tail IsOnBoard to rest h))
segments (Curve to centre ccw ∷ segs) h =
    let rest = flat_map points_of_seg segs in
    let behind = All-tail IsOnBoard to (centre ∷ rest) h in
    let placed_rest = flat_map points_of_seg (map (placed_seg origin.turn origin.offset) segs) in
    All-cons IsOnBoard (placed origin to) (placed origin centre ∷ placed_rest) (stands to (All-head IsOnBoard to (centre ∷ rest) h))
    (All-cons IsOnBoard (placed origin centre) placed_rest (stands centre (All-head IsOnBoard centre rest behind))
    (segments segs (All-tail IsOnBoard centre rest behind)))

-- it is no flash
abbrev pub IsNoFlash : Object → Type 0
IsNoFlash (Flash n at t dark) = ⊥
IsNoFlash (Draw n from to t dark) = Unit {0}
IsNoFlash (Arc ccw dark n from to centre) = Unit {0}
IsNoFlash (Region c dark) = Unit {0}

pub leaves_stand : (means : ℕ → Meaning) (o : Object) → IsNoFlash o → All IsOnBoard (points_of o)
    → AreOnBoard (object_leaves means origin o)
leaves_stand means (Flash n at t dark) none h = absurd none
leaves_stand means (Draw n from to t dark) none h =
    straight (means n).tip (after t origin.turn) (placed origin from) (placed origin to) (polarity_in origin.dark dark)
    (stands from (All-head IsOnBoard from (to ∷ []) h))
    (stands to (All-head IsOnBoard to [] (All-tail IsOnBoard from (to ∷ []) h)))
leaves_stand means (Arc ccw dark n from to centre) none h =
    let behind = All-tail IsOnBoard from (to ∷ centre ∷ []) h in
    arced (round_width (means n).tip) (placed origin from) (placed origin to) (placed origin centre) (placed_direction origin.turn ccw)
    (polarity_in origin.dark dark)
    (stands from (All-head IsOnBoard from (to ∷ centre ∷ []) h)) (stands to (All-head IsOnBoard to (centre ∷ []) behind))
    (stands centre (All-head IsOnBoard centre [] (All-tail IsOnBoard to (centre ∷ []) behind)))
leaves_stand means (Region c dark) none h =
    one _ (All-cons IsOnBoard (placed origin c.start) (flat_map points_of_seg (map (placed_seg origin.turn origin.offset) c.segs))
    (stands c.start (All-head IsOnBoard c.start (flat_map points_of_seg c.segs) h))
    (segments c.segs (All-tail IsOnBoard c.start (flat_map points_of_seg c.segs) h)))
