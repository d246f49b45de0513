-- places and points that are moved and turned
use Rattle.std.proofs.Common.{rules, ◌≡◌, ℕ, ◌+◌, ◌*◌, ◌^◌, ◌<◌, ◌≤◌, Bool, ℤ, ◌+ℤ◌, List, [], ◌∷◌, map, arith}
use Rattle.std.specs.List.{All, flat_map}
use Rattle.std.specs.Int.RustNames.{unsigned_abs}
use Rattle.std.proofs.lemmas.Int.{ints}
use Rattle.std.proofs.lemmas.List.Elements.{All-cons, All-head, All-nil, All-tail}
use Rattle.cam_units.specs.Board.{IsOnBoard}
use Rattle.cam_units.specs.Turns.{applied, matrix_of}
use Rattle.cam_units.specs.declared.point.Point.{Point}
use Rattle.cam_units.specs.declared.point.Spot.{Spot}
use Rattle.cam_units.specs.declared.turn.Turn.{Turn}
use Rattle.cam_shapes.specs.declared.contour.Contour.{Contour}
use Rattle.cam_shapes.specs.declared.segments.Seg.{Seg}
use Rattle.cam_shapes.specs.declared.segments.Seg.TheVariants.{Line, Curve}
use Rattle.cam_shapes.specs.Placing.{IsPlaceable, IsPlaceableSeg, placed_contour, placed_point, placed_seg}
use Rattle.cam_shapes.specs.Shifting.{IsShiftable}
use Rattle.cam_objects.specs.declared.placing.place.Place.{Place}
use Rattle.cam_objects.specs.Leaves.{flashed, origin, shifted}
use Rattle.cam_objects.specs.Machinery.Boxes.{IsBoxOffset}
use Rattle.cam_objects.specs.Machinery.Painting.{HasReach}
use Rattle.cam_objects.specs.Soundness.{points_of_contour, points_of_seg}

pub same_spot : (s t : Spot) → s.x ≡ t.x → s.y ≡ t.y → s ≡ t
same_spot s t e f = λ i. record { x = e i; y = f i }

-- a turn keeps the board
pub turned_on_board : (t : Turn) (p : Point) → IsOnBoard p → IsOnBoard (applied (matrix_of t) p)
turned_on_board t p h = grind (arith, ints)

-- ---- the reach of a place

reach_sum : (n : ℕ) (a b : ℤ) → unsigned_abs a < 1000000000 → unsigned_abs b + (n + 1) * 1000000000 < 4400000000000000000
    → unsigned_abs (a +ℤ b) + n * 1000000000 < 4400000000000000000
reach_sum n a b h r = omega (arith, ints)

-- a flash takes one placement of the reach
pub reach_flashed : (n : ℕ) (p : Place) (at : Point) (t : Turn) (dark : Bool) → IsOnBoard at → HasReach (n + 1) p
    → HasReach n (flashed p at t dark)
unfolding HasReach
reach_flashed n p at t dark h reach =
    let q = turned_on_board p.turn at h in (
      reach_sum n (applied (matrix_of p.turn) at).x p.offset.x q.x reach.0,
      reach_sum n (applied (matrix_of p.turn) at).y p.offset.y q.y reach.1,
    )

pub reach_less : (m n : ℕ) (p : Place) → m ≤ n → HasReach n p → HasReach m p
unfolding HasReach
reach_less m n p h reach = (omega arith, omega arith)

pub reach_offset : (n : ℕ) (p : Place) → HasReach n p → IsShiftable p.offset
unfolding HasReach
reach_offset n p reach = record { x = omega arith; y = omega arith }

pub reach_box : (n : ℕ) (p : Place) → HasReach n p → IsBoxOffset p.offset
unfolding HasReach
reach_box n p reach = record { x = omega arith; y = omega arith }

pub reach_shifted : (n : ℕ) (dx dy : ℤ) → n ≤ 2 ^ 31 → unsigned_abs dx < 2 ^ 53 → unsigned_abs dy < 2 ^ 53
    → HasReach (n + 1) (shifted dx dy)
unfolding HasReach
reach_shifted n dx dy h x y = (omega arith, omega arith)

-- a flash at a point of the board, by the layer itself
pub flashed_box : (at : Point) (t : Turn) (dark : Bool) → IsOnBoard at → IsBoxOffset (flashed origin at t dark).offset
flashed_box at t dark h = grind (arith, reach_box, reach_flashed, reach_shifted)

-- ---- contours that stand on the board, and are placed on it

placeable_segs : (t : Turn) (o : Point) (segs : List Seg) → All IsOnBoard (flat_map points_of_seg segs)
    → All IsOnBoard (flat_map points_of_seg (map (placed_seg t o) segs)) → All (IsPlaceableSeg t o) segs
placeable_segs t o [] h k = All-nil (IsPlaceableSeg t o)
placeable_segs t o (Line to ∷ segs) h k =
    let here : IsOnBoard to = All-head IsOnBoard to (flat_map points_of_seg segs) h in
    let there : IsOnBoard (placed_point t o to) = All-head IsOnBoard (placed_point t o to)
    (flat_map points_of_seg (map (placed_seg t o) segs)) k in
    All-cons (IsPlaceableSeg t o) (Line to) segs (record { here = here; there = there })
    (placeable_segs t o segs (All-tail IsOnBoard to (flat_map points_of_seg segs) h)
    (All-tail IsOnBoard (placed_point t o to) (flat_map points_of_seg (map (placed_seg t o) segs)) k))
placeable_segs t o (Curve to centre ccw ∷ segs) h k =
    let rest = flat_map points_of_seg segs in
    let rest' = flat_map points_of_seg (map (placed_seg t o) segs) in
    let h' = All-tail IsOnBoard to (centre ∷ rest) h in
    let k' = All-tail IsOnBoard (placed_point t o to) (placed_point t o centre ∷ rest') k in
    All-cons (IsPlaceableSeg t o) (Curve to centre ccw) segs (
      record {
        here = All-head IsOnBoard to (centre ∷ rest) h;
        there =
            All-head IsOnBoard (placed_point t o to) (placed_point t o centre ∷ rest') k;
      },
      record { here = All-head IsOnBoard centre rest h'; there = All-head IsOnBoard (placed_point t o centre) rest' k' },
    )
    (placeable_segs t o segs (All-tail IsOnBoard centre rest h') (All-tail IsOnBoard (placed_point t o centre) rest' k'))

pub placeable : (t : Turn) (o : Point) (c : Contour) → IsShiftable o → All IsOnBoard (points_of_contour c)
    → All IsOnBoard (points_of_contour (placed_contour t o c)) → IsPlaceable t o c
placeable t o c offset h k = search (rules, All-head, placeable_segs, All-tail)

-- its points stand on the board
standing_segs : (t : Turn) (o : Point) (segs : List Seg) → All (IsPlaceableSeg t o) segs → All IsOnBoard (flat_map points_of_seg segs)
standing_segs t o [] h = All-nil IsOnBoard
standing_segs t o (Line to ∷ segs) h =
    grind (arith, All-head, All-cons, All-tail, standing_segs t o segs (All-tail (IsPlaceableSeg t o) (Line to) segs h))
standing_segs t o (Curve to centre ccw ∷ segs) h =
    grind (
      arith,
      All-head,
      All-cons,
      All-tail,
      standing_segs t o segs (All-tail (IsPlaceableSeg t o) (Curve to centre ccw) segs h),
    )

pub standing : (t : Turn) (o : Point) (c : Contour) → IsPlaceable t o c → All IsOnBoard (points_of_contour c)
standing t o c h = All-cons IsOnBoard c.start (flat_map points_of_seg c.segs) h.start.here (standing_segs t o c.segs h.segs)

-- and its offset is no farther than the board is wide
board_offset : (a o : ℤ) → unsigned_abs a < 1000000000 → unsigned_abs (a +ℤ o) < 1000000000 → unsigned_abs o < 4500000000000000000
board_offset a o h k = omega (arith, ints)

pub contour_offset : (t : Turn) (o : Point) (c : Contour) → IsPlaceable t o c → IsBoxOffset o
contour_offset t o c h = grind (arith, turned_on_board, board_offset)
