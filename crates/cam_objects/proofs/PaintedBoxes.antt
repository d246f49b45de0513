-- the box of the control points of what an object or a repeat paints, and whether it lies on the board
use Rattle.std.proofs.Common.{◌≡◌, ℕ, zero, suc, ◌-◌, ◌*◌, ◌<◌, Bool, true, false, ℤ, pos, ◌*ℤ◌, List, [], ◌∷◌, reverse, Option, None, Some, IsTrue, ◌↔◌, refl, sym, ap, subst, ◌∙◌, arith}
use Rattle.std.specs.List.{All}
use Rattle.std.specs.Option.{IsSome}
use Rattle.std.specs.Int.RustNames.{unsigned_abs}
use Rattle.std.proofs.lemmas.Bool.{false≢true}
use Rattle.std.proofs.lemmas.Int.{ints}
use Rattle.std.proofs.lemmas.List.Elements.{All-cons, All-nil}
use Rattle.cam_units.specs.Boxes.{join_of}
use Rattle.cam_units.specs.declared.bounds.Bounds.{Bounds}
use Rattle.cam_units.specs.declared.length.Nm.{Nm}
use Rattle.cam_units.specs.declared.point.Point.{Point}
use Rattle.cam_units.specs.declared.turn.Turn.{Turn}
use Rattle.cam_units.specs.declared.turn.Turn.TheVariants.{R0}
use Rattle.cam_shapes.specs.Placing.{placed_direction}
use Rattle.cam_apertures.specs.Primitives.{box_of_point}
use Rattle.cam_objects.specs.declared.entry.Entry.{Entry}
use Rattle.cam_objects.specs.declared.checks.facts.Facts.{Facts}
use Rattle.cam_objects.specs.declared.item.Item.TheVariants.{One, Repeat}
use Rattle.cam_objects.specs.declared.object.Object.{Object}
use Rattle.cam_objects.specs.declared.object.Object.TheVariants.{Flash, Draw, Arc, Region}
use Rattle.cam_objects.specs.declared.placing.place.Place.{Place}
use Rattle.cam_objects.specs.declared.tip.Tip.{Tip}
use Rattle.cam_objects.specs.Bounds.{box_of_all, moved}
use Rattle.cam_objects.specs.Leaves.{
  Filled,
  Leaf,
  Meaning,
  arc_leaves,
  block_leaves,
  draw_leaves,
  drawn,
  flashed,
  meaning_in,
  object_leaves,
  origin,
  placed,
  polarity_in,
  repeat_leaves,
  round_width,
  turned_tip,
}
use Rattle.cam_objects.specs.Machinery.Boxes.{IsUncrossed, placed_bounds}
use Rattle.cam_objects.specs.Machinery.Facts.{facts_at, points_bounds_of, points_box}
use Rattle.cam_objects.specs.Machinery.Inside.{IsBoxOnBoard, last_copy}
use Rattle.cam_objects.specs.Machinery.Painting.{StandsOnBoard}
use Rattle.cam_objects.specs.Soundness.{AreOnBoard, IsInside, points_of}
use Rattle.cam_objects.specs.Turning.{after}
use Rattle.cam_objects.proofs.BoardBoxes.{IsOrdered, board_join, board_leaves, ordered_leaf, ordered_leaves, ordered_some}
use Rattle.cam_objects.proofs.CopyBoxes.{all_flat, repeat_box}
use Rattle.cam_objects.proofs.PlacedBoxes.{drawn_placed, flash_placed}
use Rattle.cam_objects.proofs.PlacedJoins.{placed_nowhere}
use Rattle.cam_objects.proofs.PlacedShapes.{box_of_points, points_so, sweep}
use Rattle.cam_objects.proofs.SoundItems.{IsDrawable}

-- ---- one object

pub painted_flash : (es : List (ℕ × Entry)) (n : ℕ) (at : Point) (t : Turn) (dark : Bool) (p : Place) (f : Facts) (b : Bounds)
    → p ≡ flashed origin at t dark → f ≡ facts_at es n → b ≡ placed_bounds p f.points
    → b ≡ points_bounds_of (object_leaves (meaning_in es) origin (Flash n at t dark))
painted_flash es n at t dark p f b place facts box =
    box
    ∙ ap (λ (x : Facts). placed_bounds p x.points) facts
    ∙ ap (λ q. placed_bounds q (points_bounds_of ((meaning_in es n).flash origin))) place
    ∙ sym (flash_placed box_of_points points_so (reverse es) n (flashed origin at t dark))

drawn_points : (tip : Tip) (from to : Point) → box_of_points (drawn tip from to) ≡ box_of_all box_of_point (from ∷ to ∷ [])
drawn_points tip from to = grind arith

standing : (tip : Option Tip) (t : Turn) (from to : Point) (dark : Bool) → IsSome tip
    → points_bounds_of (draw_leaves tip (after t R0) (placed origin from) (placed origin to) dark)
    ≡ box_of_all box_of_point (from ∷ to ∷ [])
standing None t from to dark h = absurd (false≢true h)
standing (Some tip) t from to dark h =
    drawn_placed box_of_points points_so origin tip t from to
    ∙ placed_nowhere (box_of_points (drawn (turned_tip t tip) from to))
    ∙ drawn_points (turned_tip t tip) from to

swept : (w : Option Nm) (from to centre : Point) (ccw dark : Bool) → IsSome w
    → points_bounds_of (arc_leaves w (placed origin from) (placed origin to) (placed origin centre) (placed_direction origin.turn ccw) dark)
    ≡ box_of_all box_of_point (from ∷ to ∷ centre ∷ [])
swept None from to centre ccw dark h = absurd (false≢true h)
swept (Some w) from to centre ccw dark h =
    points_so.sweep origin from to centre ccw w ∙ placed_nowhere (box_of_points (sweep from to centre ccw w))

-- what is no flash paints its own points
pub painted_standing : (means : ℕ → Meaning) (o : Object) → ((n : ℕ) (at : Point) (t : Turn) (dark : Bool) → o ≡ Flash n at t dark → ⊥)
    → IsDrawable means o
    → points_bounds_of (object_leaves means origin o) ≡ box_of_all box_of_point (points_of o)
painted_standing means (Flash n at t dark) other h = absurd (other n at t dark refl)
painted_standing means (Draw n from to t dark) other h = standing (means n).tip t from to (polarity_in true dark) h
painted_standing means (Arc ccw dark n from to centre) other h = swept (round_width (means n).tip) from to centre ccw (polarity_in true dark) h
painted_standing means (Region contour dark) other h = points_so.filled origin contour ∙ placed_nowhere (box_of_points (Filled contour))

pub inside_one : (es : List (ℕ × Entry)) (o : Object) (box : Bounds) (b : Bool) → StandsOnBoard o
    → box ≡ points_bounds_of (object_leaves (meaning_in es) origin o) → IsTrue b ↔ IsBoxOnBoard box → IsTrue b ↔ IsInside es (One o)
inside_one es o box b stands is told = grind (arith, board_leaves, All-cons, All-nil)

-- ---- blocks and repeats

uncrossed_ordered : (b : Bounds) → IsOrdered b → IsUncrossed b
uncrossed_ordered b h e = grind (arith, false≢true, ordered_some)

clear : (leaves : List Leaf) → All (λ l. IsUncrossed (points_box l)) leaves
clear [] = All-nil (λ l. IsUncrossed (points_box l))
clear (l ∷ leaves) = All-cons (λ l. IsUncrossed (points_box l)) l leaves (uncrossed_ordered (points_box l) (ordered_leaf l)) (clear leaves)

pub painted_all : (means : ℕ → Meaning) (objects : List Object)
    → points_bounds_of (block_leaves means origin objects) ≡ box_of_all (λ o. points_bounds_of (object_leaves means origin o)) objects
painted_all means objects = all_flat points_box (object_leaves means origin) objects (clear (block_leaves means origin objects))

pub ordered_moved : (o : Point) (b : Bounds) → IsOrdered b → IsOrdered (moved o b)
ordered_moved o b h = grind (arith, ints)

one_less : (n : ℕ) → n ≡ suc n - 1
one_less n = omega arith

-- a repeat lies on the board where its first copy does and its last
pub board_repeat : (es : List (ℕ × Entry)) (columns rows : ℕ) (i j : ℤ) (objects : List Object) → 1 < columns * rows
    → let one = points_bounds_of (block_leaves (meaning_in es) origin objects) in
    AreOnBoard (repeat_leaves (meaning_in es) columns rows i j objects) ↔
    (IsBoxOnBoard one × IsBoxOnBoard (moved (last_copy columns rows i j) one))
board_repeat es zero rows i j objects h = absurd (omega arith)
board_repeat es (suc columns) zero i j objects h = absurd (omega arith)
board_repeat es (suc columns) (suc rows) i j objects h =
    let leaves = repeat_leaves (meaning_in es) (suc columns) (suc rows) i j objects in
    let one = points_bounds_of (block_leaves (meaning_in es) origin objects) in
    let last = moved (last_copy (suc columns) (suc rows) i j) one in
    let ordered = ordered_leaves (block_leaves (meaning_in es) origin objects) in
    let joined = board_join one last ordered (ordered_moved (last_copy (suc columns) (suc rows) i j) one ordered) in
    let box : points_bounds_of leaves ≡ join_of one last =
    repeat_box box_of_points points_so (reverse es) objects (clear (block_leaves (meaning_in es) origin objects)) columns rows i j
    ∙ (λ k. join_of one (moved (record { x = pos (one_less columns k) *ℤ i; y = pos (one_less rows k) *ℤ j }) one)) in
    let all = board_leaves leaves in (
      (λ k. joined.0 (subst IsBoxOnBoard box (all.1 k))),
      (λ k. all.0 (subst IsBoxOnBoard (sym box) (joined.1 k))),
    )

pub inside_repeat : (es : List (ℕ × Entry)) (columns rows : ℕ) (i j : ℤ) (objects : List Object) (one last : Bounds) (b : Bool)
    → 1 < columns * rows
    → All StandsOnBoard objects → (unsigned_abs i < 1000000000) × (unsigned_abs j < 1000000000)
    → one ≡ points_bounds_of (block_leaves (meaning_in es) origin objects) → IsBoxOnBoard one
    → last ≡ moved (last_copy columns rows i j) one → IsTrue b ↔ IsBoxOnBoard last
    → IsTrue b ↔ IsInside es (Repeat columns rows i j objects)
inside_repeat es columns rows i j objects one last b many stands short is first far told =
    let leaves = board_repeat es columns rows i j objects many in
    let there = far ∙ ap (moved (last_copy columns rows i j)) is in (
      (λ h. record {
        points = stands;
        steps = short;
        leaves =
            leaves.1 (subst IsBoxOnBoard is first, subst IsBoxOnBoard there (told.0 h));
      }),
      (λ h. told.1 (subst IsBoxOnBoard (sym there) (leaves.0 h.leaves).1)),
    )

-- not where its first copy does not
pub outside_repeat : (es : List (ℕ × Entry)) (columns rows : ℕ) (i j : ℤ) (objects : List Object) (one : Bounds) → 1 < columns * rows
    → one ≡ points_bounds_of (block_leaves (meaning_in es) origin objects) → (IsBoxOnBoard one → ⊥)
    → IsTrue false ↔ IsInside es (Repeat columns rows i j objects)
outside_repeat es columns rows i j objects one many is not = (
  (λ h. absurd (false≢true h)),
  (λ h. absurd (not (subst IsBoxOnBoard (sym is) ((board_repeat es columns rows i j objects many).0 h.leaves).0))),
)
