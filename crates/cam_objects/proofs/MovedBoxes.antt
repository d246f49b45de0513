-- the boxes of the control points move with their objects
use Rattle.std.proofs.Common.{
  ◌≡◌,
  ℕ,
  ◌*◌,
  ◌<◌,
  Bool,
  true,
  false,
  ℤ,
  pos,
  ◌+ℤ◌,
  ◌*ℤ◌,
  List,
  [],
  ◌∷◌,
  ◌++◌,
  map,
  reverse,
  IsTrue,
  ◌↔◌,
  refl,
  sym,
  ap,
  subst,
  ◌∙◌,
  arith,
}
use Rattle.std.specs.Prelude.{fold}
use Rattle.std.specs.List.{All, flat_map}
use Rattle.std.proofs.lemmas.Bool.{false≢true}
use Rattle.std.proofs.lemmas.Int.{ints}
use Rattle.std.proofs.lemmas.List.Elements.{All-cons, All-head, All-nil, All-tail}
use Rattle.cam_units.specs.Board.{IsOnBoard}
use Rattle.cam_units.specs.Boxes.{join_of}
use Rattle.cam_units.specs.declared.bounds.Bounds.{Bounds}
use Rattle.cam_units.specs.declared.bounds.Bounds.TheVariants.{Empty}
use Rattle.cam_units.specs.declared.point.Point.{Point}
use Rattle.cam_units.specs.declared.turn.Turn.TheVariants.{R0}
use Rattle.cam_shapes.specs.Placing.{placed_direction, placed_seg}
use Rattle.cam_shapes.specs.Shifting.{shifted_point, shifted_seg}
use Rattle.cam_shapes.specs.declared.segments.Seg.{Seg}
use Rattle.cam_shapes.specs.declared.segments.Seg.TheVariants.{Line, Curve}
use Rattle.cam_apertures.specs.Turned.{turned_box}
use Rattle.cam_apertures.specs.Primitives.{box_of_point}
use Rattle.cam_objects.specs.declared.entry.Entry.{Entry}
use Rattle.cam_objects.specs.declared.item.Item.TheVariants.{One, Repeat}
use Rattle.cam_objects.specs.declared.object.Object.{Object}
use Rattle.cam_objects.specs.declared.object.Object.TheVariants.{Flash, Draw, Arc, Region}
use Rattle.cam_objects.specs.Bounds.{box_of_all, moved}
use Rattle.cam_objects.specs.Leaves.{
  Filled,
  Leaf,
  Meaning,
  arc_leaves,
  block_leaves,
  draw_leaves,
  flashed,
  leaf,
  meaning_in,
  object_leaves,
  origin,
  placed,
  polarity_in,
  shifted,
  round_width,
}
use Rattle.cam_objects.specs.Machinery.Boxes.{IsNearBox}
use Rattle.cam_objects.specs.Machinery.Facts.{points_bounds_of}
use Rattle.cam_objects.specs.Machinery.Inside.{IsBoxOnBoard}
use Rattle.cam_objects.specs.Machinery.Painting.{StandsOnBoard}
use Rattle.cam_objects.specs.Shifting.{shifted_object}
use Rattle.cam_objects.specs.Soundness.{AreOnBoard, IsInside, points_of, points_of_seg}
use Rattle.cam_objects.proofs.BoardBoxes.{
  All_same,
  IsOrdered,
  board_leaves,
  board_of_all,
  board_points,
  near_from_board,
  ordered_from,
  ordered_point,
  through,
}
use Rattle.cam_objects.proofs.PaintedBoxes.{board_repeat, ordered_moved}
use Rattle.cam_objects.proofs.PlacedBoxes.{block_box_placed, object_box_placed}
use Rattle.cam_objects.proofs.PlacedJoins.{join_moved}
use Rattle.cam_objects.proofs.PlacedShapes.{point_moved, points_so}
use Rattle.cam_objects.specs.Turning.{after}

abbrev standing : Object → Bounds
standing o = box_of_all box_of_point (points_of o)

-- many boxes that are moved
pub joins_moved : {X : Type 0} (by : Point) (f : X → Bounds) (z : Bounds) (xs : List X)
    → fold (λ all x. join_of all (moved by (f x))) (moved by z) xs ≡ moved by (fold (λ all x. join_of all (f x)) z xs)
joins_moved by f z [] = refl
joins_moved by f z (x ∷ xs) =
    ap (λ first. fold (λ all x. join_of all (moved by (f x))) first xs) (sym (join_moved by z (f x)))
    ∙ joins_moved by f (join_of z (f x)) xs

pub fold_over_map : {X Y : Type 0} (g : Bounds → Y → Bounds) (h : X → Y) (z : Bounds) (xs : List X)
    → fold g z (map h xs) ≡ fold (λ all x. g all (h x)) z xs
fold_over_map g h z [] = refl
fold_over_map g h z (x ∷ xs) = fold_over_map g h (g z (h x)) xs

pub unturned : (b : Bounds) → turned_box R0 b ≡ b
unturned b = grind arith

mapped : {X Y : Type 0} (P : Y → Type 0) (h : X → Y) (xs : List X) → All (λ x. P (h x)) xs ↔ All P (map h xs)
mapped P h [] = ((λ k. All-nil P), (λ k. All-nil (λ x. P (h x))))
mapped P h (x ∷ xs) = (
  (λ k. All-cons P (h x) (map h xs) (All-head (λ x. P (h x)) x xs k) ((mapped P h xs).0 (All-tail (λ x. P (h x)) x xs k))),
  (λ k. All-cons (λ x. P (h x)) x xs (All-head P (h x) (map h xs) k) ((mapped P h xs).1 (All-tail P (h x) (map h xs) k))),
)

module _ (by : Point) where
  -- ---- points as they stand

  points_moved : (ps : List Point) → box_of_all box_of_point (map (shifted_point by) ps) ≡ moved by (box_of_all box_of_point ps)
  points_moved ps =
      fold_over_map (λ all p. join_of all (box_of_point p)) (shifted_point by) Empty ps
      ∙ (λ i. fold (λ all p. join_of all (point_moved by p i)) Empty ps)
      ∙ joins_moved by box_of_point Empty ps

  pub board_moved : (ps : List Point) → IsBoxOnBoard (moved by (box_of_all box_of_point ps)) ↔ All IsOnBoard (map (shifted_point by) ps)
  board_moved ps =
      through
      ((λ h. subst IsBoxOnBoard (sym (points_moved ps)) h), (λ h. subst IsBoxOnBoard (points_moved ps) h))
      (board_points (map (shifted_point by) ps))

  segs_moved : (segs : List Seg) → flat_map points_of_seg (map (shifted_seg by) segs) ≡ map (shifted_point by) (flat_map points_of_seg segs)
  segs_moved [] = refl
  segs_moved (Line to ∷ segs) = ap (λ ps. shifted_point by to ∷ ps) (segs_moved segs)
  segs_moved (Curve to centre ccw ∷ segs) = ap (λ ps. shifted_point by to ∷ shifted_point by centre ∷ ps) (segs_moved segs)

  points_of_moved : (o : Object) → points_of (shifted_object by o) ≡ map (shifted_point by) (points_of o)
  points_of_moved (Flash n at t dark) = refl
  points_of_moved (Draw n from to t dark) = refl
  points_of_moved (Arc ccw dark n from to centre) = refl
  points_of_moved (Region c dark) = ap (λ ps. shifted_point by c.start ∷ ps) (segs_moved c.segs)

  pub stands_moved : (o : Object) → IsBoxOnBoard (moved by (standing o)) ↔ StandsOnBoard (shifted_object by o)
  stands_moved o =
      through (board_moved (points_of o))
      ((λ h. subst (All IsOnBoard) (sym (points_of_moved o)) h), (λ h. subst (All IsOnBoard) (points_of_moved o) h))

  ordered_standing : (o : Object) → IsOrdered (moved by (standing o))
  ordered_standing o = ordered_moved by (standing o) (ordered_from box_of_point ordered_point Empty (points_of o) tt)

  pub all_stand_moved : (objects : List Object)
      → IsBoxOnBoard (moved by (box_of_all standing objects)) ↔ All StandsOnBoard (map (shifted_object by) objects)
  all_stand_moved objects =
      let box = joins_moved by standing Empty objects in
      through
      ((λ h. subst IsBoxOnBoard (sym box) h), (λ h. subst IsBoxOnBoard box h))
      (through (board_of_all (λ o. moved by (standing o)) ordered_standing objects)
      (through (All_same (λ o. IsBoxOnBoard (moved by (standing o))) (λ o. StandsOnBoard (shifted_object by o)) stands_moved objects)
      (mapped StandsOnBoard (shifted_object by) objects)))

  -- ---- what is painted: an object that is moved paints what it would paint at a place that is moved so

  across' : (x y b c : ℤ) → (pos 1 *ℤ (x +ℤ b) +ℤ pos 0 *ℤ (y +ℤ c)) +ℤ pos 0 ≡ (pos 1 *ℤ x +ℤ pos 0 *ℤ y) +ℤ b
  across' x y b c = omega (arith, ints)

  up : (x y b c : ℤ) → (pos 0 *ℤ (x +ℤ b) +ℤ pos 1 *ℤ (y +ℤ c)) +ℤ pos 0 ≡ (pos 0 *ℤ x +ℤ pos 1 *ℤ y) +ℤ c
  up x y b c = omega (arith, ints)

  point_there : (q : Point) → placed origin (shifted_point by q) ≡ placed (shifted by.x by.y) q
  point_there q = λ i. record { x = across' q.x q.y by.x by.y i; y = up q.x q.y by.x by.y i }

  segs_there : (segs : List Seg) → map (placed_seg R0 origin.offset) (map (shifted_seg by) segs) ≡ map (placed_seg R0 by) segs
  segs_there [] = refl
  segs_there (Line to ∷ segs) = λ i. Line (point_there to i) ∷ segs_there segs i
  segs_there (Curve to centre ccw ∷ segs) =
      λ i. Curve (point_there to i) (point_there centre i) (placed_direction R0 ccw) ∷ segs_there segs i

  module _ (means : ℕ → Meaning) where
    pub object_there : (o : Object) → object_leaves means origin (shifted_object by o) ≡ object_leaves means (shifted by.x by.y) o
    object_there (Flash n at t dark) =
        λ i. (means n).flash (record { turn = (flashed origin at t dark).turn; offset = point_there at i; dark = polarity_in true dark })
    object_there (Draw n from to t dark) =
        λ i. draw_leaves (means n).tip (after t R0) (point_there from i) (point_there to i) (polarity_in true dark)
    object_there (Arc ccw dark n from to centre) =
        λ i. arc_leaves (round_width (means n).tip) (point_there from i) (point_there to i) (point_there centre i) (placed_direction R0 ccw)
        (polarity_in true dark)
    object_there (Region c dark) =
        λ i. leaf (Filled (record { start = point_there c.start i; segs = segs_there c.segs i })) (polarity_in true dark) ∷ []

    pub block_there : (objects : List Object) → block_leaves means origin (map (shifted_object by) objects)
        ≡ block_leaves means (shifted by.x by.y) objects
    block_there [] = refl
    block_there (o ∷ objects) = λ i. object_there o i ++ block_there objects i

  object_box : (es : List (ℕ × Entry)) (o : Object)
      → points_bounds_of (object_leaves (meaning_in es) origin (shifted_object by o))
      ≡ moved by (points_bounds_of (object_leaves (meaning_in es) origin o))
  object_box es o =
      let box = points_bounds_of (object_leaves (meaning_in es) origin o) in
      ap points_bounds_of (object_there (meaning_in es) o)
      ∙ object_box_placed _ points_so (reverse es) o (shifted by.x by.y)
      ∙ ap (moved by) (unturned box)

  block_box : (es : List (ℕ × Entry)) (objects : List Object)
      → points_bounds_of (block_leaves (meaning_in es) origin (map (shifted_object by) objects))
      ≡ moved by (points_bounds_of (block_leaves (meaning_in es) origin objects))
  block_box es objects =
      let box = points_bounds_of (block_leaves (meaning_in es) origin objects) in
      ap points_bounds_of (block_there (meaning_in es) objects)
      ∙ block_box_placed _ points_so (reverse es) objects (shifted by.x by.y)
      ∙ ap (moved by) (unturned box)

  -- ---- items

  pub inside_moved : (es : List (ℕ × Entry)) (o : Object) (box there : Bounds) (b : Bool) → StandsOnBoard (shifted_object by o)
      → box ≡ points_bounds_of (object_leaves (meaning_in es) origin o) → there ≡ moved by box → IsTrue b ↔ IsBoxOnBoard there
      → IsTrue b ↔ IsInside es (One (shifted_object by o))
  inside_moved es o box there b stands is moves told =
      let same = moves ∙ ap (moved by) is ∙ sym (object_box es o) in
      let leaves = board_leaves (object_leaves (meaning_in es) origin (shifted_object by o)) in (
        (λ h. record {
          points = All-cons StandsOnBoard (shifted_object by o) [] stands (All-nil StandsOnBoard);
          steps = tt;
          leaves = leaves.0 (subst IsBoxOnBoard same (told.0 h));
        }),
        (λ h. told.1 (subst IsBoxOnBoard (sym same) (leaves.1 h.leaves))),
      )

  -- the first copy of a repeat, moved, is the first copy of the repeat of what is moved
  pub first_moved : (es : List (ℕ × Entry)) (objects : List Object) (one there : Bounds)
      → one ≡ points_bounds_of (block_leaves (meaning_in es) origin objects) → there ≡ moved by one
      → there ≡ points_bounds_of (block_leaves (meaning_in es) origin (map (shifted_object by) objects))
  first_moved es objects one there is moves = moves ∙ ap (moved by) is ∙ sym (block_box es objects)

-- ---- what the tests tell

pub told_at : (b : Bool) (box other : Bounds) → box ≡ other → IsTrue b ↔ IsBoxOnBoard box → IsTrue b ↔ IsBoxOnBoard other
told_at b box other e told = subst (λ (x : Bounds). IsTrue b ↔ IsBoxOnBoard x) e told

pub near_points : (ps : List Point) (box : Bounds) → box ≡ box_of_all box_of_point ps → All IsOnBoard ps → IsNearBox box
near_points ps box is h = near_from_board box (subst IsBoxOnBoard (sym is) ((board_points ps).1 h))

pub near_leaves : (leaves : List Leaf) (box : Bounds) → box ≡ points_bounds_of leaves → AreOnBoard leaves → IsNearBox box
near_leaves leaves box is h = near_from_board box (subst IsBoxOnBoard (sym is) ((board_leaves leaves).1 h))

pub near_standing : (objects : List Object) (box : Bounds) → box ≡ box_of_all standing objects → All StandsOnBoard objects → IsNearBox box
near_standing objects box is h = grind (arith, ordered_from, ordered_point, All_same, board_points, near_from_board, board_of_all)

pub near_first : (es : List (ℕ × Entry)) (columns rows : ℕ) (i j : ℤ) (objects : List Object) (one : Bounds) → 1 < columns * rows
    → one ≡ points_bounds_of (block_leaves (meaning_in es) origin objects) → IsInside es (Repeat columns rows i j objects) → IsNearBox one
near_first es columns rows i j objects one many is inside =
    near_from_board one (subst IsBoxOnBoard (sym is) ((board_repeat es columns rows i j objects many).0 inside.leaves).0)

-- a test that fails
pub refused : {A : Type 0} (b : Bool) (box : Bounds) → b ≡ false → IsTrue b ↔ IsBoxOnBoard box → (A → IsBoxOnBoard box) → IsTrue false ↔ A
refused b box e told needs = ((λ h. absurd (false≢true h)), (λ a. absurd (false≢true (sym e ∙ told.1 (needs a)))))
