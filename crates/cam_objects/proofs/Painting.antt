-- what is asked of a place, and of the leaves that are painted there
use Rattle.std.proofs.Common.{◌≡◌, ℕ, zero, suc, ◌+◌, ◌^◌, ◌<◌, ◌≤◌, Bool, List, [], ◌∷◌, ◌++◌, length, take, get_or, slice_get, Option, None, Some, refl, sym, ap, subst, ◌∙◌, arith, nat_eq, zero-add, ℤ}
use Rattle.std.specs.List.{All, IsDistinct, flat_map, range_with_len}
use Rattle.std.specs.Map.{keys_of, lookup}
use Rattle.std.specs.Option.{IfSome}
use Rattle.std.specs.Int.RustNames.{unsigned_abs}
use Rattle.std.proofs.lemmas.Option.{get_or_from_slice_get, slice_get_within}
use Rattle.std.proofs.lemmas.List.Elements.{All-cons, All-head, All-nil, All-tail, All-weaker}
use Rattle.std.proofs.lemmas.List.FromFn.{get_or-range_with_len, length-range_with_len}
use Rattle.cam_units.specs.Board.{IsOnBoard, IsSize}
use Rattle.cam_units.specs.declared.length.Nm.{Nm}
use Rattle.cam_units.specs.declared.point.Point.{Point}
use Rattle.cam_units.specs.declared.turn.Turn.{Turn}
use Rattle.cam_shapes.specs.Placing.{IsPlaceable, IsPlaceablePoint, placed_contour, placed_direction}
use Rattle.cam_shapes.specs.Shifting.{IsShiftable}
use Rattle.cam_shapes.specs.declared.contour.Contour.{Contour}
use Rattle.cam_apertures.specs.Soundness.{IsSoundAperture, IsSideLength}
use Rattle.cam_apertures.specs.declared.aperture.Aperture.{Aperture as Template}
use Rattle.cam_objects.specs.declared.object.Object.{Object}
use Rattle.cam_objects.specs.declared.object.Object.TheVariants.{Draw, Arc, Region}
use Rattle.cam_objects.specs.declared.entry.Entry.{Entry}
use Rattle.cam_objects.specs.declared.entry.Entry.TheVariants.{Aperture, Block}
use Rattle.cam_objects.specs.declared.item.Item.TheVariants.{One}
use Rattle.cam_objects.specs.declared.placing.place.Place.{Place}
use Rattle.cam_objects.specs.Leaves.{
  Filled,
  Leaf,
  Meaning,
  Stamp,
  Sweep,
  arc_leaves,
  block_leaves,
  draw_leaves,
  entry_meaning,
  leaf,
  meaning_in,
  no_meaning,
  object_leaves,
  placed,
  polarity_in,
  shifted,
  drawn,
  round_width,
  solid_tip,
  turned_tip,
}
use Rattle.cam_objects.specs.Machinery.Painting.{IsPrintable, IsReadyToPrint, StandsOnBoard, flash_leaves, meaning_before}
use Rattle.cam_objects.specs.Soundness.{AreOnBoard, IsInside, IsSoundBlock, IsSoundDictionary, IsSoundItem, MayAddEntry, points_of_shape}
use Rattle.cam_objects.proofs.Dictionaries.{meant-at, meant-later, meant-absent, whole}
use Rattle.cam_objects.proofs.Placed.{placeable, reach_less, reach_shifted}
use Rattle.cam_objects.specs.declared.tip.Tip.{Tip}
use Rattle.cam_objects.specs.Machinery.Boxes.{IsSizedTip}
use Rattle.cam_objects.specs.Turning.{after}
use Rattle.std.proofs.lemmas.Int.{ints}
use Rattle.cam_objects.proofs.SoundItems.{meets}

abbrev IsLeafOnBoard : Leaf → Type 0
IsLeafOnBoard l = All IsOnBoard (points_of_shape l.shape)

-- ---- what a number means

pub meaning-at : (es : List (ℕ × Entry)) (i k n : ℕ) (e : Entry) → IsDistinct nat_eq (keys_of es) → slice_get es i ≡ Some (n, e) → i < k
    → k ≤ length es
    → meaning_before k es n ≡ entry_meaning (meaning_before i es) e
meaning-at es i k n e distinct at below within = meant-at no_meaning entry_meaning es i k n e distinct at below within

pub meaning-later : (es : List (ℕ × Entry)) (i k n : ℕ) (e : Entry) → IsDistinct nat_eq (keys_of es) → slice_get es i ≡ Some (n, e) → k ≤ i
    → meaning_before k es n ≡ no_meaning
meaning-later es i k n e distinct at later = meant-later no_meaning entry_meaning es i k n e distinct at later

pub meaning-absent : (es : List (ℕ × Entry)) (k n : ℕ) → lookup (nat_eq n) es ≡ None → k ≤ length es → meaning_before k es n ≡ no_meaning
meaning-absent es k n absent within = meant-absent no_meaning entry_meaning es k n absent within

-- ---- what a sound dictionary says of an entry

pub entry_may : (es : List (ℕ × Entry)) (i n : ℕ) (e : Entry) → slice_get es i ≡ Some (n, e) → IsSoundDictionary es
    → MayAddEntry (take i es) n e
entry_may es i n e at sound =
    subst (λ (x : ℕ × Entry). MayAddEntry (take i es) x.0 x.1) (get_or_from_slice_get es i (n, e) (n, e) at)
    (sound i (n, e) (slice_get_within es i (n, e) at))

pub aperture_sound : (es : List (ℕ × Entry)) (i n : ℕ) (a : Template) → slice_get es i ≡ Some (n, Aperture a) → IsSoundDictionary es
    → IsSoundAperture a
aperture_sound es i n a at sound = (entry_may es i n (Aperture a) at sound).sound

item_stands : (es : List (ℕ × Entry)) (o : Object) → IsInside es (One o) → StandsOnBoard o
item_stands es o h = h.points 0 o (omega arith)

pub block_stands : (es : List (ℕ × Entry)) (i n : ℕ) (objects : List Object) → slice_get es i ≡ Some (n, Block objects)
    → IsSoundDictionary es → All StandsOnBoard objects
block_stands es i n objects at sound =
    let block : IsSoundBlock (take i es) objects = (entry_may es i n (Block objects) at sound).sound in
    All-weaker (λ o. IsSoundItem (take i es) (One o)) StandsOnBoard (λ o h. item_stands (take i es) o (meets (take i es) (One o) h).inside) objects block.each

-- a side is a size
pub side_size : (n : ℤ) → IsSideLength n → IsSize n
side_size n h = (omega (arith, ints, h.0), h.1)

pub solid_size : (a : Template) → IsSoundAperture a → IfSome (solid_tip a) IsSizedTip
solid_size a h = grind (arith, side_size)

-- ---- what is asked of a place

pub paintable_block : (es : List (ℕ × Entry)) (upto i n : ℕ) (objects : List Object) (p : Place) → IsDistinct nat_eq (keys_of es)
    → slice_get es i ≡ Some (n, Block objects) → i < upto
    → IsPrintable es upto upto p (flash_leaves upto es n p) → IsPrintable es i (i + 1) p (block_leaves (meaning_before i es) p objects)
paintable_block es upto i n objects p distinct at below h = grind (arith, meaning-at, reach_less)

pub paintable_stamp : (es : List (ℕ × Entry)) (upto i n : ℕ) (a : Template) (p : Place) → IsDistinct nat_eq (keys_of es)
    → slice_get es i ≡ Some (n, Aperture a) → i < upto
    → IsPrintable es upto upto p (flash_leaves upto es n p) → IsOnBoard p.offset
paintable_stamp es upto i n a p distinct at below h =
    let l = leaf (Stamp a p.turn p.offset) p.dark in
    let all : AreOnBoard (l ∷ []) = subst AreOnBoard
    (ap (λ (m : Meaning). m.flash p) (meaning-at es i upto n (Aperture a) distinct at below h.within)) h.board in
    all 0 l (omega arith) 0 p.offset (omega arith)

-- what holds of all pieces holds of each
pub All_left : {X : Type 0} (P : X → Type 0) (xs ys : List X) → All P (xs ++ ys) → All P xs
All_left P [] ys h = All-nil P
All_left P (x ∷ xs) ys h = All-cons P x xs (All-head P x (xs ++ ys) h) (All_left P xs ys (All-tail P x (xs ++ ys) h))

pub All_right : {X : Type 0} (P : X → Type 0) (xs ys : List X) → All P (xs ++ ys) → All P ys
All_right P [] ys h = h
All_right P (x ∷ xs) ys h = All_right P xs ys (All-tail P x (xs ++ ys) h)

All_piece : {X Y : Type 0} (P : Y → Type 0) (f : X → List Y) (xs : List X) (i : ℕ) (d : X) → i < length xs → All P (flat_map f xs)
    → All P (f (get_or xs i d))
All_piece P f [] i d h all = absurd (omega arith)
All_piece P f (x ∷ xs) zero d h all = All_left P (f x) (flat_map f xs) all
All_piece P f (x ∷ xs) (suc i) d h all = All_piece P f xs i d (omega arith) (All_right P (f x) (flat_map f xs) all)

pub board_piece : {X : Type 0} (f : X → List Leaf) (xs : List X) (i : ℕ) (x : X) → i < length xs → x ≡ get_or xs i x
    → AreOnBoard (flat_map f xs) → AreOnBoard (f x)
board_piece f xs i x h e all = subst (λ y. AreOnBoard (f y)) (sym e) (All_piece IsLeafOnBoard f xs i x h all)

pub paintable_object : (es : List (ℕ × Entry)) (upto m i : ℕ) (objects : List Object) (x : Object) (p : Place)
    → i < length objects → x ≡ get_or objects i x
    → IsPrintable es upto m p (block_leaves (meaning_before upto es) p objects)
    → IsPrintable es upto m p (object_leaves (meaning_before upto es) p x)
paintable_object es upto m i objects x p h e ready = record {
  within = ready.within;
  sound = ready.sound;
  board = board_piece (object_leaves (meaning_before upto es) p) objects i x h e ready.board;
  reach = ready.reach;
}

pub stands_at : (objects : List Object) (i : ℕ) (x : Object) → i < length objects → x ≡ get_or objects i x → All StandsOnBoard objects
    → StandsOnBoard x
stands_at objects i x h e all = subst StandsOnBoard (sym e) (all i x h)

-- ---- what comes to lie on the board

drawn_ends : (tip : Tip) (from to : Point) → All IsOnBoard (points_of_shape (drawn tip from to)) → IsOnBoard from × IsOnBoard to
drawn_ends tip from to h = grind arith

pub drawn_points : (means : ℕ → Meaning) (p : Place) (n : ℕ) (from to : Point) (t : Turn) (dark : Bool) (tip : Tip) → Some tip ≡ (means n).tip
    → StandsOnBoard (Draw n from to t dark) → AreOnBoard (object_leaves means p (Draw n from to t dark))
    → IsPlaceablePoint p.turn p.offset from × IsPlaceablePoint p.turn p.offset to
drawn_points means p n from to t dark tip e stands board =
    let l = leaf (drawn (turned_tip (after t p.turn) tip) (placed p from) (placed p to)) (polarity_in p.dark dark) in
    let all : AreOnBoard (l ∷ []) = subst (λ (o : Option Tip). AreOnBoard
    (draw_leaves o (after t p.turn) (placed p from) (placed p to) (polarity_in p.dark dark))) (sym e) board in
    let ends = drawn_ends (turned_tip (after t p.turn) tip) (placed p from) (placed p to) (all 0 l (omega arith)) in (
      record { here = stands 0 from (omega arith); there = ends.0 },
      record { here = stands 1 from (omega arith); there = ends.1 },
    )

pub swept_points : (means : ℕ → Meaning) (p : Place) (n : ℕ) (from to centre : Point) (ccw dark : Bool) (w : Nm) → Some w ≡ round_width (means n).tip
    → StandsOnBoard (Arc ccw dark n from to centre) → AreOnBoard (object_leaves means p (Arc ccw dark n from to centre))
    → IsPlaceablePoint p.turn p.offset from × IsPlaceablePoint p.turn p.offset to × IsPlaceablePoint p.turn p.offset centre
swept_points means p n from to centre ccw dark w e stands board =
    let l = leaf (Sweep (record {
      from = placed p from;
      to = placed p to;
      centre = placed p centre;
      ccw = placed_direction p.turn ccw;
      width
          = w;
    })) (polarity_in p.dark dark) in
    let all : AreOnBoard (l ∷ []) = subst (λ (o : Option Nm). AreOnBoard
    (arc_leaves o (placed p from) (placed p to) (placed p centre) (placed_direction p.turn ccw) (polarity_in p.dark dark)))
    (sym e) board in (
      record { here = stands 0 from (omega arith); there = all 0 l (omega arith) 0 from (omega arith) },
      record { here = stands 1 from (omega arith); there = all 0 l (omega arith) 1 from (omega arith) },
      record { here = stands 2 from (omega arith); there = all 0 l (omega arith) 2 from (omega arith) },
    )

pub filled_placeable : (means : ℕ → Meaning) (p : Place) (contour : Contour) (dark : Bool) → IsShiftable p.offset
    → StandsOnBoard (Region contour dark) → AreOnBoard (object_leaves means p (Region contour dark)) → IsPlaceable p.turn p.offset contour
filled_placeable means p contour dark offset stands board =
    let l = leaf (Filled (placed_contour p.turn p.offset contour)) (polarity_in p.dark dark) in
    placeable p.turn p.offset contour offset stands (board 0 l (omega arith))

-- ---- copies

pub take-range : (k n a : ℕ) → k ≤ n → take k (range_with_len a n) ≡ range_with_len a k
take-range zero n a h = refl
take-range (suc k) zero a h = absurd (omega arith)
take-range (suc k) (suc n) a h = ap (λ xs. a ∷ xs) (take-range k n (a + 1) (omega arith))

pub at_range : (i n : ℕ) → i < n → i ≡ get_or (range_with_len 0 n) i i
at_range i n h = sym (get_or-range_with_len 0 n i i h ∙ zero-add i)

pub ready_piece : {X : Type 0} (es : List (ℕ × Entry)) (f : X → List Leaf) (xs : List X) (i : ℕ) (x : X) → i < length xs
    → x ≡ get_or xs i x → IsReadyToPrint es (flat_map f xs) → IsReadyToPrint es (f x)
ready_piece es f xs i x h e ready = record {
  few = ready.few;
  sound = ready.sound;
  board = board_piece f xs i x h e ready.board;
}

pub ready_copy : (es : List (ℕ × Entry)) (f : ℕ → List Leaf) (n i : ℕ) → i < n → IsReadyToPrint es (flat_map f (range_with_len 0 n))
    → IsReadyToPrint es (f i)
ready_copy es f n i h ready =
    let len = length-range_with_len 0 n in
    ready_piece es f (range_with_len 0 n) i i (omega arith) (at_range i n h) ready

paintable_copy : (es : List (ℕ × Entry)) (k : ℕ) (dx dy : ℤ) (leaves : List Leaf) → k ≡ length es → unsigned_abs dx < 2 ^ 53
    → unsigned_abs dy < 2 ^ 53 → IsReadyToPrint es leaves → IsPrintable es k (k + 1) (shifted dx dy) leaves
paintable_copy es k dx dy leaves e x y ready = grind (arith, reach_shifted)

-- at the layer's own level every entry counts
pub meaning_whole : (es : List (ℕ × Entry)) (k : ℕ) → k ≡ length es → meaning_before k es ≡ meaning_in es
meaning_whole es k e = ap (λ (xs : List (ℕ × Entry)). meaning_in xs) (ap (λ j. take j es) e ∙ whole es)

-- where leaves are painted at that level, shifted, they may be painted with the entries so counted
pub paintable_whole : (es : List (ℕ × Entry)) (k : ℕ) (dx dy : ℤ) (p : Place) (leaves : (ℕ → Meaning) → Place → List Leaf)
    → k ≡ length es → p ≡ shifted dx dy → unsigned_abs dx < 2 ^ 53 → unsigned_abs dy < 2 ^ 53
    → IsReadyToPrint es (leaves (meaning_in es) (shifted dx dy)) → IsPrintable es k (k + 1) p (leaves (meaning_before k es) p)
paintable_whole es k dx dy p leaves all place x y ready =
    subst (λ q. IsPrintable es k (k + 1) q (leaves (meaning_before k es) q)) (sym place)
    (subst (λ means. IsPrintable es k (k + 1) (shifted dx dy) (leaves means (shifted dx dy))) (sym (meaning_whole es k all))
    (paintable_copy es k dx dy (leaves (meaning_in es) (shifted dx dy)) all x y ready))
