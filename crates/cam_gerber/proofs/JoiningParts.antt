-- What is sound stays so where a sound object joins it that fits, and where a repeat is closed.
use Rattle.std.proofs.Common.{◌≡◌, ℕ, ◌+◌, ◌*◌, ◌<◌, ◌≤◌, List, [], ◌∷◌, ◌++◌, length, map, leb, Bool, true, false}
use Rattle.std.proofs.Common.{cond, refl, sym, ap, subst, arith, append-nil, length-append}
use Rattle.std.specs.Prelude.{not, unsigned_abs}
use Rattle.std.specs.List.{All, list_all}
use Rattle.std.proofs.lemmas.Bool.{eqb-true, leb-false, ltb-false, ltb-true, or_parts, and_parts}
use Rattle.std.proofs.lemmas.List.Elements.{All-cons, All-nil, All-weaker, All-push}
use Rattle.std.proofs.lemmas.List.Sums.{sum_by-append, sum_by-cons}
use Rattle.cam_units.specs.Board.{IsOnBoard}
use Rattle.cam_units.specs.declared.point.Point.{Point}
use Rattle.cam_objects.specs.declared.object.Object.{Object}
use Rattle.cam_objects.specs.declared.item.Item.{Item}
use Rattle.cam_objects.specs.declared.item.Item.TheVariants.{One, Repeat}
use Rattle.cam_objects.specs.Leaves.{Leaf, item_leaves, meaning_in, object_leaves, origin}
use Rattle.cam_objects.specs.Soundness.{AreOnBoard, IsSoundItem, points_of_shape, is_on_board}
use Rattle.cam_objects.specs.Weights.{block_count, item_count, object_count, object_depth, weight_in}
use Rattle.cam_objects.proofs.SoundItems.{IsDrawable, IsFormed, IsKnown, sound}
use Rattle.cam_gerber.specs.State.{Past}
use Rattle.cam_gerber.specs.Homes.{Home, InBlock, InRepeat, InLayer, is_same_home, Opened}
use Rattle.cam_gerber.specs.Making.{home_objects}
use Rattle.cam_gerber.specs.Layers.{entries_in, items_in, leaves_in, home_leaves, repeat_by}
use Rattle.cam_gerber.specs.Faults.{are_leaves_on_board, is_full, is_left_out}
use Rattle.cam_gerber.proofs.SoundParts.{Pairs, IsMade, IsSoundOpen, IsSoundRepeated, IsSoundBuilt, one_item}

-- ---- tests

pub told : (b : Bool) → not b ≡ false → b ≡ true
told b h = grind arith

pub on_board : (p : Point) → is_on_board p ≡ true → IsOnBoard p
on_board p h = let on = and_parts _ _ h in record { x = ltb-true _ _ on.0; y = ltb-true _ _ on.1 }

points_on_board : (ps : List Point) → list_all is_on_board ps ≡ true → All IsOnBoard ps
points_on_board [] h = All-nil IsOnBoard
points_on_board (p ∷ ps) h = let on = and_parts (is_on_board p) (list_all is_on_board ps) h in
    All-cons IsOnBoard p ps (on_board p on.0) (points_on_board ps on.1)

pub leaves_on_board : (leaves : List Leaf) → are_leaves_on_board leaves ≡ true → AreOnBoard leaves
leaves_on_board [] h = All-nil (λ l. All IsOnBoard (points_of_shape l.shape))
leaves_on_board (l ∷ leaves) h =
    let on = and_parts (list_all is_on_board (points_of_shape l.shape)) (are_leaves_on_board leaves) h in
    All-cons (λ l. All IsOnBoard (points_of_shape l.shape)) l leaves (points_on_board (points_of_shape l.shape) on.0)
    (leaves_on_board leaves on.1)

-- ---- homes

pub same_home : (h k : Home) → is_same_home h k ≡ true → h ≡ k
same_home h k e = grind (arith, eqb-true)

-- in a repeat the leaves are judged when it is closed
abbrev pub IsBoundAt : Home → Past → Object → Type 0
IsBoundAt (InBlock n) past o = AreOnBoard (object_leaves (meaning_in (entries_in past)) origin o)
IsBoundAt (InRepeat before) past o = Unit {0}
IsBoundAt InLayer past o = AreOnBoard (object_leaves (meaning_in (entries_in past)) origin o)

-- a home has room for an object
pub record IsFit (past : Past) (o : Object) (h : Home) : Type 0 where
  pub made : IsMade (entries_in past) o
  pub room : is_full h past o ≡ false
  pub bound : IsBoundAt h past o

-- at most one object, which fits
abbrev pub AreFit : Past → List Object → Home → Type 0
AreFit past [] h = Unit {0}
AreFit past (o ∷ []) h = IsFit past o h
AreFit past (o ∷ p ∷ objects) h = ⊥

-- ---- objects that join

one_count : (es : Pairs) (o : Object) → block_count (weight_in es) (o ∷ []) ≡ object_count (weight_in es) o
one_count es o = omega (arith, sum_by-cons (object_count (weight_in es)) o [])

pub joined_block : (past : Past) (n : ℕ) (more : List Object) (b : Bool) → (b ≡ true → AreFit past more (InBlock n))
    → IsSoundOpen (entries_in past) (home_objects (InBlock n) past) (home_leaves (InBlock n) past)
    → IsSoundOpen (entries_in past) (home_objects (InBlock n) past ++ cond b more [])
    (home_leaves (InBlock n) past + block_count (weight_in (entries_in past)) (cond b more []))
joined_block past n more b fits s = by b more fits
  where
    objects : List Object
    objects = home_objects (InBlock n) past

    leaves : ℕ
    leaves = home_leaves (InBlock n) past

    es : Pairs
    es = entries_in past

    none : IsSoundOpen es (objects ++ []) (leaves + block_count (weight_in es) [])
    none = subst (λ (p : List Object × ℕ). IsSoundOpen es p.0 p.1) (λ i. (sym (append-nil objects) i, zero_more i)) s
      where
        zero_more : leaves ≡ leaves + block_count (weight_in es) []
        zero_more = omega arith

    by : (b : Bool) (more : List Object) → (b ≡ true → AreFit past more (InBlock n))
        → IsSoundOpen es (objects ++ cond b more []) (leaves + block_count (weight_in es) (cond b more []))
    by false more fits = none
    by true [] fits = none
    by true (o ∷ p ∷ more) fits = absurd (fits refl)
    by true (o ∷ []) fits =
        let fit : IsFit past o (InBlock n) = fits refl in
        let parts = or_parts _ (leb 8 (object_depth (weight_in es) o)) fit.room in
        let counts = or_parts (leb 1000000 (length objects)) _ parts.0 in
        let few = leb-false 1000000 (length objects) counts.0 in
        let room = ltb-false 4000000 (leaves + object_count (weight_in es) o) counts.1 in
        let deep = leb-false 8 (object_depth (weight_in es) o) parts.1 in
        record {
          each = All-push (λ x. IsSoundItem es (One x)) objects o s.each
              (one_item es o (record { made = fit.made; leaves = fit.bound; count = omega (arith, room) }));
          few = omega (arith, few, length-append objects (o ∷ []));
          count = omega (arith, s.count, sum_by-append (object_count (weight_in es)) objects (o ∷ []));
          most = omega (arith, room, one_count es o);
          depth = All-push (λ x. object_depth (weight_in es) x ≤ 7) objects o s.depth (omega (arith, deep));
        }

pub joined_repeat : (past : Past) (before : ℕ) (more : List Object) (b : Bool) → (b ≡ true → AreFit past more (InRepeat before))
    → IsSoundRepeated (entries_in past) (home_objects (InRepeat before) past) (home_leaves (InRepeat before) past)
    → IsSoundRepeated (entries_in past) (home_objects (InRepeat before) past ++ cond b more [])
    (home_leaves (InRepeat before) past + block_count (weight_in (entries_in past)) (cond b more []))
joined_repeat past before more b fits s = by b more fits
  where
    objects : List Object
    objects = home_objects (InRepeat before) past

    leaves : ℕ
    leaves = home_leaves (InRepeat before) past

    es : Pairs
    es = entries_in past

    none : IsSoundRepeated es (objects ++ []) (leaves + block_count (weight_in es) [])
    none = subst (λ (p : List Object × ℕ). IsSoundRepeated es p.0 p.1) (λ i. (sym (append-nil objects) i, zero_more i)) s
      where
        zero_more : leaves ≡ leaves + block_count (weight_in es) []
        zero_more = omega arith

    by : (b : Bool) (more : List Object) → (b ≡ true → AreFit past more (InRepeat before))
        → IsSoundRepeated es (objects ++ cond b more []) (leaves + block_count (weight_in es) (cond b more []))
    by false more fits = none
    by true [] fits = none
    by true (o ∷ p ∷ more) fits = absurd (fits refl)
    by true (o ∷ []) fits =
        let fit : IsFit past o (InRepeat before) = fits refl in
        let few = leb-false 1000000 (length objects) fit.room in
        record {
          each = All-push (IsMade es) objects o s.each fit.made;
          few = omega (arith, few, length-append objects (o ∷ []));
          count = omega (arith, s.count, sum_by-append (object_count (weight_in es)) objects (o ∷ []));
        }

pub joined_layer : (past : Past) (more : List Object) (b : Bool) → (b ≡ true → AreFit past more InLayer)
    → IsSoundBuilt (entries_in past) (items_in past) (leaves_in past)
    → IsSoundBuilt (entries_in past) (items_in past ++ map One (cond b more []))
    (leaves_in past + block_count (weight_in (entries_in past)) (cond b more []))
joined_layer past more b fits s = by b more fits
  where
    items : List Item
    items = items_in past

    leaves : ℕ
    leaves = leaves_in past

    es : Pairs
    es = entries_in past

    none : IsSoundBuilt es (items ++ []) (leaves + block_count (weight_in es) [])
    none = subst (λ (p : List Item × ℕ). IsSoundBuilt es p.0 p.1) (λ i. (sym (append-nil items) i, zero_more i)) s
      where
        zero_more : leaves ≡ leaves + block_count (weight_in es) []
        zero_more = omega arith

    by : (b : Bool) (more : List Object) → (b ≡ true → AreFit past more InLayer)
        → IsSoundBuilt es (items ++ map One (cond b more [])) (leaves + block_count (weight_in es) (cond b more []))
    by false more fits = none
    by true [] fits = none
    by true (o ∷ p ∷ more) fits = absurd (fits refl)
    by true (o ∷ []) fits =
        let fit : IsFit past o InLayer = fits refl in
        let counts = or_parts (leb 1000000 (length items)) _ fit.room in
        let few = leb-false 1000000 (length items) counts.0 in
        let room = ltb-false 4000000 (leaves + object_count (weight_in es) o) counts.1 in
        record {
          each = All-push (IsSoundItem es) items (One o) s.each
              (one_item es o (record { made = fit.made; leaves = fit.bound; count = omega (arith, room) }));
          few = omega (arith, few, length-append items (One o ∷ []));
          count = omega (
            arith,
            s.count,
            one_count es o,
            sum_by-append (item_count (weight_in es)) items (One o ∷ []),
            sum_by-cons (item_count (weight_in es)) (One o) [],
          );
          most = omega (arith, room, one_count es o);
        }

-- ---- a repeat that is closed

-- what an open repeat has been opened with
pub record IsOpening (o : Opened) : Type 0 where
  pub copies : 1 < o.columns * o.rows
  pub steps_i : unsigned_abs o.i < 1000000000
  pub steps_j : unsigned_abs o.j < 1000000000

-- the item has its leaves on the board
abbrev pub IsClosable : Pairs → Opened → List Object → Type 0
IsClosable es o objects = AreOnBoard (item_leaves (meaning_in es) (Repeat o.columns o.rows o.i o.j objects))

repeat_item : (es : Pairs) (o : Opened) (x : Object) (xs : List Object) (leaves : ℕ) → IsOpening o
    → IsSoundRepeated es (x ∷ xs) leaves → IsClosable es o (x ∷ xs)
    → o.columns * o.rows * block_count (weight_in es) (x ∷ xs) ≤ 4000000 → IsSoundItem es (Repeat o.columns o.rows o.i o.j (x ∷ xs))
repeat_item es o x xs leaves opening s board light = grind (arith, sound, All-weaker, IsMade, IsFormed, IsKnown, IsDrawable)

pub settled : (es : Pairs) (items : List Item) (all : ℕ) (o : Opened) (objects : List Object) (leaves : ℕ) → IsOpening o
    → IsSoundRepeated es objects leaves → IsSoundBuilt es items all
    → (is_left_out (repeat_by o objects) ≡ false
    → IsClosable es o objects × (length items < 1000000) × (all + o.columns * o.rows * leaves ≤ 4000000))
    → IsSoundBuilt es (items ++ repeat_by o objects) (all + o.columns * o.rows * leaves)
settled es items all o [] leaves opening s b room = grind (arith, IsSoundBuilt, append-nil)
settled es items all o (x ∷ xs) leaves opening s b room =
    let fits = room refl in
    let weighs : o.columns * o.rows * leaves ≡ o.columns * o.rows * block_count (weight_in es) (x ∷ xs) =
    ap (λ n. o.columns * o.rows * n) s.count in
    let item : Item = Repeat o.columns o.rows o.i o.j (x ∷ xs) in
    record {
      each = All-push (IsSoundItem es) items item b.each (repeat_item es o x xs leaves opening s fits.0 (omega (arith, weighs, fits.2)));
      few = omega (arith, fits.1, length-append items (item ∷ []));
      count = omega (
        arith,
        weighs,
        b.count,
        sum_by-append (item_count (weight_in es)) items (item ∷ []),
        sum_by-cons (item_count (weight_in es)) item [],
      );
      most = fits.2;
    }
