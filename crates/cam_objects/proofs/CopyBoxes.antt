-- the boxes of blocks and of copies
use Rattle.std.proofs.Common.{◌≡◌, ℕ, zero, suc, ◌+◌, Bool, true, false, ℤ, pos, ◌+ℤ◌, ◌*ℤ◌, ◌≤ℤ◌, ◌⊎◌, List, [], ◌∷◌, ◌++◌, map, refl, ap, sym, subst, ◌∙◌, arith}
use Rattle.std.specs.Prelude.{fold}
use Rattle.std.specs.List.{All, flat_map, range_with_len}
use Rattle.std.specs.Int.{int_min, int_max}
use Rattle.std.proofs.lemmas.Int.{ints, clamps}
use Rattle.std.proofs.lemmas.List.Elements.{All-append, All-cons, All-head, All-map, All-nil, All-tail, All-weaker}
use Rattle.std.proofs.lemmas.List.Sums.{fold-append}
use Rattle.cam_units.specs.declared.bounds.Bounds.{Bounds}
use Rattle.cam_units.specs.declared.bounds.Bounds.TheVariants.{Empty, Closed}
use Rattle.cam_units.specs.declared.point.Point.{Point}
use Rattle.cam_units.specs.declared.turn.Turn.TheVariants.{R0}
use Rattle.cam_units.specs.Boxes.{has_no_place, join_of, span_of}
use Rattle.cam_apertures.specs.Turned.{turned_box}
use Rattle.cam_apertures.proofs.Corners.{same_box}
use Rattle.cam_objects.specs.declared.object.Object.{Object}
use Rattle.cam_objects.specs.declared.entry.Entry.{Entry}
use Rattle.cam_objects.specs.declared.placing.place.Place.{Place}
use Rattle.cam_objects.specs.Bounds.{box_of_all, moved}
use Rattle.cam_objects.specs.Leaves.{Leaf, Shape, block_leaves, column_leaves, meaning, origin, repeat_leaves, shifted}
use Rattle.cam_objects.specs.Machinery.Boxes.{IsUncrossed, placed_bounds}
use Rattle.cam_objects.proofs.BoxJoins.{all_append, all_from, joined, some_span, uncrossed_empty, uncrossed_from}
use Rattle.cam_objects.proofs.Painting.{All_left, All_right}
use Rattle.cam_objects.proofs.PlacedBoxes.{block_box_placed, block_placed, boxes_of, box_of_leaves, meaning_placed}
use Rattle.cam_objects.proofs.PlacedJoins.{empty_moved, join_moved, moved_nowhere, moved_twice, uncrossed_placed}
use Rattle.cam_objects.proofs.PlacedShapes.{IsPlacedSo}

-- ---- lists of lists

module _ {X Y : Type 0} (g : Y → Bounds) (f : X → List Y) where
  all_pieces : (xs : List X) → All (λ y. IsUncrossed (g y)) (flat_map f xs) → All (λ x. IsUncrossed (box_of_all g (f x))) xs
  all_pieces [] h = All-nil (λ x. IsUncrossed (box_of_all g (f x)))
  all_pieces (x ∷ xs) h =
      let P : Y → Type 0 = λ y. IsUncrossed (g y) in
      All-cons (λ x. IsUncrossed (box_of_all g (f x))) x xs
      (uncrossed_from g Empty (f x) uncrossed_empty (All_left P (f x) (flat_map f xs) h))
      (all_pieces xs (All_right P (f x) (flat_map f xs) h))

  pub all_flat : (xs : List X) → All (λ y. IsUncrossed (g y)) (flat_map f xs)
      → box_of_all g (flat_map f xs) ≡ box_of_all (λ x. box_of_all g (f x)) xs
  all_flat [] h = refl
  all_flat (x ∷ xs) h =
      let P : Y → Type 0 = λ y. IsUncrossed (g y) in
      let here = All_left P (f x) (flat_map f xs) h in
      let rest = All_right P (f x) (flat_map f xs) h in
      all_append g (f x) (flat_map f xs) here rest
      ∙ ap (join_of (box_of_all g (f x))) (all_flat xs rest)
      ∙ sym (all_from (λ x. box_of_all g (f x)) (box_of_all g (f x)) xs (uncrossed_from g Empty (f x) uncrossed_empty here)
      (all_pieces xs rest))

-- ---- steps

-- so many steps
abbrev steps : ℕ → Point → Point
steps k v = record { x = pos k *ℤ v.x; y = pos k *ℤ v.y }

-- one step more leads farther the same way
step_more : (k : ℕ) (v : ℤ) → pos (suc k) *ℤ v ≡ pos k *ℤ v +ℤ v
step_more k v = grind (arith, ints)

same_way : (k : ℕ) (v : ℤ) → ((pos 0 ≤ℤ v) × (pos 0 ≤ℤ (pos k *ℤ v))) ⊎ ((v ≤ℤ pos 0) × ((pos k *ℤ v) ≤ℤ pos 0))
same_way k v = grind (arith, ints)

least_between : (l a v b : ℤ) → b ≡ a +ℤ v → ((pos 0 ≤ℤ v) × (pos 0 ≤ℤ a)) ⊎ ((v ≤ℤ pos 0) × (a ≤ℤ pos 0))
    → int_min (int_min l (l +ℤ pos 2 *ℤ a)) (l +ℤ pos 2 *ℤ b) ≡ int_min l (l +ℤ pos 2 *ℤ b)
least_between l a v b e it = grind (arith, ints, clamps)

greatest_between : (l a v b : ℤ) → b ≡ a +ℤ v → ((pos 0 ≤ℤ v) × (pos 0 ≤ℤ a)) ⊎ ((v ≤ℤ pos 0) × (a ≤ℤ pos 0))
    → int_max (int_max l (l +ℤ pos 2 *ℤ a)) (l +ℤ pos 2 *ℤ b) ≡ int_max l (l +ℤ pos 2 *ℤ b)
greatest_between l a v b e it = grind (arith, ints, clamps)

pub join_self : (b : Bounds) → join_of b b ≡ b
join_self b = grind (arith, joined, same_box, ints, clamps)

-- a copy that lies between two others adds nothing to their box
step_within : (k : ℕ) (v : Point) (b : Bounds)
    → join_of (join_of b (moved (steps k v) b)) (moved (steps (suc k) v) b) ≡ join_of b (moved (steps (suc k) v) b)
step_within k v Empty = refl
step_within k v (Closed low high) = by (has_no_place (Closed low high)) refl
  where
    b : Bounds
    b = Closed low high

    by : (w : Bool) → has_no_place b ≡ w → join_of (join_of b (moved (steps k v) b)) (moved (steps (suc k) v) b)
        ≡ join_of b (moved (steps (suc k) v) b)
    by true e =
        let here = moved (steps k v) b in
        let next = moved (steps (suc k) v) b in
        let e' : has_no_place here ≡ true = empty_moved (steps k v) b ∙ e in
        (λ i. join_of (joined (e i) (has_no_place here) b here) next)
        ∙ (λ i. joined (e' i) (has_no_place next) here next)
        ∙ sym (λ i. joined (e i) (has_no_place next) b next)
    by false e =
        let here = moved (steps k v) b in
        let next = moved (steps (suc k) v) b in
        let e' : has_no_place here ≡ false = empty_moved (steps k v) b ∙ e in
        let e'' : has_no_place next ≡ false = empty_moved (steps (suc k) v) b ∙ e in
        (λ i. join_of (joined (e i) (e' i) b here) next)
        ∙ (λ i. joined (some_span b here e i) (e'' i) (span_of b here) next)
        ∙ same_box _ _ _ _ _ _ _ _
        (least_between low.x (steps k v).x v.x (steps (suc k) v).x (step_more k v.x) (same_way k v.x))
        (least_between low.y (steps k v).y v.y (steps (suc k) v).y (step_more k v.y) (same_way k v.y))
        (greatest_between high.x (steps k v).x v.x (steps (suc k) v).x (step_more k v.x) (same_way k v.x))
        (greatest_between high.y (steps k v).y v.y (steps (suc k) v).y (step_more k v.y) (same_way k v.y))
        ∙ sym (λ i. joined (e i) (e'' i) b next)

pub range_more : (a n : ℕ) → range_with_len a (suc n) ≡ range_with_len a n ++ (a + n) ∷ []
range_more a zero = λ i. plus_none a i ∷ []
  where
    plus_none : (a : ℕ) → a ≡ a + 0
    plus_none a = omega arith
range_more a (suc n) = ap (λ ks. a ∷ ks) (range_more (a + 1) n ∙ ap (λ k. range_with_len (a + 1) n ++ k ∷ []) (next a n))
  where
    next : (a n : ℕ) → a + 1 + n ≡ a + suc n
    next a n = omega arith

no_steps : (v : Point) → steps 0 v ≡ record { x = pos 0; y = pos 0 }
no_steps v = λ i. record { x = none v.x i; y = none v.y i }
  where
    none : (z : ℤ) → pos 0 *ℤ z ≡ pos 0
    none z = omega (arith, ints)

-- the box of a row of copies is that of the first joined with the last
row_box : (v : Point) (b : Bounds) (n : ℕ) → box_of_all (λ k. moved (steps k v) b) (range_with_len 0 (suc n))
    ≡ join_of b (moved (steps n v) b)
row_box v b zero = grind (arith, no_steps, moved_nowhere, join_self)
row_box v b (suc n) =
    let copy : ℕ → Bounds = λ k. moved (steps k v) b in
    ap (box_of_all copy) (range_more 0 (suc n))
    ∙ fold-append (λ all k. join_of all (copy k)) Empty (range_with_len 0 (suc n)) ((0 + suc n) ∷ [])
    ∙ ap (λ k. join_of (box_of_all copy (range_with_len 0 (suc n))) (copy k)) (zero_plus (suc n))
    ∙ ap (λ first. join_of first (copy (suc n))) (row_box v b n)
    ∙ step_within n v b
  where
    zero_plus : (n : ℕ) → 0 + n ≡ n
    zero_plus n = omega arith

-- the corners of a grid of copies
grid_box : (x y : ℤ) (b : Bounds)
    → let up = join_of b (moved (record { x = pos 0; y = y }) b) in
    join_of up (moved (record { x = x; y = pos 0 }) up) ≡ join_of b (moved (record { x = x; y = y }) b)
grid_box x y Empty = refl
grid_box x y (Closed low high) = by (has_no_place (Closed low high)) refl
  where
    b : Bounds
    b = Closed low high

    above : Bounds
    above = moved (record { x = pos 0; y = y }) b

    far : Bounds
    far = moved (record { x = x; y = y }) b

    by : (w : Bool) → has_no_place b ≡ w → join_of (join_of b above) (moved (record { x = x; y = pos 0 }) (join_of b above)) ≡ join_of b far
    by true e =
        let e' : has_no_place above ≡ true = empty_moved (record { x = pos 0; y = y }) b ∙ e in
        let up : join_of b above ≡ above = λ i. joined (e i) (has_no_place above) b above in
        ap (λ u. join_of u (moved (record { x = x; y = pos 0 }) u)) up
        ∙ (λ i. joined (e' i) (has_no_place (moved (record { x = x; y = pos 0 }) above)) above (moved (record { x = x; y = pos 0 }) above))
        ∙ same_box _ _ _ _ _ _ _ _ (omega (arith, ints)) (omega (arith, ints)) (omega (arith, ints)) (omega (arith, ints))
        ∙ sym (λ i. joined (e i) (has_no_place far) b far)
    by false e =
        let e' : has_no_place above ≡ false = empty_moved (record { x = pos 0; y = y }) b ∙ e in
        let f : has_no_place far ≡ false = empty_moved (record { x = x; y = y }) b ∙ e in
        let up : join_of b above ≡ span_of b above = λ i. joined (e i) (e' i) b above in
        let s : has_no_place (span_of b above) ≡ false = some_span b above e in
        let s' : has_no_place (moved (record { x = x; y = pos 0 }) (span_of b above)) ≡ false
        = empty_moved (record { x = x; y = pos 0 }) (span_of b above) ∙ s in
        ap (λ u. join_of u (moved (record { x = x; y = pos 0 }) u)) up
        ∙ (λ i. joined (s i) (s' i) (span_of b above) (moved (record { x = x; y = pos 0 }) (span_of b above)))
        ∙ same_box _ _ _ _ _ _ _ _ (omega (arith, ints, clamps)) (omega (arith, ints, clamps)) (omega (arith, ints, clamps))
        (omega (arith, ints, clamps))
        ∙ sym (λ i. joined (e i) (f i) b far)

-- ---- repeats

pub unmapped : {X Y : Type 0} (Q : Y → Type 0) (f : X → Y) (xs : List X) → All Q (map f xs) → All (λ x. Q (f x)) xs
unmapped Q f [] h = All-nil (λ x. Q (f x))
unmapped Q f (x ∷ xs) h = grind (arith, All-cons, All-head, All-tail, unmapped Q f xs (All-tail Q (f x) (map f xs) h))

pub all_flat_map : {X Y : Type 0} (Q : Y → Type 0) (f : X → List Y) → ((x : X) → All Q (f x)) → (xs : List X) → All Q (flat_map f xs)
all_flat_map Q f h [] = All-nil Q
all_flat_map Q f h (x ∷ xs) = All-append Q (f x) (flat_map f xs) (h x) (all_flat_map Q f h xs)

times_none : (n : ℕ) → pos n *ℤ pos 0 ≡ pos 0
times_none n = omega (arith, ints)

pub unturned : (b : Bounds) → turned_box R0 b ≡ b
unturned b = grind arith

module _ (m : Shape → Bounds) (law : IsPlacedSo m) (es : List (ℕ × Entry)) where
  abbrev P : Leaf → Type 0
  P l = IsUncrossed (m l.shape)

  -- the box of a copy is that of the first, moved
  pub copy_box : (objects : List Object) (dx dy : ℤ)
      → box_of_leaves m (block_leaves (meaning es) (shifted dx dy) objects)
      ≡ moved (record { x = dx; y = dy }) (box_of_leaves m (block_leaves (meaning es) origin objects))
  copy_box objects dx dy =
      block_box_placed m law es objects (shifted dx dy)
      ∙ ap (moved (record { x = dx; y = dy })) (unturned (box_of_leaves m (block_leaves (meaning es) origin objects)))

  module _ (objects : List Object) (clear : All P (block_leaves (meaning es) origin objects)) where
    abbrev b : Bounds
    b = box_of_leaves m (block_leaves (meaning es) origin objects)

    copy_clear : (p : Place) → All P (block_leaves (meaning es) p objects)
    copy_clear p =
        unmapped IsUncrossed (λ l. m l.shape) (block_leaves (meaning es) p objects)
        (subst (All IsUncrossed) (sym (block_placed m law (meaning es) (meaning_placed m law es) objects p))
        (All-map IsUncrossed (placed_bounds p) (boxes_of m (block_leaves (meaning es) origin objects))
        (All-weaker IsUncrossed (λ c. IsUncrossed (placed_bounds p c)) (uncrossed_placed p)
        (boxes_of m (block_leaves (meaning es) origin objects))
        (All-map IsUncrossed (λ l. m l.shape) (block_leaves (meaning es) origin objects) clear))))

    abbrev upward : ℤ → ℕ → Bounds
    upward j r = moved (steps r (record { x = pos 0; y = j })) b

    up_steps : (dx : ℤ) (r : ℕ) (j : ℤ)
        → moved (record { x = dx; y = pos r *ℤ j }) b ≡ moved (record { x = dx; y = pos 0 })
        (moved (steps r (record { x = pos 0; y = j })) b)
    up_steps dx r j =
        sym (moved_twice (record { x = dx; y = pos 0 }) (steps r (record { x = pos 0; y = j })) b
        ∙ (λ i. moved (record { x = across dx r i; y = upright (pos r *ℤ j) i }) b))
      where
        across : (dx : ℤ) (r : ℕ) → pos r *ℤ pos 0 +ℤ dx ≡ dx
        across dx r = omega (arith, ints)

        upright : (z : ℤ) → z +ℤ pos 0 ≡ z
        upright z = omega (arith, ints)

    joins_moved : (o : Point) (f : ℕ → Bounds) (z : Bounds) (ks : List ℕ)
        → fold (λ all k. join_of all (moved o (f k))) (moved o z) ks ≡ moved o (fold (λ all k. join_of all (f k)) z ks)
    joins_moved o f z [] = refl
    joins_moved o f z (k ∷ ks) =
        ap (λ first. fold (λ all k. join_of all (moved o (f k))) first ks) (sym (join_moved o z (f k)))
        ∙ joins_moved o f (join_of z (f k)) ks

    pub column_box : (dx : ℤ) (rows : ℕ) (j : ℤ)
        → box_of_leaves m (column_leaves (meaning es) dx (suc rows) j objects)
        ≡ moved (record { x = dx; y = pos 0 }) (join_of b (moved (record { x = pos 0; y = pos rows *ℤ j }) b))
    column_box dx rows j =
        let copies : ℕ → List Leaf = λ r. block_leaves (meaning es) (shifted dx (pos r *ℤ j)) objects in
        let ks = range_with_len 0 (suc rows) in
        all_flat (λ l. m l.shape) copies ks (all_flat_map P copies (λ r. copy_clear (shifted dx (pos r *ℤ j))) ks)
        ∙ (λ i. box_of_all (λ r. (copy_box objects dx (pos r *ℤ j) ∙ up_steps dx r j) i) ks)
        ∙ joins_moved (record { x = dx; y = pos 0 }) (upward j) Empty ks
        ∙ ap (moved (record { x = dx; y = pos 0 })) (row_box (record { x = pos 0; y = j }) b rows
        ∙ (λ i. join_of b (moved (record { x = times_none rows i; y = pos rows *ℤ j }) b)))

    -- the box of all copies is that of the first joined with the last
    pub repeat_box : (columns rows : ℕ) (i j : ℤ)
        → box_of_leaves m (repeat_leaves (meaning es) (suc columns) (suc rows) i j objects)
        ≡ join_of b (moved (record { x = pos columns *ℤ i; y = pos rows *ℤ j }) b)
    repeat_box columns rows i j =
        let column : ℕ → List Leaf = λ c. column_leaves (meaning es) (pos c *ℤ i) (suc rows) j objects in
        let up = join_of b (moved (record { x = pos 0; y = pos rows *ℤ j }) b) in
        let ks = range_with_len 0 (suc columns) in
        let clear_column : (c : ℕ) → All P (column c) = λ c.
        all_flat_map P (λ r. block_leaves (meaning es) (shifted (pos c *ℤ i) (pos r *ℤ j)) objects)
        (λ r. copy_clear (shifted (pos c *ℤ i) (pos r *ℤ j))) (range_with_len 0 (suc rows)) in
        all_flat (λ l. m l.shape) column ks (all_flat_map P column clear_column ks)
        ∙ (λ k. box_of_all (λ c. (column_box (pos c *ℤ i) rows j ∙ across c i up) k) ks)
        ∙ row_box (record { x = i; y = pos 0 }) up columns
        ∙ (λ k. join_of up (moved (record { x = pos columns *ℤ i; y = times_none columns k }) up))
        ∙ grid_box (pos columns *ℤ i) (pos rows *ℤ j) b
      where
        across : (c : ℕ) (i : ℤ) (up : Bounds) → moved (record { x = pos c *ℤ i; y = pos 0 }) up
            ≡ moved (steps c (record { x = i; y = pos 0 })) up
        across c i up = λ k. moved (record { x = pos c *ℤ i; y = sym (times_none c) k }) up
