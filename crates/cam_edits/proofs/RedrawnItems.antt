-- What lists of items paint at a place that lies outside the boxes of those that change.
use Rattle.std.proofs.Common.{arith, ◌≡◌, ℕ, suc, Bool, true, false, cond, List, [], ◌∷◌, ◌++◌, take, drop, Option, Some, refl}
use Rattle.std.proofs.Common.{ap, sym, ◌∙◌}
use Rattle.std.specs.Prelude.{All, filter, insert, remove, slice_get}
use Rattle.std.specs.List.{flat_map}
use Rattle.std.specs.Option.{option_map}
use Rattle.std.proofs.lemmas.List.{append-nil, append_assoc, take-append-drop}
use Rattle.std.proofs.lemmas.List.Elements.{All-cons, All-head, All-nil, All-tail}
use Rattle.cam_units.specs.Boxes.{Holds}
use Rattle.cam_units.specs.declared.bounds.Bounds.{Bounds}
use Rattle.cam_units.specs.declared.point.Spot.{Spot}
use Rattle.cam_objects.specs.Bounds.{bounds_of}
use Rattle.cam_objects.specs.Leaves.{Leaf}
use Rattle.cam_objects.specs.Tests.{is_black}
use Rattle.cam_objects.proofs.Painting.{All_left, All_right}
use Rattle.cam_objects.proofs.Redraws.{keeps_outside}
use Rattle.cam_objects.proofs.TestLaws.{black_law, test_of_image}
use Rattle.cam_edits.specs.Machinery.PlaceLaws.{changed_is, within}
use Rattle.cam_edits.specs.Places.{changed, reordered}
use Rattle.cam_edits.specs.Touched.{box_if_there}
use Rattle.cam_edits.proofs.EditedLists.{set_here, split_here}

-- the place lies outside the box, or outside each of them
abbrev pub IsOff : Spot → Bounds → Type 0
IsOff s box = ¬ Holds box s

abbrev pub AreOff : Spot → List Bounds → Type 0
AreOff s boxes = All (IsOff s) boxes

module _ {X : Type 0} (paints : X → List Leaf) (s : Spot) where
  -- whether the items make the place black
  abbrev pub colour : List X → Bool
  colour items = is_black (flat_map paints items) s

  abbrev box : X → Bounds
  box x = bounds_of (paints x)

  abbrev pub IsItemOff : X → Type 0
  IsItemOff x = IsOff s (box x)

  -- items that stand in place of others
  exchanged : (before old new after : List X) → All IsItemOff old → All IsItemOff new
      → colour (before ++ (old ++ after)) ≡ colour (before ++ (new ++ after))
  exchanged before old new after h k =
      let law = keeps_outside paints in
      let same = law.exchanged before old new after s h k in
      let first = before ++ old ++ after in
      let next = before ++ new ++ after in
      let black = black_law (flat_map paints first) s in
      ap colour (sym (append_assoc before old after))
      ∙ test_of_image s (flat_map paints next) (colour first)
      (λ t. same.0 (black.0 t), λ b. black.1 (same.1 b))
      ∙ ap colour (append_assoc before new after)

  without : (before after : List X) (x : X) → IsItemOff x → colour (before ++ x ∷ after) ≡ colour (before ++ after)
  without before after x off =
      exchanged before (x ∷ []) [] after (All-cons IsItemOff x [] off (All-nil IsItemOff)) (All-nil IsItemOff)

  -- an item that is put in, taken out, or both
  pub put_in : (xs : List X) (k : ℕ) (x : X) → IsItemOff x → colour xs ≡ colour (insert xs k x)
  put_in xs k x off = ap colour (sym (take-append-drop k xs)) ∙ sym (without (take k xs) (drop k xs) x off)

  module _ (xs : List X) (k : ℕ) (x : X) (here : slice_get xs k ≡ Some x) (off : IsItemOff x) where
    pub taken_out : colour xs ≡ colour (remove xs k)
    taken_out = ap colour (split_here xs k x here) ∙ without (take k xs) (drop (suc k) xs) x off

    pub carried_off : (m : ℕ) → colour xs ≡ colour (reordered xs k m)
    carried_off m = grind (arith, taken_out, put_in)

    replaced : (f : X → X) → IsItemOff (f x) → colour xs ≡ colour (changed f xs k)
    replaced f next =
        taken_out
        ∙ sym (without (take k xs) (drop (suc k) xs) (f x) next)
        ∙ ap colour (sym (changed_is xs k x here f ∙ set_here xs k (f x) (within xs k x here)))

  -- the box of an item that is there is one of the boxes
  pub item_off : (o : Option X) (x : X) → o ≡ Some x → AreOff s (box_if_there box o) → IsItemOff x
  item_off o x e h = grind (arith, All-head)

  -- an item that becomes another
  pub changed_off : (xs : List X) (k : ℕ) (x : X) → slice_get xs k ≡ Some x → (f : X → X)
      → AreOff s (box_if_there box (slice_get xs k) ++ box_if_there box (option_map f (slice_get xs k)))
      → colour xs ≡ colour (changed f xs k)
  changed_off xs k x here f off =
      let before = box_if_there box (slice_get xs k) in
      let after = box_if_there box (option_map f (slice_get xs k)) in
      replaced xs k x here (item_off (slice_get xs k) x here (All_left (IsOff s) before after off)) f
      (item_off (option_map f (slice_get xs k)) (f x) (ap (option_map f) here) (All_right (IsOff s) before after off))

-- ---- items that are painted in another way

-- leaves of which none covers the place, in place of others of which none does
redrawn : (s : Spot) (front old new behind : List Leaf) → IsOff s (bounds_of old) → IsOff s (bounds_of new)
    → is_black (front ++ (old ++ behind)) s ≡ is_black (front ++ (new ++ behind)) s
redrawn s front old new behind before after =
    let whole : List Leaf → List Leaf = λ leaves. leaves in
    let off = IsItemOff whole s in
    let end = append-nil behind in
    ap (λ rest. is_black (front ++ (old ++ rest)) s) (sym end)
    ∙ exchanged whole s (front ∷ []) (old ∷ []) (new ∷ []) (behind ∷ []) (All-cons off old [] before (All-nil off))
    (All-cons off new [] after (All-nil off))
    ∙ ap (λ rest. is_black (front ++ (new ++ rest)) s) end

module _ {X : Type 0} (paints repaints : X → List Leaf) (differs : X → Bool)
    (same : (x : X) → differs x ≡ false → paints x ≡ repaints x) (s : Spot) where
  abbrev pub both_boxes : X → List Bounds
  both_boxes x = bounds_of (paints x) ∷ bounds_of (repaints x) ∷ []

  abbrev black_behind : List Leaf → List Leaf → Bool
  black_behind front leaves = is_black (front ++ leaves) s

  -- an item, after all that is painted before it
  module _ (front : List Leaf) (x : X) (xs : List X) where
    abbrev others : List Bounds
    others = flat_map both_boxes (filter differs xs)

    abbrev HasRest : Type 0
    HasRest =
        black_behind (front ++ repaints x) (flat_map paints xs)
        ≡ black_behind (front ++ repaints x) (flat_map repaints xs)

    abbrev HasBoth : Type 0
    HasBoth = black_behind front (flat_map paints (x ∷ xs)) ≡ black_behind front (flat_map repaints (x ∷ xs))

    one_more : (leaves more : List Leaf) → black_behind (front ++ leaves) more ≡ black_behind front (leaves ++ more)
    one_more leaves more = ap (λ all. is_black all s) (append_assoc front leaves more)

    then_rest : black_behind front (paints x ++ flat_map paints xs)
        ≡ black_behind front (repaints x ++ flat_map paints xs)
        → HasRest → HasBoth
    then_rest first rest = grind (arith, one_more)

    item_repainted : (b : Bool) → differs x ≡ b
        → AreOff s (flat_map both_boxes (cond b (x ∷ filter differs xs) (filter differs xs)))
        → (AreOff s others → HasRest) → HasBoth
    item_repainted true e off rest =
        let before = bounds_of (paints x) in
        let after = bounds_of (repaints x) in
        let later = All-tail (IsOff s) before (after ∷ others) off in
        then_rest
        (redrawn s front (paints x) (repaints x) (flat_map paints xs)
        (All-head (IsOff s) before (after ∷ others) off) (All-head (IsOff s) after others later))
        (rest (All-tail (IsOff s) after others later))
    item_repainted false e off rest = grind (arith, then_rest)

  -- the place lies outside both boxes of each item that is painted otherwise
  pub repainted : (front : List Leaf) (xs : List X) → AreOff s (flat_map both_boxes (filter differs xs))
      → black_behind front (flat_map paints xs) ≡ black_behind front (flat_map repaints xs)
  repainted front [] off = refl
  repainted front (x ∷ xs) off =
      item_repainted front x xs (differs x) refl off (λ off. repainted (front ++ repaints x) xs off)
