-- the cells of the objects of a block are kept beside a dictionary that grows, and who paints it passes over those that lie elsewhere
use Rattle.std.proofs.Common.{◌≡◌, ℕ, zero, suc, ◌+◌, ◌*◌, ◌<◌, ◌≤◌, ℤ, Bool, Option, None, Some, List, [], ◌∷◌, ◌++◌, length, take, drop, get_or, reverse, sym, ap, subst, ◌∙◌, arith, inl, inr}
use Rattle.std.specs.List.{All, flat_map}
use Rattle.std.specs.Option.{IfNone, IfSome}
use Rattle.std.proofs.lemmas.Bool.{cases_lt}
use Rattle.std.proofs.lemmas.List.{drop_more, get_or-map, get_or_append_left, length-append, length-map, take-append-drop, take-append-le}
use Rattle.std.proofs.lemmas.List.Concat.{flat_map-append}
use Rattle.std.proofs.Math.Seq.{get_or-append_seam}
use Rattle.cam_units.specs.Boxes.{HaveCommonPlace, Holds}
use Rattle.cam_units.specs.declared.bounds.Bounds.{Bounds}
use Rattle.cam_units.specs.declared.bounds.Bounds.TheVariants.{Empty}
use Rattle.cam_units.specs.declared.point.Spot.{Spot}
use Rattle.cam_objects.specs.declared.entry.Entry.{Entry}
use Rattle.cam_objects.specs.declared.item.Item.{Item}
use Rattle.cam_objects.specs.declared.layer.Layer.{Layer}
use Rattle.cam_objects.specs.declared.object.Object.{Object}
use Rattle.cam_objects.specs.declared.placing.place.Place.{Place}
use Rattle.cam_objects.specs.Bounds.{bounds_of, box_of_shape}
use Rattle.cam_objects.specs.Canvases.{Paints}
use Rattle.cam_objects.specs.Cells.{AreCellsOf, Reaches, box_at, object_boxes}
use Rattle.cam_objects.specs.Leaves.{Leaf, block_leaves, meaning_in, object_leaves, origin}
use Rattle.cam_objects.specs.Machinery.Boxes.{IsNearBox, placed_bounds}
use Rattle.cam_objects.specs.Machinery.ObjectCells.{AreCellsKept, AreMeasurable, AreObjectCells, HasCells}
use Rattle.cam_objects.specs.Machinery.Painting.{IsUnseen}
use Rattle.cam_objects.proofs.Canvases.{paints_beneath, paints_off}
use Rattle.cam_objects.proofs.CoveredBoxes.{outside_box}
use Rattle.cam_objects.proofs.Dictionaries.{whole}
use Rattle.cam_objects.proofs.ItemBounds.{first_on_board, near_leaves}
use Rattle.cam_objects.proofs.Painting.{All_left, All_right}
use Rattle.cam_objects.proofs.PlacedBoxes.{object_box_placed}
use Rattle.cam_objects.proofs.PlacedShapes.{shapes_so}
use Rattle.cam_objects.proofs.SizedLeaves.{meaning_sized, object_sized}
use Rattle.cam_objects.specs.Soundness.{AreOnBoard, HasSoundItems, IsSoundDictionary, IsSoundItem, points_of_shape}
use Rattle.cam_objects.specs.Weights.{block_count, weight_in}
use Rattle.cam_objects.specs.declared.item.Item.TheVariants.{Repeat}
use Rattle.cam_objects.proofs.SoundItems.{meets}
use Rattle.std.proofs.lemmas.Nat.{mul-le}
use Rattle.cam_units.specs.Board.{IsOnBoard}
use Rattle.std.proofs.lemmas.List.Elements.{All-cons, All-nil}

module _ {X Y : Type 0} (f : X → List Y) where
  -- what elements unfold to: those in front, and those behind
  pub flat_split : (xs : List X) (a : ℕ) → flat_map f xs ≡ flat_map f (take a xs) ++ flat_map f (drop a xs)
  flat_split xs a = ap (flat_map f) (sym (take-append-drop a xs)) ∙ flat_map-append f (take a xs) (drop a xs)

-- ---- cells that are kept

pub cells_grow : (es : List (ℕ × Entry)) (kept : List Reaches) (n : ℕ) (e : Entry) (c : Reaches) → AreCellsKept es kept
    → HasCells es e c → AreCellsKept (es ++ (n, e) ∷ []) (kept ++ c ∷ [])
cells_grow es kept n e c are new = record {
  many = length-append kept (c ∷ []) ∙ ap (λ k. k + 1) are.many ∙ sym (length-append es ((n, e) ∷ []));
  each = λ k d x within.
      let es' = es ++ (n, e) ∷ [] in
      let Has = λ (p : List (ℕ × Entry) × (ℕ × Entry) × Reaches). HasCells p.0 p.1.1 p.2 in
      elim (cases_lt k (length es)) [
        | inl low ↦
            let front : take k es' ≡ take k es = take-append-le k es ((n, e) ∷ []) (omega arith) in
            let item : get_or es' k d ≡ get_or es k d = get_or_append_left es ((n, e) ∷ []) d k low in
            let there : get_or (kept ++ c ∷ []) k x ≡ get_or kept k x = get_or_append_left kept (c ∷ []) x k (omega (arith, are.many)) in
            subst Has (sym (λ i. (front i, item i, there i))) (are.each k d x low)
        | inr past ↦
            let last : k ≡ length es = omega (arith, length-append es ((n, e) ∷ []), within) in
            let front : take k es' ≡ es = ap (λ j. take j es') last ∙ take-append-le (length es) es ((n, e) ∷ []) (omega arith) ∙ whole es in
            let item : get_or es' k d ≡ (n, e) = ap (λ j. get_or es' j d) last ∙ get_or-append_seam es (n, e) [] d in
            let there : get_or (kept ++ c ∷ []) k x ≡ c =
            ap (λ j. get_or (kept ++ c ∷ []) j x) (last ∙ sym are.many) ∙ get_or-append_seam kept c [] x in
            subst Has (sym (λ i. (front i, item i, there i))) new
      ];
}

-- ---- objects that are passed over

abbrev IsLeafOnBoard : Leaf → Type 0
IsLeafOnBoard l = All IsOnBoard (points_of_shape l.shape)

-- the boxes of objects on the board do not lie far
pub near_objects : (es : List (ℕ × Entry)) (objects : List Object) → IsSoundDictionary es
    → AreOnBoard (block_leaves (meaning_in es) origin objects) → All IsNearBox (object_boxes es objects)
near_objects es [] sound board = All-nil IsNearBox
near_objects es (o ∷ objects) sound board =
    let means = meaning_in es in
    let here = object_leaves means origin o in
    let rest = block_leaves means origin objects in
    All-cons IsNearBox (bounds_of here) (object_boxes es objects)
    (near_leaves here (object_sized means (λ n. meaning_sized es n sound) origin o) (All_left IsLeafOnBoard here rest board))
    (near_objects es objects sound (All_right IsLeafOnBoard here rest board))

-- the objects of a sound repeat can be measured
pub measurable : (es : List (ℕ × Entry)) (columns rows : ℕ) (i j : ℤ) (objects : List Object) → IsSoundDictionary es
    → IsSoundItem es (Repeat columns rows i j objects) → AreMeasurable es objects
measurable es columns rows i j objects sound item =
    let m = meets es (Repeat columns rows i j objects) item in
    let some : 1 < columns * rows = m.repeated.0 in
    let count = block_count (weight_in es) objects in
    record {
      sound = sound;
      stand = m.inside.points;
      board = first_on_board (meaning_in es) columns rows i j objects (omega (arith, some)) m.inside.leaves;
      few = m.limits.objects;
      leaves = omega (arith, m.limits.leaves, mul-le 1 count (columns * rows) count (omega (arith, some)) (omega arith));
    }

-- those of a sound item that is one
pub measured : (es : List (ℕ × Entry)) (item : Item) (columns rows : ℕ) (i j : ℤ) (objects slice : List Object)
    → IsSoundDictionary es → IsSoundItem es item → item ≡ Repeat columns rows i j objects → slice ≡ objects → AreMeasurable es slice
measured es item columns rows i j objects slice sound is_sound is same = grind (arith, measurable)

-- and of one at a place of a sound layer
pub listed_measurable : (layer : Layer) (place : ℕ) (x : Item) (columns rows : ℕ) (i j : ℤ) (objects slice : List Object)
    → HasSoundItems layer → place < length layer.items.items → x ≡ get_or layer.items.items place x
    → x ≡ Repeat columns rows i j objects → slice ≡ objects → AreMeasurable layer.apertures slice
listed_measurable layer place x columns rows i j objects slice sound within here is same =
    measured layer.apertures x columns rows i j objects slice sound.entries
    (subst (IsSoundItem layer.apertures) (sym here) (sound.items place x within)) is same

-- one whose box has no place in common with what a canvas shows, seen from the place where it is painted
object_unseen : {V : Type 0} (has : V → ℕ → ℕ → Type 0) (place : V → ℕ → ℕ → Spot) (v : V) (es : List (ℕ × Entry))
    (objects : List Object) (k : ℕ) (o : Object) (p : Place) (whole near : Bounds) → k < length objects
    → All IsNearBox (object_boxes es objects)
    → ((column row : ℕ) → has v column row → Holds whole (place v column row))
    → ((b : Bounds) → IsNearBox b → HaveCommonPlace (placed_bounds p b) whole → HaveCommonPlace b near)
    → (HaveCommonPlace (box_at (object_boxes es objects) k) near → ⊥)
    → IsUnseen has place v (object_leaves (meaning_in es) p (get_or objects k o))
object_unseen has place v es objects k o p whole near listed close held back apart = λ column row h.
    let s = place v column row in
    let x = get_or objects k o in
    let box = λ (y : Object). bounds_of (object_leaves (meaning_in es) origin y) in
    let at : box_at (object_boxes es objects) k ≡ box x = get_or-map box objects k o Empty listed in
    let there = object_box_placed box_of_shape shapes_so (reverse es) x p in
    outside_box (object_leaves (meaning_in es) p x) s (λ on.
    apart (subst (λ b. HaveCommonPlace b near) (sym at)
    (back (box x) (subst IsNearBox at (close k Empty (omega (arith, listed, length-map {B = Bounds} objects box))))
    (s, (subst (λ b. Holds b s) there on, held column row h)))))

-- so are those that cells pass over, from one place to another
pub unseen_between : {V R : Type 0} (has : V → ℕ → ℕ → Type 0) (place : V → ℕ → ℕ → Spot) (v : V) (es : List (ℕ × Entry))
    (objects : List Object) (cells : Option R) (kept : R → Reaches) (first end : ℕ) (p : Place) (whole near : Bounds)
    → end ≤ length objects
    → IfSome cells (λ r. AreObjectCells es objects (kept r))
    → ((column row : ℕ) → has v column row → Holds whole (place v column row))
    → ((b : Bounds) → IsNearBox b → HaveCommonPlace (placed_bounds p b) whole → HaveCommonPlace b near)
    → IfNone cells (first ≡ end)
    → ((boxes : List Bounds) → IfSome cells (λ r. AreCellsOf boxes (kept r)) → (k : ℕ) → first ≤ k → k < end → k < length boxes
    → HaveCommonPlace (box_at boxes k) near → ⊥)
    → (k : ℕ) (o : Object) → first ≤ k → k < end → IsUnseen has place v (object_leaves (meaning_in es) p (get_or objects k o))
unseen_between has place v es objects None kept first end p whole near listed known held back none apart k o from below = grind arith
unseen_between has place v es objects (Some r) kept first end p whole near listed known held back none apart k o from below =
    let box = λ (y : Object). bounds_of (object_leaves (meaning_in es) origin y) in
    object_unseen has place v es objects k o p whole near (omega (arith, listed, below)) known.near held back
    (apart (object_boxes es objects) known.cells k from below (omega (arith, listed, below, length-map {B = Bounds} objects box)))

module _ {V : Type 0} (has : V → ℕ → ℕ → Type 0) (place : V → ℕ → ℕ → Spot) (ink : V → ℕ → ℕ → Option Bool) where
  -- elements of which none from the i-th to the j-th is seen are painted once those from the j-th on are
  pub paints_past : {X : Type 0} (f : X → List Leaf) (xs : List X) (n i j : ℕ) (u v : V) → i + n ≡ j → j ≤ length xs
      → ((k : ℕ) (x : X) → i ≤ k → k < j → IsUnseen has place v (f (get_or xs k x)))
      → Paints has place ink u (flat_map f (drop j xs)) v → Paints has place ink u (flat_map f (drop i xs)) v
  paints_past f xs zero i j u v same listed off later = subst (λ k. Paints has place ink u (flat_map f (drop k xs)) v) (omega arith) later
  paints_past f [] (suc n) i j u v same listed off later = absurd (omega arith)
  paints_past f (x ∷ xs) (suc n) i j u v same listed off later =
      let all = x ∷ xs in
      let next = paints_past f all n (i + 1) j u v (omega arith) listed (λ k y from. off k y (omega arith)) later in
      subst (λ ls. Paints has place ink u ls v) (sym (ap (flat_map f) (drop_more all i x (omega arith))))
      (paints_beneath has place ink u v v (f (get_or all i x)) (flat_map f (drop (i + 1) all)) next
      (paints_off has place ink v (f (get_or all i x)) (off i x (omega arith) (omega arith))))
