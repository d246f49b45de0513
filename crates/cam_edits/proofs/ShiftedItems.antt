-- items that shift with a step: what they count, and what is kept of them
use Rattle.std.proofs.Common.{◌≡◌, ℕ, zero, suc, ◌+◌, ◌<◌, ◌≤◌, List, [], ◌∷◌, length, map, Option, None, Some}
use Rattle.std.proofs.Common.{insert, remove, slice_get, slice_set, sum_by, refl, sym, ap, subst, ◌∙◌, arith}
use Rattle.std.proofs.lemmas.List.{length-map}
use Rattle.std.proofs.lemmas.List.Edits.{length-insert, length-remove}
use Rattle.std.proofs.lemmas.List.Sums.{sum_by-insert, sum_by-remove}
use Rattle.std.proofs.lemmas.Option.{get_or_from_slice_get, slice_get_within}
use Rattle.cam_units.specs.declared.bounds.Bounds.{Bounds}
use Rattle.cam_objects.specs.Bounds.{bounds_of}
use Rattle.cam_objects.specs.Cells.{AreCellsOf, Reaches, item_boxes}
use Rattle.cam_objects.specs.Contents.{Content, content_of}
use Rattle.cam_objects.specs.Leaves.{item_leaves, meaning_in}
use Rattle.cam_objects.specs.Soundness.{IsSoundContent}
use Rattle.cam_objects.specs.Weights.{item_count, weight_in}
use Rattle.cam_objects.specs.declared.layer.Layer.{Layer}
use Rattle.cam_edits.specs.declared.indexed.Kept.{Kept}
use Rattle.cam_edits.specs.declared.shift.Shift.{Shift}
use Rattle.cam_edits.specs.declared.step.Step.{Step}
use Rattle.cam_edits.specs.Machinery.PlaceLaws.{changed_is, element_at, found, get_inserted, reordered_is}
use Rattle.cam_edits.specs.Places.{HasAt, changed, reordered}
use Rattle.cam_edits.specs.Machinery.Shifts.{IsEdited, IsKeptOf, IsShift, WasKept, WereCells, count_at, count_of, leaves_at}
use Rattle.cam_edits.specs.Machinery.Shifts.{leaves_in}
use Rattle.cam_edits.specs.Steps.{IsFit, IsSoundStep, after_step, items_after}

-- a count, after so many went and so many came
pub record Follows (new old gone come : ℕ) : Type 0 where
  pub sum : new + gone ≡ old + come
  pub few : old + come ≤ 8000000

module _ {X : Type 0} where
  -- an element counts at most as much as all
  counted : (f : X → ℕ) (xs : List X) (place : Option ℕ) → count_at f xs place ≤ sum_by f xs
  counted f xs None = omega arith
  counted f xs (Some k) = go (slice_get xs k) refl where
    go : (o : Option X) → slice_get xs k ≡ o → count_of f o ≤ sum_by f xs
    go None e = omega arith
    go (Some x) e =
        let d = get_or_from_slice_get xs k x x e in
        omega (arith, sum_by-remove f xs k x (slice_get_within xs k x e), ap f d)

  -- an element that changes goes and comes
  pub set_is : (xs : List X) (k : ℕ) (y : X) → k < length xs → slice_set xs k y ≡ insert (remove xs k) k y
  set_is [] k y h = absurd (omega arith)
  set_is (x ∷ xs) zero y h = refl
  set_is (x ∷ xs) (suc k) y h = ap (λ l. x ∷ l) (set_is xs k y (omega arith))

  changed_there : (f : X → X) (xs : List X) (k : ℕ) (x : X) → slice_get xs k ≡ Some x
      → IsEdited (Some k) (Some k) xs (changed f xs k)
  changed_there f xs k x here =
      let h = slice_get_within xs k x here in (h, h, (f x, changed_is xs k x here f ∙ set_is xs k (f x) h))

  pub shift_at : (P : X → Type 0) (f : X → X) (xs : List X) (k : ℕ) → HasAt P xs k
      → IsEdited (Some k) (Some k) xs (changed f xs k)
  shift_at P f xs k h = let here = found P xs k h in changed_there f xs k here.0 here.1

  pub shift_there : (f : X → X) (xs : List X) (k : ℕ) → k < length xs
      → IsEdited (Some k) (Some k) xs (changed f xs k)
  shift_there f xs k h = let here = element_at xs k h in changed_there f xs k here.0 here.1

  pub reordered_shift : (xs : List X) (k m : ℕ) → k < length xs → m < length xs
      → IsEdited (Some k) (Some m) xs (reordered xs k m)
  reordered_shift xs k m h within =
      let here = element_at xs k h in (h, within, (here.0, reordered_is xs k here.0 here.1 m))

  -- what goes and comes is the difference of what they count
  edit_sums : (f : X → ℕ) (from to : Option ℕ) (xs ys : List X) → IsEdited from to xs ys
      → sum_by f ys + count_at f xs from ≡ sum_by f xs + count_at f ys to
  edit_sums f None None xs ys e = omega (arith, ap (sum_by f) e)
  edit_sums f None (Some m) xs ys e =
      let x = e.1.0 in
      omega (
        arith,
        ap (sum_by f) e.1.1,
        sum_by-insert f xs m x,
        ap (count_of f) (ap (λ l. slice_get l m) e.1.1 ∙ get_inserted xs m x e.0),
      )
  edit_sums f (Some k) None xs ys e =
      let here = element_at xs k e.0 in
      let d = here.0 in
      omega (
        arith,
        ap (sum_by f) e.1,
        sum_by-remove f xs k d e.0,
        ap (count_of f) here.1,
        ap f (get_or_from_slice_get xs k d d here.1),
      )
  edit_sums f (Some k) (Some m) xs ys e =
      let here = element_at xs k e.0 in
      let d = here.0 in
      let x = e.2.0 in
      let fewer = length-remove xs k e.0 in
      let fits : m ≤ length (remove xs k) = omega (arith, fewer, e.1) in
      omega (
        arith,
        ap (sum_by f) e.2.1,
        sum_by-insert f (remove xs k) m x,
        sum_by-remove f xs k d e.0,
        ap (count_of f) here.1,
        ap f (get_or_from_slice_get xs k d d here.1),
        ap (count_of f) (ap (λ l. slice_get l m) e.2.1 ∙ get_inserted (remove xs k) m x fits),
      )

  pub leaves_follow : (f : X → ℕ) (shift : Shift) (xs ys : List X) (leaves gone come : ℕ) → IsShift shift xs ys
      → leaves ≡ sum_by f xs → gone ≡ count_at f xs shift.from → come ≡ count_at f ys shift.to
      → sum_by f xs ≤ 4000000 → sum_by f ys ≤ 4000000 → Follows (sum_by f ys) leaves gone come
  leaves_follow f shift xs ys leaves gone come shifted all left came few more = grind (arith, edit_sums, counted)

  -- ---- what shifts with the items

  module _ {Y : Type 0} (read : X → Y) where
    insert_read : (xs : List X) (k : ℕ) (x : X) → map read (insert xs k x) ≡ insert (map read xs) k (read x)
    insert_read xs zero x = refl
    insert_read [] (suc k) x = refl
    insert_read (y ∷ xs) (suc k) x = ap (λ l. read y ∷ l) (insert_read xs k x)

    remove_read : (xs : List X) (k : ℕ) → map read (remove xs k) ≡ remove (map read xs) k
    remove_read [] zero = refl
    remove_read [] (suc k) = refl
    remove_read (y ∷ xs) zero = refl
    remove_read (y ∷ xs) (suc k) = ap (λ l. read y ∷ l) (remove_read xs k)

    pub edit_read : (from to : Option ℕ) (xs ys : List X) → IsEdited from to xs ys
        → IsEdited from to (map read xs) (map read ys)
    edit_read from to xs ys e = grind (arith, length-map, insert_read, remove_read)

  pub were_cells : (box : X → Bounds) (shift : Shift) (xs ys : List X) (cells : Reaches) → IsShift shift xs ys
      → AreCellsOf (map box xs) cells → WereCells shift cells (map box ys)
  were_cells box shift xs ys cells shifted known =
      record { before = map box xs; known = known; edit = edit_read box shift.from shift.to xs ys shifted }

-- the edit of a shift whose places are known
pub edited : {X : Type 0} (shift : Shift) (xs ys : List X) → IsShift shift xs ys → (from to : Option ℕ) → shift.from ≡ from
    → shift.to ≡ to → IsEdited from to xs ys
edited shift xs ys edit from to left came = grind arith

pub came_within : {X : Type 0} (xs ys : List X) (from to : ℕ) → IsEdited (Some from) (Some to) xs ys → to < length ys
came_within xs ys from to edit = grind (arith, length-remove, length-insert)

-- what was kept of a layer, after a step of it
abbrev pub kept_before : (before after self : Layer) (step : Step) (shift : Shift) (kept : Kept) (gone : ℕ) → IsKeptOf before kept
    → before ≡ self → IsSoundStep step (content_of self) → content_of after ≡ after_step step (content_of before)
    → ((c : Content) → IsFit step c → IsShift shift c.items (items_after step c.items))
    → gone ≡ leaves_at before shift.from → WasKept kept shift gone after
kept_before before after self step shift kept gone known same fit content shifts left =
    let fits = subst (λ (l : Layer). IsSoundStep step (content_of l)) (sym same) fit in record {
      before = before;
      known = known;
      sound = subst (λ (x : Content). IsSoundContent x.entries x.items) (sym content) fits.after.content;
      entries = sym (ap (λ (x : Content). x.entries) content);
      shifted = subst (IsShift shift before.items.items) (sym (ap (λ (x : Content). x.items) content))
          (shifts (content_of before) fits.fits);
      left = left;
    }

-- the leaves of a layer of which something was kept before so many left and so many came
pub layer_leaves : (kept : Kept) (shift : Shift) (gone come : ℕ) (layer : Layer) → WasKept kept shift gone layer
    → come ≡ leaves_at layer shift.to → Follows (leaves_in layer) kept.leaves gone come
layer_leaves kept shift gone come layer was came =
    let xs = was.before.items.items in
    leaves_follow (item_count (weight_in layer.apertures)) shift xs layer.items.items kept.leaves gone come was.shifted
    (was.known.leaves ∙ ap (λ es. sum_by (item_count (weight_in es)) xs) was.entries)
    (was.left ∙ ap (λ es. count_at (item_count (weight_in es)) xs shift.from) was.entries) came
    (subst (λ es. sum_by (item_count (weight_in es)) xs ≤ 4000000) was.entries was.known.sound.limits.leaves)
    was.sound.limits.leaves

abbrev pub boxes_of : Layer → List Bounds
boxes_of layer = item_boxes layer.apertures layer.items.items

pub layer_cells : (before layer : Layer) (shift : Shift) (cells : Reaches) → before.apertures ≡ layer.apertures
    → IsShift shift before.items.items layer.items.items → AreCellsOf (boxes_of before) cells
    → WereCells shift cells (boxes_of layer)
layer_cells before layer shift cells entries shifted known =
    were_cells (λ item. bounds_of (item_leaves (meaning_in layer.apertures) item)) shift before.items.items
    layer.items.items cells shifted
    (subst (λ es. AreCellsOf (item_boxes es before.items.items) cells) entries known)
