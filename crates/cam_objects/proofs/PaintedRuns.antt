-- repeats of which a run of columns and a run of rows alone are painted
use Rattle.std.proofs.Common.{◌≡◌, ℕ, zero, suc, ◌+◌, ◌-◌, ◌<◌, ◌≤◌, Bool, Option, ℤ, pos, ◌*ℤ◌, ◌↔◌, List, reverse, drop, take, ap, sym, subst, ◌∙◌, arith}
use Rattle.std.specs.List.{flat_map, range_with_len}
use Rattle.std.proofs.lemmas.Int.{ints}
use Rattle.std.proofs.lemmas.List.Elements.{All-append, All-nil}
use Rattle.cam_units.specs.Boxes.{Holds}
use Rattle.cam_units.specs.declared.bounds.Bounds.{Bounds}
use Rattle.cam_units.specs.declared.point.Point.{Point}
use Rattle.cam_units.specs.declared.point.Spot.{Spot}
use Rattle.cam_objects.specs.declared.placing.copies.Copies.{Copies}
use Rattle.cam_objects.specs.declared.entry.Entry.{Entry}
use Rattle.cam_objects.specs.declared.object.Object.{Object}
use Rattle.cam_objects.specs.declared.paint.run.Run.{Run}
use Rattle.cam_objects.specs.Bounds.{bounds_of, box_of_shape, moved}
use Rattle.cam_objects.specs.Canvases.{Paints}
use Rattle.cam_objects.specs.Image.{Covers}
use Rattle.cam_objects.specs.Leaves.{Leaf, block_leaves, column_leaves, meaning_in, origin, shifted}
use Rattle.cam_objects.specs.Machinery.Painting.{IsUnseen}
use Rattle.cam_objects.specs.Machinery.Runs.{IsInRun, MeetsAcross, MeetsUpright}
use Rattle.cam_objects.proofs.Canvases.{paints_beneath, paints_off}
use Rattle.cam_objects.proofs.CopyBoxes.{copy_box}
use Rattle.cam_objects.proofs.CoveredBoxes.{outside_box}
use Rattle.cam_objects.proofs.Painting.{take-range}
use Rattle.cam_objects.proofs.ObjectCells.{flat_split}
use Rattle.cam_objects.proofs.PlacedShapes.{shapes_so}

-- ---- boxes with a common place

pub meets_across : (a b : Bounds) (s : Spot) → Holds a s → Holds b s → MeetsAcross a b
meets_across a b s h k = grind (arith, ints)

pub meets_upright : (a b : Bounds) (s : Spot) → Holds a s → Holds b s → MeetsUpright a b
meets_upright a b s h k = grind (arith, ints)

-- ---- lists of which a part is seen

drop-range : (k d a b n : ℕ) → k + d ≡ n → a + k ≡ b → drop k (range_with_len a n) ≡ range_with_len b d
drop-range zero d a b n all at = grind arith
drop-range (suc k) d a b zero all at = absurd (omega arith)
drop-range (suc k) d a b (suc n) all at = drop-range k d (a + 1) b n (omega arith) (omega arith)

module _ {V : Type 0} (has : V → ℕ → ℕ → Type 0) (place : V → ℕ → ℕ → Spot) where
  -- the pieces in a part of a range
  pub pieces_unseen : (v : V) (f : ℕ → List Leaf) (a n : ℕ)
      → ((k : ℕ) → a ≤ k → k < a + n → IsUnseen has place v (f k))
      → IsUnseen has place v (flat_map f (range_with_len a n))
  pieces_unseen v f a zero off = λ column row h. All-nil (λ l. Covers l.shape (place v column row) → ⊥)
  pieces_unseen v f a (suc n) off = λ column row h.
      All-append (λ l. Covers l.shape (place v column row) → ⊥) (f a) (flat_map f (range_with_len (a + 1) n))
      (off a (omega arith) (omega arith) column row h)
      (pieces_unseen v f (a + 1) n (λ k from below. off k (omega arith) (omega arith)) column row h)

module _ {V : Type 0} (has : V → ℕ → ℕ → Type 0) (place : V → ℕ → ℕ → Spot) (ink : V → ℕ → ℕ → Option Bool) where
  -- painting moves no pixel
  pub still_unseen : (u v : V) (done leaves : List Leaf) → Paints has place ink u done v → IsUnseen has place u leaves
      → IsUnseen has place v leaves
  still_unseen u v done leaves painted off = λ column row h. grind arith

  -- none from the k-th piece on is seen
  pub paints_end : (v : V) (f : ℕ → List Leaf) (k n : ℕ) → k ≤ n → ((i : ℕ) → k ≤ i → i < n → IsUnseen has place v (f i))
      → Paints has place ink v (flat_map f (drop k (range_with_len 0 n))) v
  paints_end v f k n few off =
      subst (λ ks. Paints has place ink v (flat_map f ks) v) (sym (drop-range k (n - k) 0 k n (omega arith) (omega arith)))
      (paints_off has place ink v (flat_map f (range_with_len k (n - k)))
      (pieces_unseen has place v f k (n - k) (λ i from below. off i from (omega arith))))

  -- nor is one before it
  pub paints_start : (u v : V) (f : ℕ → List Leaf) (k n : ℕ) → k ≤ n
      → Paints has place ink u (flat_map f (drop k (range_with_len 0 n))) v → ((i : ℕ) → i < k → IsUnseen has place u (f i))
      → Paints has place ink u (flat_map f (range_with_len 0 n)) v
  paints_start u v f k n few later off =
      let front = take k (range_with_len 0 n) in
      let behind = flat_map f (drop k (range_with_len 0 n)) in
      let unseen : IsUnseen has place u (flat_map f front) =
      subst (λ ks. IsUnseen has place u (flat_map f ks)) (sym (take-range k n 0 few))
      (pieces_unseen has place u f 0 k (λ i from below. off i (omega (arith, below)))) in
      subst (λ ls. Paints has place ink u ls v) (sym (flat_split f (range_with_len 0 n) k))
      (paints_beneath has place ink u v v (flat_map f front) behind later
      (paints_off has place ink v (flat_map f front) (still_unseen u v behind (flat_map f front) later unseen)))

-- ---- the copies of a repeat

-- a copy whose box shares no column or no row of places with a box that holds all pixels
pub copy_unseen : {V : Type 0} (has : V → ℕ → ℕ → Type 0) (place : V → ℕ → ℕ → Spot) (v : V) (es : List (ℕ × Entry))
    (objects : List Object) (first whole : Bounds) (dx dy : ℤ)
    → first ≡ bounds_of (block_leaves (meaning_in es) origin objects)
    → ((column row : ℕ) → has v column row → Holds whole (place v column row))
    → let there = moved (record { x = dx; y = dy }) first in
    (MeetsAcross there whole → MeetsUpright there whole → ⊥)
    → IsUnseen has place v (block_leaves (meaning_in es) (shifted dx dy) objects)
copy_unseen has place v es objects first whole dx dy is held apart = λ column row h.
    let by : Point = record { x = dx; y = dy } in
    let s = place v column row in
    let box = ap (moved by) is ∙ sym (copy_box box_of_shape shapes_so (reverse es) objects dx dy) in
    outside_box (block_leaves (meaning_in es) (shifted dx dy) objects) s (λ on.
    let there : Holds (moved by first) s = subst (λ b. Holds b s) (sym box) on in
    apart (meets_across (moved by first) whole s there (held column row h))
    (meets_upright (moved by first) whole s there (held column row h)))

module _ {V : Type 0} (has : V → ℕ → ℕ → Type 0) (place : V → ℕ → ℕ → Spot) (v : V) (es : List (ℕ × Entry))
    (copies : Copies) (objects : List Object) (first whole : Bounds)
    (is : first ≡ bounds_of (block_leaves (meaning_in es) origin objects))
    (held : (column row : ℕ) → has v column row → Holds whole (place v column row)) where
  abbrev copy : ℕ → ℕ → List Leaf
  copy c r = block_leaves (meaning_in es) (shifted (pos c *ℤ copies.i) (pos r *ℤ copies.j)) objects

  abbrev there : ℕ → ℕ → Bounds
  there c r = moved (record { x = pos c *ℤ copies.i; y = pos r *ℤ copies.j }) first

  -- a copy in a row outside of the run of those that reach over all pixels
  pub row_unseen : (rows : Run) (c r : ℕ)
      → (IsInRun rows r ↔ MeetsUpright (there c r) whole) → (IsInRun rows r → ⊥) → IsUnseen has place v (copy c r)
  row_unseen rows c r each off =
      copy_unseen has place v es objects first whole (pos c *ℤ copies.i) (pos r *ℤ copies.j) is held
      (λ across upright. off (each.1 upright))

  -- a column outside of its run
  pub column_unseen : (columns : Run) (c : ℕ)
      → ((dy : ℤ) → IsInRun columns c ↔ MeetsAcross (moved (record { x = pos c *ℤ copies.i; y = dy }) first) whole)
      → (IsInRun columns c → ⊥)
      → IsUnseen has place v (column_leaves (meaning_in es) (pos c *ℤ copies.i) copies.rows copies.j objects)
  column_unseen columns c each off =
      pieces_unseen has place v (copy c) 0 copies.rows (λ r from below.
      copy_unseen has place v es objects first whole (pos c *ℤ copies.i) (pos r *ℤ copies.j) is held
      (λ across upright. off ((each (pos r *ℤ copies.j)).1 across)))
