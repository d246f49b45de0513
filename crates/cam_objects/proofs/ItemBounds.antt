-- the boxes of what objects, blocks and repeats paint
use Rattle.std.proofs.Common.{◌≡◌, ℕ, zero, suc, ◌+◌, ◌-◌, ◌*◌, ◌<◌, ◌≤◌, ℤ, pos, ◌*ℤ◌, List, length, reverse, slice_get, nat_eq, Some, sym, ap, subst, ◌∙◌, arith}
use Rattle.std.specs.List.{All, IsDistinct, flat_map, range_with_len}
use Rattle.std.proofs.lemmas.Int.{ints}
use Rattle.std.proofs.lemmas.List.Elements.{All-weaker}
use Rattle.cam_units.specs.Boxes.{join_of}
use Rattle.std.specs.Map.{keys_of}
use Rattle.cam_units.specs.declared.bounds.Bounds.{Bounds}
use Rattle.cam_objects.specs.declared.object.Object.{Object}
use Rattle.cam_objects.specs.declared.entry.Entry.{Entry}
use Rattle.cam_objects.specs.declared.checks.facts.Facts.{Facts}
use Rattle.cam_objects.specs.declared.placing.place.Place.{Place}
use Rattle.cam_objects.specs.Bounds.{bounds_of, box_of_all, box_of_shape, moved}
use Rattle.cam_objects.specs.Leaves.{
  Leaf,
  Meaning,
  block_leaves,
  column_leaves,
  meaning,
  meaning_in,
  object_leaves,
  origin,
  repeat_leaves,
  shifted,
}
use Rattle.cam_objects.specs.Machinery.Boxes.{AreSized, IsNearBox, IsUncrossed, placed_bounds}
use Rattle.cam_objects.specs.Machinery.Facts.{facts_at}
use Rattle.cam_objects.specs.Machinery.Inside.{last_copy}
use Rattle.cam_objects.specs.Machinery.Painting.{meaning_before}
use Rattle.cam_objects.specs.Soundness.{AreOnBoard, IsSoundDictionary, points_of_shape}
use Rattle.cam_units.specs.Board.{IsOnBoard}
use Rattle.cam_objects.proofs.BoxLimits.{IsBoxWithin, within_near, within_uncrossed}
use Rattle.cam_objects.proofs.CopyBoxes.{all_flat, repeat_box}
use Rattle.cam_objects.proofs.Dictionaries.{whole}
use Rattle.cam_objects.proofs.Painting.{All_left, meaning-at}
use Rattle.cam_objects.proofs.PlacedBoxes.{flash_placed}
use Rattle.cam_objects.proofs.PlacedShapes.{shapes_so}
use Rattle.cam_objects.proofs.SizedLeaves.{block_sized, bounds_within, leaves_within, meaning_sized, reach}

-- ---- blocks and repeats

pub near_leaves : (ls : List Leaf) → AreSized ls → AreOnBoard ls → IsNearBox (bounds_of ls)
near_leaves ls h k = within_near reach (bounds_of ls) (omega arith) (bounds_within ls h k)

pub clear_leaves : (ls : List Leaf) → AreSized ls → AreOnBoard ls → All (λ l. IsUncrossed (box_of_shape l.shape)) ls
clear_leaves ls h k = grind (arith, All-weaker, IsBoxWithin, reach, within_uncrossed, leaves_within)

module _ (es : List (ℕ × Entry)) (sound : IsSoundDictionary es) (objects : List Object)
    (board : AreOnBoard (block_leaves (meaning_in es) origin objects)) where
  abbrev leaves : List Leaf
  leaves = block_leaves (meaning_in es) origin objects

  sized : AreSized leaves
  sized = block_sized (meaning_in es) (λ n. meaning_sized es n sound) origin objects

  pub bounded_block : bounds_of leaves ≡ box_of_all (λ o. bounds_of (object_leaves (meaning_in es) origin o)) objects
  bounded_block = all_flat (λ l. box_of_shape l.shape) (object_leaves (meaning_in es) origin) objects (clear_leaves leaves sized board)

  pub near_block : IsNearBox (bounds_of leaves)
  near_block = near_leaves leaves sized board

  one_less : (n : ℕ) → n ≡ suc n - 1
  one_less n = omega arith

  repeat_bounds : (columns rows : ℕ) (i j : ℤ) → 0 < columns * rows
      → bounds_of (repeat_leaves (meaning_in es) columns rows i j objects) ≡ join_of (bounds_of leaves)
      (moved (last_copy columns rows i j) (bounds_of leaves))
  repeat_bounds zero rows i j h = absurd (omega arith)
  repeat_bounds (suc columns) zero i j h = absurd (omega arith)
  repeat_bounds (suc columns) (suc rows) i j h =
      repeat_box box_of_shape shapes_so (reverse es) objects (clear_leaves leaves sized board) columns rows i j
      ∙ (λ k. join_of (bounds_of leaves) (moved (record { x = pos (one_less columns k) *ℤ i; y = pos (one_less rows k) *ℤ j })
      (bounds_of leaves)))

  pub bounded_repeat : (columns rows : ℕ) (i j : ℤ) (first b : Bounds) → 0 < columns * rows → first ≡ bounds_of leaves
      → b ≡ join_of first (moved (last_copy columns rows i j) first)
      → b ≡ bounds_of (repeat_leaves (meaning_in es) columns rows i j objects)
  bounded_repeat columns rows i j first b some is box = grind (arith, repeat_bounds)

-- the first copy lies on the board with the others
pub first_on_board : (means : ℕ → Meaning) (columns rows : ℕ) (i j : ℤ) (objects : List Object) → 0 < columns * rows
    → AreOnBoard (repeat_leaves means columns rows i j objects) → AreOnBoard (block_leaves means origin objects)
first_on_board means zero rows i j objects h board = absurd (omega arith)
first_on_board means (suc columns) zero i j objects h board = absurd (omega arith)
first_on_board means (suc columns) (suc rows) i j objects h board =
    let P : Leaf → Type 0 = λ l. All IsOnBoard (points_of_shape l.shape) in
    let copies : ℕ → List Leaf = λ r. block_leaves means (shifted (pos 0 *ℤ i) (pos r *ℤ j)) objects in
    subst (λ p. AreOnBoard (block_leaves means p objects)) (λ k. shifted (none i k) (none j k))
    (All_left P (copies 0) (flat_map copies (range_with_len (0 + 1) rows))
    (All_left P (column_leaves means (pos 0 *ℤ i) (suc rows) j objects)
    (flat_map (λ c. column_leaves means (pos c *ℤ i) (suc rows) j objects) (range_with_len (0 + 1) columns)) board))
  where
    none : (z : ℤ) → pos 0 *ℤ z ≡ pos 0
    none z = omega (arith, ints)

-- the placed box of a flash is that of its leaves
pub flash_box : (es : List (ℕ × Entry)) (n : ℕ) (p : Place) (f : Facts) (b : Bounds) → f ≡ facts_at es n → b ≡ placed_bounds p f.bounds
    → b ≡ bounds_of ((meaning_in es n).flash p)
flash_box es n p f b facts box =
    box ∙ ap (λ (x : Facts). placed_bounds p x.bounds) facts ∙ sym (flash_placed box_of_shape shapes_so (reverse es) n p)

-- an entry among the first ones means what it does among all
pub meaning_among : (es : List (ℕ × Entry)) (i upto n : ℕ) (e : Entry) → IsDistinct nat_eq (keys_of es) → slice_get es i ≡ Some (n, e)
    → i < upto → upto ≤ length es
    → meaning_before upto es n ≡ meaning_in es n
meaning_among es i upto n e distinct at below within =
    meaning-at es i upto n e distinct at below within
    ∙ sym (meaning-at es i (length es) n e distinct at (omega (arith, below, within)) (omega arith))
    ∙ ap (λ (ds : List (ℕ × Entry)). meaning (reverse ds) n) (whole es)
