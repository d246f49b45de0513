-- Marks as inks, also of masks that are merged.
use Rattle.std.proofs.Common.{arith, ◌≡◌, ◌↔◌, ◌⊎◌, ℕ, Bool, true, false, not, ◌&&◌, ◌||◌, IsTrue, slice_index}
use Rattle.std.proofs.lemmas.Bool.{eq-eqb, eqb-true, false_from_ne_true, false≢true}
use Rattle.cam_rows.proofs.SetBits.{set_is_one}
use Rattle.cam_apertures.proofs.Painting.{through}
use Rattle.cam_tiles.specs.declared.masks.join.Join.{Join}
use Rattle.cam_tiles.specs.declared.masks.join.Join.TheVariants.{Add, Clear}
use Rattle.cam_tiles.specs.Machinery.Masks.{IsIn, IsMarked, Marking, Merges, ink_of, joined}
use Rattle.cam_tiles.proofs.Joined.{joined_like}

pub dark_if_marked : (m : Marking) (column row : ℕ) → IsMarked m column row → ink_of m column row ≡ true
dark_if_marked m column row h = eq-eqb _ 1 ((set_is_one (slice_index m.rows row) column).0 h)

pub marked_if_dark : (m : Marking) (column row : ℕ) → ink_of m column row ≡ true → IsMarked m column row
marked_if_dark m column row h = (set_is_one (slice_index m.rows row) column).1 (eqb-true _ 1 h)

pub clear_if_unmarked : (m : Marking) (column row : ℕ) → (IsMarked m column row → ⊥) → ink_of m column row ≡ false
clear_if_unmarked m column row h = false_from_ne_true _ (λ dark. h (marked_if_dark m column row dark))

-- ---- tests that say the same

pub same_test : (a b : Bool) → IsTrue a ↔ IsTrue b → a ≡ b
same_test a b h = grind (arith, false_from_ne_true, false≢true)

added : (a b c : Bool) → IsTrue c ↔ (IsTrue a ⊎ IsTrue b) → c ≡ (a || b)
added a b c h = grind (arith, same_test, false≢true)

cleared : (a b c : Bool) → IsTrue c ↔ (IsTrue a × (IsTrue b → ⊥)) → c ≡ (a && not b)
cleared a b c h = grind (arith, false_from_ne_true, false≢true)

-- ---- inks that are merged

pub dark_is_marked : (m : Marking) (column row : ℕ) → IsTrue (ink_of m column row) ↔ IsMarked m column row
dark_is_marked m column row = (marked_if_dark m column row, dark_if_marked m column row)

marked_is_dark : (m : Marking) (column row : ℕ) → IsMarked m column row ↔ IsTrue (ink_of m column row)
marked_is_dark m column row = (dark_if_marked m column row, marked_if_dark m column row)

module _ (other old new : Marking) (column row : ℕ) (there : IsIn old.grid column row) where
  merged : (how : Join) → Merges how other old new
      → IsTrue (ink_of new column row) ↔ joined how (IsTrue (ink_of old column row)) (IsTrue (ink_of other column row))
  merged how h = grind (arith, joined_like, marked_is_dark, through, dark_is_marked)

  pub added_ink : Merges Add other old new → ink_of new column row ≡ (ink_of old column row || ink_of other column row)
  added_ink h = added (ink_of old column row) (ink_of other column row) (ink_of new column row) (merged Add h)

  pub cleared_ink : Merges Clear other old new
      → ink_of new column row ≡ (ink_of old column row && not (ink_of other column row))
  cleared_ink h = cleared (ink_of old column row) (ink_of other column row) (ink_of new column row) (merged Clear h)
