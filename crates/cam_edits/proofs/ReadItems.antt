-- Elements that a step reads at its place, and numbers that it turns round.
use Rattle.std.proofs.Common.{◌≡◌, ℕ, ◌^◌, ◌<◌, ℤ, pos, neg_ℤ, ◌-ℤ◌, FitsSigned, of_z, to_z, w64, List, Some, Option, length, get_or}
use Rattle.std.proofs.Common.{refl, ap, ap₂, sym, subst, ◌∙◌, arith}
use Rattle.std.specs.Prelude.{MatchOption, slice_get, slice_set}
use Rattle.std.specs.Int.RustNames.{unsigned_abs}
use Rattle.std.proofs.lemmas.Int.{fits_signed_from_abs, ints, to_z-of_z}
use Rattle.std.proofs.lemmas.Option.{slice_get_read}
use Rattle.cam_shapes.specs.Shifting.{IsShiftable}
use Rattle.cam_edits.specs.Moving.{way}
use Rattle.cam_edits.specs.Places.{HasAt, changed}
use Rattle.cam_edits.specs.Machinery.PlaceLaws.{changed_is, found, within}

-- there is an element at the place
pub has_place : {X : Type 0} (P : X → Type 0) (xs : List X) (k : ℕ) → HasAt P xs k → k < length xs
has_place P xs k has = let f = found P xs k has in within xs k f.0 f.1

-- what was read at a place with an element is that element
pub read_there : {X : Type 0} (xs : List X) (k : ℕ) (x : X) → k < length xs → x ≡ get_or xs k x → slice_get xs k ≡ Some x
read_there xs k x place read = slice_get_read xs (length xs) k x refl place read

-- and it is as told
pub told_there : {X : Type 0} (P : X → Type 0) (xs : List X) (k : ℕ) (x : X) → HasAt P xs k → slice_get xs k ≡ Some x → P x
told_there {X = X} P xs k x has there = subst (λ (o : Option X). MatchOption o ⊥ P) there has

pub set_is_changed : {X : Type 0} (xs : List X) (k : ℕ) (x : X) → slice_get xs k ≡ Some x → (f : X → X) (new : X) → new ≡ f x
    → slice_set xs k new ≡ changed f xs k
set_is_changed xs k x there f new e = ap (slice_set xs k) e ∙ sym (changed_is xs k x there f)

-- a number that is turned round
module _ (a : ℤ) (h : unsigned_abs a < 2 ^ 62) where
  kept : to_z w64 (of_z w64 a) ≡ a
  kept = to_z-of_z w64 a (fits_signed_from_abs w64 a (omega arith))

  fits : FitsSigned w64 (pos 0 -ℤ a)
  fits = fits_signed_from_abs w64 (pos 0 -ℤ a) (omega (arith, ints))

  pub negated_fits : FitsSigned w64 (pos 0 -ℤ to_z w64 (of_z w64 a))
  negated_fits = subst (λ (z : ℤ). FitsSigned w64 (pos 0 -ℤ z)) (sym kept) fits

  negated : pos 0 -ℤ a ≡ neg_ℤ a
  negated = omega (arith, ints)

  pub negated_is : to_z w64 (of_z w64 (pos 0 -ℤ to_z w64 (of_z w64 a))) ≡ neg_ℤ a
  negated_is = ap (λ (z : ℤ). to_z w64 (of_z w64 (pos 0 -ℤ z))) kept ∙ to_z-of_z w64 (pos 0 -ℤ a) fits ∙ negated

-- a way as it is kept
pub way_is : (dx dy : ℤ) → IsShiftable (way dx dy) → way (to_z w64 (of_z w64 dx)) (to_z w64 (of_z w64 dy)) ≡ way dx dy
way_is dx dy h = ap₂ way (kept dx h.x) (kept dy h.y)
