-- Lists with an element more, less, other or elsewhere.
use Rattle.std.proofs.Common.{◌≡◌, ℕ, zero, suc, ◌+◌, ◌<◌, List, [], ◌∷◌, ◌++◌, length, take}
use Rattle.std.proofs.Common.{drop, Some, sum_by, refl, ap, subst, ◌∙◌, arith, length-append}
use Rattle.std.specs.Prelude.{slice_get, slice_set}
use Rattle.std.specs.List.{All}
use Rattle.std.proofs.Math.Seq.{split_at}
use Rattle.std.proofs.lemmas.List.Sums.{sum_by-append, sum_by-cons}
use Rattle.std.proofs.lemmas.Option.{get_or_from_slice_get, slice_get_within}

module _ {X : Type 0} where
  -- what holds of all holds at a place
  pub all_here : (P : X → Type 0) (xs : List X) (k : ℕ) (x : X) → All P xs → slice_get xs k ≡ Some x → P x
  all_here P xs k x h here = subst P (get_or_from_slice_get xs k x x here) (h k x (slice_get_within xs k x here))

  -- the list, split at one of its elements
  pub split_here : (xs : List X) (k : ℕ) (x : X) → slice_get xs k ≡ Some x → xs ≡ take k xs ++ x ∷ drop (suc k) xs
  split_here xs k x here =
      split_at xs k x (slice_get_within xs k x here)
      ∙ ap (λ y. take k xs ++ y ∷ drop (suc k) xs) (get_or_from_slice_get xs k x x here)

  pub set_here : (xs : List X) (k : ℕ) (y : X) → k < length xs → slice_set xs k y ≡ take k xs ++ y ∷ drop (suc k) xs
  set_here [] k y lt = absurd (omega (arith, lt))
  set_here (x ∷ xs) zero y lt = refl
  set_here (x ∷ xs) (suc k) y lt = ap (λ more. x ∷ more) (set_here xs k y (omega (arith, lt)))

  -- an element elsewhere stays
  pub get_other : (xs : List X) (k other : ℕ) (y : X) → (other ≡ k → ⊥)
      → slice_get (slice_set xs k y) other ≡ slice_get xs other
  get_other [] k other y h = refl
  get_other (x ∷ xs) zero zero y h = absurd (h refl)
  get_other (x ∷ xs) zero (suc other) y h = refl
  get_other (x ∷ xs) (suc k) zero y h = refl
  get_other (x ∷ xs) (suc k) (suc other) y h = get_other xs k other y (λ e. h (ap suc e))

  module _ (f : X → ℕ) (before after : List X) where
    sum_at : (x : X) → sum_by f (before ++ x ∷ after) ≡ f x + sum_by f (before ++ after)
    sum_at x = omega (arith, sum_by-append f before (x ∷ after), sum_by-cons f x after, sum_by-append f before after)

    -- an element counts as much wherever it stands, and one of the same count as much as it
    pub sum_behind : (x : X) → sum_by f (before ++ x ∷ after) ≡ sum_by f ((before ++ after) ++ x ∷ [])
    sum_behind x = omega (arith, sum_at x, sum_by-append f (before ++ after) (x ∷ []), sum_by-cons f x [])

    pub sum_of_other : (x y : X) → f y ≡ f x → sum_by f (before ++ x ∷ after) ≡ sum_by f (before ++ y ∷ after)
    sum_of_other x y same = omega (arith, same, sum_at x, sum_at y)

  module _ (before after : List X) where
    pub length_behind : (x : X) → length (before ++ x ∷ after) ≡ length ((before ++ after) ++ x ∷ [])
    length_behind x = grind (arith, length-append)

    pub length_of_other : (x y : X) → length (before ++ x ∷ after) ≡ length (before ++ y ∷ after)
    length_of_other x y = omega (arith, length-append before (x ∷ after), length-append before (y ∷ after))
