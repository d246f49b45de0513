use Rattle.std.specs.Prelude.{◌≡◌, ℕ, zero, suc, ◌<◌, ◌≤◌, List, [], ◌∷◌, length, Option, None}
use Rattle.std.specs.Prelude.{Some, MatchOption, insert, remove, slice_get, slice_set}
use Rattle.std.proofs.Common.{refl, ap, ◌∙◌, arith}
use Rattle.std.proofs.lemmas.List.{length-set}
use Rattle.std.proofs.lemmas.List.Edits.{length-insert, length-remove}
use Rattle.cam_edits.specs.Places.{HasAt, changed, changed_to, carried, reordered}

module _ {X : Type 0} where
  pub remove_inserted : (xs : List X) (k : ℕ) (x : X) → k ≤ length xs → remove (insert xs k x) k ≡ xs
  remove_inserted xs zero x h = refl
  remove_inserted [] (suc k) x h = absurd (omega arith)
  remove_inserted (y ∷ xs) (suc k) x h = ap (λ l. y ∷ l) (remove_inserted xs k x (omega arith))

  pub get_inserted : (xs : List X) (k : ℕ) (x : X) → k ≤ length xs → slice_get (insert xs k x) k ≡ Some x
  get_inserted xs zero x h = refl
  get_inserted [] (suc k) x h = absurd (omega arith)
  get_inserted (y ∷ xs) (suc k) x h = get_inserted xs k x (omega arith)

  pub insert_removed : (xs : List X) (k : ℕ) (x : X) → slice_get xs k ≡ Some x → insert (remove xs k) k x ≡ xs
  insert_removed [] k x e = absurd cc
  insert_removed (y ∷ xs) zero x e = let same : x ≡ y = cc in ap (λ z. z ∷ xs) same
  insert_removed (y ∷ xs) (suc k) x e = ap (λ l. y ∷ l) (insert_removed xs k x e)

  -- a place of the list has an element
  pub element_at : (xs : List X) (k : ℕ) → k < length xs → (x : X) × (slice_get xs k ≡ Some x)
  element_at [] k h = absurd (omega arith)
  element_at (y ∷ xs) zero h = (y, refl)
  element_at (y ∷ xs) (suc k) h = element_at xs k (omega arith)

  pub within : (xs : List X) (k : ℕ) (x : X) → slice_get xs k ≡ Some x → k < length xs
  within [] k x e = absurd cc
  within (y ∷ xs) zero x e = omega arith
  within (y ∷ xs) (suc k) x e = let h = within xs k x e in omega arith

  pub get_set : (xs : List X) (k : ℕ) (x y : X) → slice_get xs k ≡ Some x → slice_get (slice_set xs k y) k ≡ Some y
  get_set [] k x y e = absurd cc
  get_set (z ∷ xs) zero x y e = refl
  get_set (z ∷ xs) (suc k) x y e = get_set xs k x y e

  pub set_back : (xs : List X) (k : ℕ) (x y : X) → slice_get xs k ≡ Some x → slice_set (slice_set xs k y) k x ≡ xs
  set_back [] k x y e = absurd cc
  set_back (z ∷ xs) zero x y e = let same : x ≡ z = cc in ap (λ w. w ∷ xs) same
  set_back (z ∷ xs) (suc k) x y e = ap (λ l. z ∷ l) (set_back xs k x y e)

  pub found : (P : X → Type 0) (xs : List X) (k : ℕ) → HasAt P xs k → (x : X) × (slice_get xs k ≡ Some x) × P x
  found P xs k h = go (slice_get xs k) refl h where
    go : (o : Option X) → slice_get xs k ≡ o → MatchOption o ⊥ P → (x : X) × (slice_get xs k ≡ Some x) × P x
    go None e h = absurd h
    go (Some x) e h = (x, e, h)

  module _ (xs : List X) (k : ℕ) (x : X) (e : slice_get xs k ≡ Some x) where
    pub changed_is : (f : X → X) → changed f xs k ≡ slice_set xs k (f x)
    changed_is f = ap (changed_to f xs k) e

    pub length_changed : (f : X → X) → length (changed f xs k) ≡ length xs
    length_changed f = ap length (changed_is f) ∙ length-set xs k (f x)

    pub get_changed : (f : X → X) → slice_get (changed f xs k) k ≡ Some (f x)
    get_changed f = ap (λ l. slice_get l k) (changed_is f) ∙ get_set xs k x (f x) e

    pub has_changed : (P : X → Type 0) (f : X → X) → P (f x) → HasAt P (changed f xs k) k
    has_changed P f h = let is = get_changed f in rw is h

    pub changed_back : (f g : X → X) → g (f x) ≡ x → changed g (changed f xs k) k ≡ xs
    changed_back f g back =
        let is = get_changed f in
        ap (changed_to g (changed f xs k) k) is
        ∙ (ap (λ l. slice_set l k (g (f x))) (changed_is f)
        ∙ (ap (λ y. slice_set (slice_set xs k (f x)) k y) back ∙ set_back xs k x (f x) e))

    pub reordered_is : (m : ℕ) → reordered xs k m ≡ insert (remove xs k) m x
    reordered_is m = ap (carried xs k m) e

    module _ (m : ℕ) (h : m < length xs) where
      fits : m ≤ length (remove xs k)
      fits = let n = length-remove xs k (within xs k x e) in omega arith

      pub length_reordered : length (reordered xs k m) ≡ length xs
      length_reordered =
          let n = length-remove xs k (within xs k x e) in let i = length-insert (remove xs k) m x fits in
          ap length (reordered_is m) ∙ omega arith

      get_reordered : slice_get (reordered xs k m) m ≡ Some x
      get_reordered = ap (λ l. slice_get l m) (reordered_is m) ∙ get_inserted (remove xs k) m x fits

      pub reordered_back : reordered (reordered xs k m) m k ≡ xs
      reordered_back =
          ap (carried (reordered xs k m) m k) get_reordered
          ∙ (ap (λ l. insert (remove l m) k x) (reordered_is m)
          ∙ (ap (λ l. insert l k x) (remove_inserted (remove xs k) m x fits) ∙ insert_removed xs k x e))
