-- Lists that are edited at a place, counted from 0.
use Rattle.std.specs.Prelude.{ℕ, List, Option, None, Some, insert, remove, slice_get, slice_set, MatchOption}

-- there is an element at the place, and it is as told
abbrev pub HasAt : {X : Type 0} → (X → Type 0) → List X → ℕ → Type 0
HasAt P xs k = MatchOption (slice_get xs k) ⊥ P

-- the element at the place changed, and the others kept
abbrev pub changed_to : {X : Type 0} → (X → X) → List X → ℕ → Option X → List X
changed_to f xs k None = xs
changed_to f xs k (Some x) = slice_set xs k (f x)

abbrev pub changed : {X : Type 0} → (X → X) → List X → ℕ → List X
changed f xs k = changed_to f xs k (slice_get xs k)

-- the element at place k taken out, and then put at place m
abbrev pub carried : {X : Type 0} → List X → ℕ → ℕ → Option X → List X
carried xs k m None = xs
carried xs k m (Some x) = insert (remove xs k) m x

abbrev pub reordered : {X : Type 0} → List X → ℕ → ℕ → List X
reordered xs k m = carried xs k m (slice_get xs k)
