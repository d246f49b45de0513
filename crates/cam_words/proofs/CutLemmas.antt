-- The first piece of a list that is cut at a number.
use Rattle.std.proofs.Common.{◌≡◌, ℕ, zero, suc, ◌+◌, ◌-◌, ◌<◌, Bool, true, false, cond, ◌==◌, List, [], ◌∷◌}
use Rattle.std.proofs.Common.{length, get_or, take, drop, refl, ap, ◌∙◌, arith, length-drop, eq-eqb, add-one}
use Rattle.std.specs.List.{slice_split, onto_first}
use Rattle.std.proofs.lemmas.Bool.{ne_eqb}
use Rattle.std.proofs.lemmas.List.{take_all}

cut_at : (c : ℕ) (xs : List ℕ) (i : ℕ) → i < length xs → ((k : ℕ) → k < i → get_or xs k 0 ≡ c → ⊥) → get_or xs i 0 ≡ c
    → slice_split (λ b. b == c) xs ≡ take i xs ∷ slice_split (λ b. b == c) (drop (suc i) xs)
cut_at c [] i h none here = absurd (omega (arith, h))
cut_at c (x ∷ xs) zero h none here = grind (arith, eq-eqb)
cut_at c (x ∷ xs) (suc i) h none here =
    ap (λ b. cond b ([] ∷ slice_split (λ b. b == c) xs) (onto_first x (slice_split (λ b. b == c) xs)))
    (ne_eqb x c (none 0 (omega arith)))
    ∙ ap (onto_first x) (cut_at c xs i (omega (arith, h)) (λ k l. none (suc k) (omega (arith, l))) here)

pub split_at : (c : ℕ) (xs : List ℕ) (i : ℕ) → i < length xs → ((k : ℕ) → k < i → get_or xs k 0 ≡ c → ⊥)
    → get_or xs i 0 ≡ c
    → slice_split (λ b. b == c) xs
    ≡ take i xs ∷ slice_split (λ b. b == c) (take (length xs - (i + 1)) (drop (i + 1) xs))
split_at c xs i h none here = grind (arith, add-one, cut_at, take_all, length-drop)

pub split_nowhere : (c : ℕ) (xs : List ℕ) → ((k : ℕ) → k < length xs → get_or xs k 0 ≡ c → ⊥)
    → slice_split (λ b. b == c) xs ≡ xs ∷ []
split_nowhere c [] none = refl
split_nowhere c (x ∷ xs) none =
    ap (λ b. cond b ([] ∷ slice_split (λ b. b == c) xs) (onto_first x (slice_split (λ b. b == c) xs)))
    (ne_eqb x c (none 0 (omega arith)))
    ∙ ap (onto_first x) (split_nowhere c xs (λ k l. none (suc k) (omega (arith, l))))

-- there is a first piece
pub first_piece : (p : ℕ → Bool) (xs : List ℕ)
    → (piece : List ℕ) × (pieces : List (List ℕ)) × (slice_split p xs ≡ piece ∷ pieces)
first_piece p [] = ([], [], refl)
first_piece p (x ∷ xs) =
    let onto : (all : List (List ℕ))
    → (piece : List ℕ) × (pieces : List (List ℕ)) × (onto_first x all ≡ piece ∷ pieces) =
    λ all. elim all as (λ all. (piece : List ℕ) × (pieces : List (List ℕ)) × (onto_first x all ≡ piece ∷ pieces))
    [ [] ↦ (x ∷ [], [], refl) | (y ∷ ys) ↦ (x ∷ y, ys, refl) ] in
    elim (p x) as
    (λ b. (piece : List ℕ) × (pieces : List (List ℕ))
    × (cond b ([] ∷ slice_split p xs) (onto_first x (slice_split p xs)) ≡ piece ∷ pieces)) [
      | true ↦ ([], slice_split p xs, refl)
      | false ↦ onto (slice_split p xs)
    ]
