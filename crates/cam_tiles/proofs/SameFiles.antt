-- Bytes, rows and files of pixels that are the same.
use Rattle.std.proofs.Common.{◌≡◌, ℕ, zero, suc, ◌+◌, ◌<◌, Bool, true, ◌&&◌, List, ◌∷◌, map, flat_map, refl, ap₂, arith}
use Rattle.std.specs.List.{range_with_len}
use Rattle.std.proofs.lemmas.Bool.{ltb-true}
use Rattle.std.proofs.lemmas.List.Concat.{flat_map-cons}
use Rattle.cam_tiles.specs.Pbm.{byte_of, pbm, row_of}

-- two tests under one condition are the same where they are the same under it
pub same_under : (a x y : Bool) → (a ≡ true → x ≡ y) → (a && x) ≡ (a && y)
same_under a x y same = grind arith

pub same_map : {X : Type 0} (f g : ℕ → X) (a n : ℕ) → ((k : ℕ) → f k ≡ g k)
    → map f (range_with_len a n) ≡ map g (range_with_len a n)
same_map f g a zero same = refl
same_map f g a (suc n) same = ap₂ (λ x xs. x ∷ xs) (same a) (same_map f g (a + 1) n same)

pub same_byte : (black other : ℕ → Bool) → ((i : ℕ) → i < 8 → black i ≡ other i) → byte_of black ≡ byte_of other
unfolding byte_of
same_byte black other same = grind arith

same_row : (black other : ℕ → Bool) (width : ℕ) → ((column : ℕ) → column < width → black column ≡ other column)
    → row_of black width ≡ row_of other width
unfolding row_of
same_row black other width same = grind (arith, same_map, same_byte, same_under, ltb-true)

same_pieces : (f g : ℕ → List ℕ) (a n : ℕ) → ((k : ℕ) → k < a + n → f k ≡ g k)
    → flat_map f (range_with_len a n) ≡ flat_map g (range_with_len a n)
same_pieces f g a zero same = refl
same_pieces f g a (suc n) same = grind (arith, flat_map-cons, same_pieces f g (a + 1) n (λ k below. same k (omega arith)))

pub same_pbm : (black other : ℕ → ℕ → Bool) (width height : ℕ)
    → ((column row : ℕ) → column < width → row < height → black column row ≡ other column row)
    → pbm black width height ≡ pbm other width height
unfolding pbm
same_pbm black other width height same = grind (arith, same_pieces, same_row)
