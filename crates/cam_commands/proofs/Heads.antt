-- Heads of texts, byte for byte.
use Rattle.std.proofs.Common.{◌≡◌, ℕ, List, [], ◌∷◌, length, drop, false, None, Some, refl, arith, eq-eqb, ne_eqb}
use Rattle.std.specs.Prelude.{nat_eq, ◌&&◌, ◌==◌}
use Rattle.std.specs.List.{starts_with}
use Rattle.std.specs.Str.{bytes_eq}
use Rattle.std.proofs.lemmas.Bool.{cases_eq}
use Rattle.cam_words.specs.Heads.{behind_head}

whole : (head text : List ℕ) → bytes_eq text head ≡ (starts_with nat_eq text head && (length (drop (length head) text) == 0))
whole [] [] = refl
whole [] (x ∷ text) = let some : (length (x ∷ text) == 0) ≡ false = ne_eqb (length (x ∷ text)) 0 (λ e. absurd (omega arith)) in rw some refl
whole (h ∷ head) [] = refl
whole (h ∷ head) (x ∷ text) = grind (arith, cases_eq, eq-eqb, whole head text)

pub text_by_head : (head text rest : List ℕ) → Some rest ≡ behind_head head text → (length rest == 0) ≡ bytes_eq text head
unfolding behind_head
text_by_head head text rest e = grind (arith, whole)

pub text_without_head : (head text : List ℕ) → None ≡ behind_head head text → false ≡ bytes_eq text head
unfolding behind_head
text_without_head head text e = grind (arith, whole)
