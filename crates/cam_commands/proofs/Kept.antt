-- What stands behind kept bytes.
use Rattle.std.proofs.Common.{arith, ◌≡◌, ℕ, zero, suc, List, [], ◌∷◌, refl}
use Rattle.cam_words.specs.Heads.{behind_kept}

-- one kept byte after another
pub behind_more : (n : ℕ) (text : List ℕ) → behind_kept n (behind_kept 1 text) ≡ behind_kept (suc n) text
behind_more n [] = behind_none n
  where
    behind_none : (n : ℕ) → behind_kept n [] ≡ []
    behind_none zero = refl
    behind_none (suc n) = refl
behind_more n (byte ∷ text) = grind (arith, behind_more n text)
