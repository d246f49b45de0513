-- Runs without the bytes that are passed over.
use Rattle.std.proofs.Common.{arith, ◌≡◌, ℕ, ◌+◌, ◌<◌, ◌≤◌, List, [], ◌∷◌, length, drop, get_or, false, cond, not, refl, ◌∙◌}
use Rattle.std.proofs.lemmas.List.{drop_more, at_drop_all}
use Rattle.cam_numbers.specs.declared.blanks.Blanks.{Blanks}
use Rattle.cam_numbers.specs.declared.blanks.Blanks.TheVariants.{Refused, Skipped}
use Rattle.cam_numbers.specs.Blanks.{passes, without_blanks}

kept_of_none : (blanks : Blanks) → without_blanks blanks [] ≡ []
kept_of_none Refused = refl
kept_of_none Skipped = refl

kept_of_more : (blanks : Blanks) (byte : ℕ) (run : List ℕ)
    → without_blanks blanks (byte ∷ run) ≡ cond (passes blanks byte) (without_blanks blanks run) (byte ∷ without_blanks blanks run)
kept_of_more Refused byte run = refl
kept_of_more Skipped byte run = grind arith

-- a byte that is not
pub kept_at : (blanks : Blanks) (run : List ℕ) (i : ℕ) → i < length run → passes blanks (get_or run i 0) ≡ false
    → without_blanks blanks (drop i run) ≡ get_or run i 0 ∷ without_blanks blanks (drop (i + 1) run)
kept_at blanks run i h e = grind (arith, kept_of_more, drop_more)

-- behind the last byte
pub kept_at_end : (blanks : Blanks) (run : List ℕ) (i : ℕ) → length run ≤ i → without_blanks blanks (drop i run) ≡ []
kept_at_end blanks run i h = at_drop_all (without_blanks blanks) run i h ∙ kept_of_none blanks
