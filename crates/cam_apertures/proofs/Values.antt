-- The values of parameters, one after the other.
use Rattle.std.proofs.Common.{◌≡◌, ℕ, suc, ℤ, List, ◌++◌, length, Option, Some, None}
use Rattle.std.specs.Borrow.{Bor}
use Rattle.std.specs.Option.{option_map}
use Rattle.cam_apertures.specs.Definition.{values_of}

abbrev pub text_left : Option (Bor (List ℕ)) → ℕ
text_left None = 0
text_left (Some text) = suc (length text.now)

-- the values so far, and those of the rest
abbrev pub behind : List ℤ → Option (List ℤ) → Option (List ℤ)
behind values more = option_map (λ l. values ++ l) more

abbrev pub AreReadBefore : List (List ℕ) → List (List ℕ) → List ℤ → Type 0
AreReadBefore rest all values = values_of all ≡ behind values (values_of rest)
