-- What the loops over digits have found so far.
use Rattle.std.specs.Prelude.{ℕ, ◌+◌, ◌*◌, ◌/◌, List, [], ◌∷◌, length, min, Option, Some, None, if◌then◌else◌}
use Rattle.std.specs.Char.{digit_value}
use Rattle.std.specs.Str.Parse.{digits_value_after}
use Rattle.cam_numbers.specs.declared.whole.Digits.{Digits}
use Rattle.cam_numbers.specs.declared.decimals.Decimals.{Decimals}
use Rattle.cam_numbers.specs.Numbers.{are_digits, value_limit}

-- what digits make of a count and a value
unfoldable pub digits_after : ℕ → ℕ → List ℕ → Option Digits
digits_after counted value run =
    if are_digits run then Some (record {
      count = counted + length run;
      value = min value_limit (digits_value_after 10 value run);
    })
    else None

abbrev pub digits_of : List ℕ → Option Digits
digits_of run = digits_after 0 0 run

-- what decimals are worth, where the first is worth so much
abbrev pub worth_of : ℕ → List ℕ → ℕ
worth_of worth [] = 0
worth_of worth (digit ∷ digits) = digit_value digit * worth + worth_of (worth / 10) digits

-- what decimals make of a count and a sum, where the next is worth so much
unfoldable pub decimals_after : ℕ → ℕ → ℕ → List ℕ → Option Decimals
decimals_after counted sum worth run =
    if are_digits run then Some (record { count = counted + length run; value = sum + worth_of worth run }) else None

abbrev pub decimals_of : List ℕ → Option Decimals
decimals_of run = decimals_after 0 0 100000000 run
