-- What some commands ask of their numbers. Gerber Layer Format Specification, "Step and repeat (SR)" and
-- "Deprecated commands".
use Rattle.std.specs.Prelude.{ℕ, List, [], ◌∷◌, Option, Some, None, Bool, true, false, ◌==◌, ◌&&◌, if◌then◌else◌}
use Rattle.std.specs.Option.{option_and_then}
use Rattle.std.specs.List.{list_all}
use Rattle.cam_numbers.specs.Numbers.{is_point, natural_within}

-- how many columns or rows a step and repeat has: 1 to 9 digits, and not 0
unfoldable pub count : List ℕ → Option ℕ
count run = option_and_then (λ n. if n == 0 then None else Some n) (natural_within 9 run)

-- nothing, or a point and zeros
abbrev pub are_zeros_behind_point : List ℕ → Bool
are_zeros_behind_point [] = true
are_zeros_behind_point (first ∷ run) = is_point first && list_all (λ digit. digit == 48) run

-- one digit, also with a point and zeros behind it: `0`, `0.`, `0.00`
unfoldable pub is_plain : ℕ → List ℕ → Bool
is_plain digit [] = false
is_plain digit (first ∷ run) = (first == digit) && are_zeros_behind_point run
