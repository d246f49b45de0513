-- The numbers of Gerber and XNC files. Gerber Layer Format Specification, "Data types", "Coordinate data" and
-- "Aperture definition (AD)"; XNC Format Specification, "Coordinates" and "Tool declaration".
use Rattle.std.specs.Prelude.{ℕ, ℤ, pos, neg_ℤ, ◌+◌, ◌-◌, ◌*◌, ◌^◌, ◌≤◌, List, [], ◌∷◌, length, take, drop, Option}
use Rattle.std.specs.Prelude.{Some, None, Bool, true, false, ◌==◌, ◌||◌, ◌&&◌, not, nat_lt, nat_le, if◌then◌else◌}
use Rattle.std.specs.Option.{option_map, option_and_then}
use Rattle.std.specs.List.{list_all, before_first, after_first, prefix_len}
use Rattle.std.specs.Char.{is_ascii_digit}
use Rattle.std.specs.Str.Parse.{digits_value}

abbrev pub is_sign : ℕ → Bool
is_sign byte = (byte == 43) || (byte == 45)

abbrev pub is_point : ℕ → Bool
is_point byte = byte == 46

-- a byte that a number may hold
unfoldable pub is_numeric : ℕ → Bool
is_numeric byte = is_ascii_digit byte || is_sign byte || is_point byte

-- the run of digits, signs and points at the front of a text, and what follows
abbrev pub run_of : List ℕ → List ℕ
run_of text = take (prefix_len is_numeric text) text

abbrev pub behind_run : List ℕ → List ℕ
behind_run text = drop (prefix_len is_numeric text) text

abbrev pub are_digits : List ℕ → Bool
are_digits run = list_all is_ascii_digit run

-- the number that digits write
unfoldable pub value_of : List ℕ → ℕ
value_of digits = digits_value 10 digits

-- digits, at least one
unfoldable pub natural : List ℕ → Option ℕ
natural run = if (length run == 0) || not (are_digits run) then None else Some (value_of run)

-- values of digits are told up to this, which is past every number that a file may hold
abbrev pub value_limit : ℕ
value_limit = 1000000000000000

-- at most so many digits
unfoldable pub natural_within : ℕ → List ℕ → Option ℕ
natural_within most run = if nat_lt most (length run) then None else natural run

abbrev pub is_negative : List ℕ → Bool
is_negative [] = false
is_negative (first ∷ run) = first == 45

-- what stands behind the sign, if there is one
abbrev pub behind_sign : List ℕ → List ℕ
behind_sign [] = []
behind_sign (first ∷ run) = if is_sign first then run else first ∷ run

abbrev pub with_sign : Bool → ℕ → ℤ
with_sign true n = neg_ℤ (pos n)
with_sign false n = pos n

-- a number behind an optional sign
abbrev pub signed : (List ℕ → Option ℕ) → List ℕ → Option ℤ
signed size run = option_map (with_sign (is_negative run)) (size (behind_sign run))

-- a coordinate: an optional sign and 1 to 15 digits
abbrev pub integer : List ℕ → Option ℤ
integer run = signed (natural_within 15) run

-- what decimals say in 10^-9 of a unit; those past the ninth are dropped
unfoldable pub billionths : List ℕ → ℕ
billionths digits = value_of (take 9 digits) * 10 ^ (9 - length digits)

-- digits with an optional point, at least one digit and less than 10^6, in 10^-9 of a unit
unfoldable pub unsigned_decimal : List ℕ → Option ℕ
unsigned_decimal run =
    let whole = before_first is_point run in
    let decimals = after_first is_point run in
    if not (are_digits whole && are_digits decimals) || (length whole + length decimals == 0)
    || nat_le 1000000 (value_of whole) then None
    else Some (value_of whole * 1000000000 + billionths decimals)

-- the same behind an optional sign
abbrev pub decimal : List ℕ → Option ℤ
decimal run = signed unsigned_decimal run

-- the least and the greatest number of an aperture
abbrev pub first_number : ℕ
first_number = 10

abbrev pub last_number : ℕ
last_number = 2147483647

abbrev pub IsApertureNumber : ℕ → Type 0
IsApertureNumber n = (first_number ≤ n) × (n ≤ last_number)

abbrev pub within_numbers : ℕ → Option ℕ
within_numbers n = if nat_lt last_number n then None else Some n

-- the number that a definition gives an aperture: 10 to 2,147,483,647
abbrev pub defined_number : List ℕ → Option ℕ
defined_number run = option_and_then (λ n. if nat_lt n first_number then None else within_numbers n) (natural run)
