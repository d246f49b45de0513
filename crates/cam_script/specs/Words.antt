-- The words of a line, and the values that they write.
use Rattle.std.specs.Prelude.{ℕ, ℤ, pos, neg_ℤ, ◌==◌, ◌&&◌, ◌||◌, ◌-◌, ◌^◌, nat_lt, nat_le, min}
use Rattle.std.specs.Prelude.{Bool, if◌then◌else◌, List, [], ◌∷◌, length, filter, Option, None, Some}
use Rattle.std.specs.List.{slice_split, list_all}
use Rattle.std.specs.Option.{option_map}
use Rattle.std.specs.Char.{is_ascii_alphanumeric, is_ascii_graphic}
use Rattle.std.specs.Str.{all_ascii_digits}
use Rattle.std.specs.Str.Parse.{digits_value, starts_with_minus, without_leading_sign}

-- a space or a tab
abbrev pub is_word_gap : ℕ → Bool
is_word_gap b = (b == 32) || (b == 9)

abbrev pub is_filled : List ℕ → Bool
is_filled piece = nat_lt 0 (length piece)

-- the pieces between spaces and tabs that are not empty
abbrev pub words : List ℕ → List (List ℕ)
words line = filter is_filled (slice_split is_word_gap line)

-- a letter, a digit, '_', '-' or '.'
abbrev pub is_name_byte : ℕ → Bool
is_name_byte b = is_ascii_alphanumeric b || (b == 95) || (b == 45) || (b == 46)

-- 1 to 32 of them
abbrev pub is_name : List ℕ → Bool
is_name word = nat_le 1 (length word) && nat_le (length word) 32 && list_all is_name_byte word

-- 1 to 255 bytes from '!' to '~'
abbrev pub is_path : List ℕ → Bool
is_path word = nat_le 1 (length word) && nat_le (length word) 255 && list_all is_ascii_graphic word

-- the number that digits alone write, if it is at most this
abbrev pub numeral_to : ℕ → List ℕ → Option ℕ
numeral_to most digits =
    if is_filled digits && all_ascii_digits digits && nat_le (digits_value 10 digits) most
    then Some (digits_value 10 digits) else None

-- a place or a count: digits alone, below 2^32
abbrev pub count_in : List ℕ → Option ℕ
count_in word = numeral_to (2 ^ 32 - 1) word

-- a length: an optional sign and digits, of at most 4,000,000,000 nm in absolute value
abbrev pub length_in : List ℕ → Option ℤ
length_in word =
    option_map (λ n. if starts_with_minus word then neg_ℤ (pos n) else pos n)
    (numeral_to 4000000000 (without_leading_sign word))

-- the number of a tool: one past 65,535 is read as 65,535, which no layer has
abbrev pub tool_in : List ℕ → Option ℕ
tool_in word = option_map (λ n. min n 65535) (count_in word)

-- what is said by a word behind which none stands
abbrev pub alone : {T : Type 0} → T → List (List ℕ) → Option T
alone said [] = Some said
alone said (word ∷ more) = None
