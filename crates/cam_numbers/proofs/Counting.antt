-- The loops over digits, one byte at a time.
use Rattle.std.proofs.Common.{◌≡◌, ℕ, zero, suc, ◌+◌, ◌-◌, ◌*◌, ◌/◌, ◌^◌, ◌<◌, ◌≤◌, min, List, [], ◌∷◌, length, take}
use Rattle.std.proofs.Common.{Bool, true, false, refl, ap, ◌∙◌, ◌⊎◌, arith, None, Some}
use Rattle.std.specs.Prelude.{◌&&◌}
use Rattle.std.specs.Char.{is_ascii_digit, digit_value}
use Rattle.std.specs.Str.Parse.{AllDigits, digits_value_after}
use Rattle.std.proofs.lemmas.Bool.Decides.{nat_tests}
use Rattle.std.proofs.lemmas.Str.{digit_value_digit}
use Rattle.std.proofs.lemmas.Int.Digits.{digits_value-lt}
use Rattle.std.proofs.Math.Nat.{pow-suc, mul-le-mul_right, pow-le-pow_right}
use Rattle.cam_numbers.specs.declared.whole.Digits.{Digits}
use Rattle.cam_numbers.specs.declared.decimals.Decimals.{Decimals}
use Rattle.cam_numbers.specs.Numbers.{value_limit, value_of, are_digits, billionths}
use Rattle.cam_numbers.specs.Machinery.Counting.{digits_after, digits_of, worth_of, decimals_after, decimals_of}

digit_range : (d : ℕ) → is_ascii_digit d ≡ true → (48 ≤ d) × (d ≤ 57)
digit_range d h = grind (arith, nat_tests)

-- what a digit counts
pub digit_is : (d : ℕ) → is_ascii_digit d ≡ true → digit_value d ≡ d - 48
digit_is d h = let k = digit_range d h in omega (arith, digit_value_digit d k)

-- more digits make no number smaller
pub grows : (digits : List ℕ) (n : ℕ) → n ≤ digits_value_after 10 n digits
grows [] n = omega arith
grows (d ∷ digits) n = omega (arith, grows digits (n * 10 + digit_value d))

pub below_or : (limit n : ℕ) → (min limit n ≡ n) ⊎ ((min limit n ≡ limit) × (limit ≤ n))
below_or limit n = grind arith

-- what is past a limit stays so
capped : (limit n : ℕ) (digits : List ℕ)
    → min limit (digits_value_after 10 (min limit n) digits) ≡ min limit (digits_value_after 10 n digits)
capped limit n digits = grind (arith, below_or, grows)

-- a digit
pub digits_after-digit : (counted value byte : ℕ) (run : List ℕ) → is_ascii_digit byte ≡ true
    → digits_after counted value (byte ∷ run) ≡ digits_after (counted + 1) (min value_limit (value * 10 + (byte - 48))) run
unfolding digits_after
digits_after-digit counted value byte run e = grind (arith, capped, digit_is)

-- another byte
pub digits_after-other : (counted value byte : ℕ) (run : List ℕ) → is_ascii_digit byte ≡ false
    → digits_after counted value (byte ∷ run) ≡ None
unfolding digits_after
digits_after-other counted value byte run e = rw e refl

-- no more
pub digits_after-end : (counted value : ℕ) → value ≤ value_limit
    → digits_after counted value [] ≡ Some (record { count = counted; value = value })
unfolding digits_after
digits_after-end counted value le = grind arith

-- what digits say
pub record Said (run : List ℕ) (counted value : ℕ) : Type 0 where
  pub digits : are_digits run ≡ true
  pub counts : counted ≡ length run
  pub values : value ≡ min value_limit (value_of run)

pub said : (run : List ℕ) (d : Digits) → Some d ≡ digits_of run → Said run d.count d.value
unfolding digits_after value_of
said run d e = grind arith

pub not_said : (run : List ℕ) → None ≡ digits_of run → are_digits run ≡ false
unfolding digits_after
not_said run e = grind arith

-- a decimal
pub decimals_after-digit : (counted sum worth byte : ℕ) (run : List ℕ) → is_ascii_digit byte ≡ true
    → decimals_after counted sum worth (byte ∷ run) ≡ decimals_after (counted + 1) (sum + (byte - 48) * worth) (worth / 10) run
unfolding decimals_after
decimals_after-digit counted sum worth byte run e = grind (arith, digit_is)

pub decimals_after-other : (counted sum worth byte : ℕ) (run : List ℕ) → is_ascii_digit byte ≡ false
    → decimals_after counted sum worth (byte ∷ run) ≡ None
unfolding decimals_after
decimals_after-other counted sum worth byte run e = rw e refl

pub decimals_after-end : (counted sum worth : ℕ)
    → decimals_after counted sum worth [] ≡ Some (record { count = counted; value = sum })
unfolding decimals_after
decimals_after-end counted sum worth = grind arith

-- what one decimal is worth
pub small_share : (byte worth : ℕ) → is_ascii_digit byte ≡ true → (byte - 48) * worth ≤ 9 * worth
small_share byte worth h = let k = digit_range byte h in mul-le-mul_right worth (omega arith)

worthless : (digits : List ℕ) → worth_of 0 digits ≡ 0
worthless [] = refl
worthless (d ∷ digits) = omega (arith, worthless digits)

-- what so many decimals are worth in units of the last
abbrev counts_of : ℕ → List ℕ → ℕ
counts_of zero digits = 0
counts_of (suc places) [] = 0
counts_of (suc places) (d ∷ digits) = digit_value d * 10 ^ places + counts_of places digits

shared : (n d p : ℕ) → (n * 10 + d) * p ≡ n * (p * 10) + d * p
shared n d p = omega arith

-- the digits that count, filled up by zeros
filled : (places n : ℕ) (digits : List ℕ)
    → digits_value_after 10 n (take places digits) * 10 ^ (places - length digits) ≡ n * 10 ^ places + counts_of places digits
filled zero n digits = let none : 0 - length digits ≡ 0 = omega arith in ap (λ k. n * 10 ^ k) none ∙ omega arith
filled (suc places) n [] = let none : suc places - 0 ≡ suc places = omega arith in ap (λ k. n * 10 ^ k) none ∙ omega arith
filled (suc places) n (d ∷ digits) =
    let rest = filled places (n * 10 + digit_value d) digits in
    grind (arith, shared, pow-suc)

tenth : (places : ℕ) → 10 ^ suc places / 10 ≡ 10 ^ places
tenth places = rw (pow-suc 10 places) (omega arith)

tied : (places : ℕ) (digits : List ℕ) → worth_of (10 ^ places) digits ≡ counts_of (suc places) digits
tied places [] = refl
tied zero (d ∷ digits) = omega (arith, worthless digits)
tied (suc places) (d ∷ digits) = grind (arith, tenth, tied places digits)

pub billionths_are : (digits : List ℕ) → worth_of 100000000 digits ≡ billionths digits
unfolding billionths value_of
billionths_are digits = let all = filled 9 0 digits in tied 8 digits ∙ omega (arith, all)

-- what decimals say
pub record Told (run : List ℕ) (counted value : ℕ) : Type 0 where
  pub digits : are_digits run ≡ true
  pub counts : counted ≡ length run
  pub values : value ≡ billionths run

pub told : (run : List ℕ) (d : Decimals) → Some d ≡ decimals_of run → Told run d.count d.value
unfolding decimals_after
told run d e = grind (arith, billionths_are)

pub not_told : (run : List ℕ) → None ≡ decimals_of run → are_digits run ≡ false
unfolding decimals_after
not_told run e = grind arith

-- n digits are less than 10^n
all_digits : (digits : List ℕ) → are_digits digits ≡ true → AllDigits 10 digits
all_digits [] h = tt
all_digits (d ∷ digits) h =
    let k = both (is_ascii_digit d) (are_digits digits) h in
    let is = digit_is d k.0 in
    let range = digit_range d k.0 in
    (omega (arith, is, range), all_digits digits k.1)
  where
    both : (a b : Bool) → (a && b) ≡ true → (a ≡ true) × (b ≡ true)
    both true b h = (refl, h)
    both false b h = absurd cc

-- k digits or fewer are less than 10^k
pub short_value : (digits : List ℕ) (k : ℕ) → are_digits digits ≡ true → length digits ≤ k → value_of digits < 10 ^ k
unfolding value_of
short_value digits k h le = grind (arith, digits_value-lt, all_digits, pow-le-pow_right)
