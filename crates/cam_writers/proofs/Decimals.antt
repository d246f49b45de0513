-- Decimals that canonical texts write are read as the numbers that they are.
use Rattle.std.proofs.Common.{◌≡◌, ℕ, suc, ◌+◌, ◌-◌, ◌*◌, ◌/◌, ◌%◌, ◌^◌, ◌<◌, ◌≤◌, List, [], ◌∷◌, ◌++◌, length}
use Rattle.std.proofs.Common.{Bool, true, false, eqb, Option, Some, refl, sym, ◌∙◌, arith, rules}
use Rattle.std.specs.Prelude.{ℤ, pos, negsuc, neg_ℤ, ◌||◌, decimal, unsigned_abs}
use Rattle.std.specs.List.{list_all, list_any}
use Rattle.std.specs.Char.{is_ascii_digit}
use Rattle.std.proofs.lemmas.List.Folds.{list_all-append}
use Rattle.std.proofs.lemmas.Bool.{and_parts, le-ltb}
use Rattle.std.proofs.lemmas.Bool.Decides.{nat_tests}
use Rattle.std.proofs.lemmas.Str.Parse.{IsDigitsTest, IsNumeralModel, numerals_by_fold, numerals_by_value}
use Rattle.std.proofs.lemmas.Fmt.{digits_decimal, digits_value-decimal, decimal_nonempty}
use Rattle.std.proofs.Math.Nat.{div-div-eq-div-mul}
use Rattle.cam_units.specs.Nearest.{nearest_of, rounded}
use Rattle.std.specs.Str.Parse.{digits_value}
use Rattle.cam_numbers.specs.Numbers.{is_numeric, is_sign, is_point, are_digits, value_of, natural, is_negative}
use Rattle.cam_numbers.specs.Numbers.{behind_sign, signed, billionths, unsigned_decimal}
use Rattle.cam_numbers.proofs.Naturals.{natural-digits}
use Rattle.cam_numbers.proofs.Written.{read_pointed}
use Rattle.cam_xnc.specs.Numbers.{is_pointed, selected_tool, declared_tool}
use Rattle.cam_writers.proofs.Runs.{all_pass}
use Rattle.cam_writers.specs.Lengths.{last_digit, last_six, unsigned_mm, mm, scaled}

are_digits_test : IsDigitsTest (λ ds. are_digits ds ≡ true)
are_digits_test = search rules

own : IsNumeralModel (λ ds. are_digits ds ≡ true) (digits_value 10)
own = numerals_by_value (λ ds. are_digits ds ≡ true) are_digits_test

pub digits_of_decimal : (n : ℕ) → n < 2 ^ 64 → are_digits (decimal n) ≡ true
digits_of_decimal n h = digits_decimal own n h

pub value_of_decimal : (n : ℕ) → n < 2 ^ 64 → value_of (decimal n) ≡ n
unfolding value_of
value_of_decimal n h = digits_value-decimal own n h

-- the number that digits go on to, after n
abbrev value_after : ℕ → List ℕ → ℕ
value_after n [] = n
value_after n (digit ∷ digits) = value_after (n * 10 + (digit - 48)) digits

by_digits : IsNumeralModel (λ ds. are_digits ds ≡ true) (value_after 0)
by_digits = numerals_by_fold (λ ds. are_digits ds ≡ true) are_digits_test value_after (search rules)

value_is : (ds : List ℕ) → are_digits ds ≡ true → value_of ds ≡ value_after 0 ds
unfolding value_of
value_is ds h = sym (by_digits.same ds (by_digits.to ds h))

-- six digits

last_is_digit : (n : ℕ) → is_ascii_digit (last_digit n) ≡ true
last_is_digit n = grind (arith, nat_tests)

pub six_digits : (n : ℕ) → are_digits (last_six n) ≡ true
six_digits n = grind (arith, last_is_digit)

ten_more : (n k : ℕ) → n / k ≡ n / (k * 10) * 10 + n / k % 10
ten_more n k = grind (arith, div-div-eq-div-mul)

joined : (n q1 q2 q3 q4 q5 q6 d0 d1 d2 d3 d4 d5 : ℕ) → n ≡ q1 * 10 + d0 → q1 ≡ q2 * 10 + d1 → q2 ≡ q3 * 10 + d2 → q3 ≡ q4 * 10 + d3
    → q4 ≡ q5 * 10 + d4 → q5 ≡ q6 * 10 + d5
    → q6 * 1000000 + value_after 0 ((48 + d5) ∷ (48 + d4) ∷ (48 + d3) ∷ (48 + d2) ∷ (48 + d1) ∷ (48 + d0) ∷ []) ≡ n
joined n q1 q2 q3 q4 q5 q6 d0 d1 d2 d3 d4 d5 e0 e1 e2 e3 e4 e5 = omega arith

pub six_value : (n : ℕ) → n / 1000000 * 1000000 + value_of (last_six n) ≡ n
six_value n = grind (arith, value_is, six_digits, joined, ten_more)

-- the point

billionths_of_six : (n : ℕ) → billionths (last_six n) ≡ value_of (last_six n) * 1000
unfolding billionths
billionths_of_six n = refl

pub sum_again : (n : ℕ) → n < 10 ^ 12 → value_of (decimal (n / 1000000)) * 1000000000 + billionths (last_six n) ≡ n * 1000
sum_again n h = grind (arith, value_of_decimal, billionths_of_six, six_value)

pub unsigned_again : (n : ℕ) → n < 10 ^ 12 → unsigned_decimal (unsigned_mm n) ≡ Some (n * 1000)
unfolding unsigned_mm
unsigned_again n h = grind (arith, value_of_decimal, decimal_nonempty, read_pointed, digits_of_decimal, six_digits, sum_again)

-- signs

-- a run of digits and what follows begins with no sign
pub record IsUnsigned (run : List ℕ) : Type 0 where
  pub positive : is_negative run ≡ false
  pub behind : behind_sign run ≡ run

digit_no_sign : (d : ℕ) → is_ascii_digit d ≡ true → (eqb d 45 ≡ false) × (is_sign d ≡ false)
digit_no_sign d h = (grind (arith, nat_tests), grind (arith, nat_tests))

pub unsigned : (ds rest : List ℕ) → are_digits ds ≡ true → 0 < length ds → IsUnsigned (ds ++ rest)
unsigned [] rest h some = absurd (omega (arith, some))
unsigned (d ∷ ds) rest h some = grind (arith, digit_no_sign, and_parts)

pub signed_without : (size : List ℕ → Option ℕ) (run : List ℕ) (n : ℕ) → IsUnsigned run → size run ≡ Some n → signed size run ≡ Some (pos n)
signed_without size run n u e = rw (u.behind, u.positive, e) refl

pub signed_minus : (size : List ℕ → Option ℕ) (run : List ℕ) (n : ℕ) → size run ≡ Some n → signed size (45 ∷ run) ≡ Some (neg_ℤ (pos n))
signed_minus size run n e = rw e refl

pub mm_again : (z : ℤ) → unsigned_abs z < 10 ^ 12 → signed unsigned_decimal (mm z) ≡ Some (scaled z)
unfolding unsigned_mm
mm_again (pos n) h =
    signed_without unsigned_decimal (unsigned_mm n) (n * 1000)
    (unsigned (decimal (n / 1000000)) (46 ∷ last_six n) (digits_of_decimal (n / 1000000) (omega arith))
    (decimal_nonempty (n / 1000000) (omega arith)))
    (unsigned_again n h)
mm_again (negsuc n) h = signed_minus unsigned_decimal (unsigned_mm (suc n)) (suc n * 1000) (unsigned_again (suc n) h)

-- a thousandth of it is the length again
thousandth : (n : ℕ) → rounded (n * 1000) 1000 ≡ n
thousandth n = omega arith

below_zero : (m n : ℕ) → m ≡ suc n * 1000 → nearest_of (neg_ℤ (pos m)) 1000 ≡ negsuc n
below_zero m n e = grind (arith, thousandth)

pub scaled_again : (z : ℤ) → nearest_of (scaled z) 1000 ≡ z
scaled_again z = grind (arith, thousandth, below_zero)

-- a point stands in it

any_behind : (p : ℕ → Bool) (xs ys : List ℕ) → list_any p ys ≡ true → list_any p (xs ++ ys) ≡ true
any_behind p [] ys h = h
any_behind p (x ∷ xs) ys h = elim (p x) as (λ b. (b || list_any p (xs ++ ys)) ≡ true) [ true ↦ refl | false ↦ any_behind p xs ys h ]

unsigned_pointed : (n : ℕ) → is_pointed (unsigned_mm n) ≡ true
unfolding unsigned_mm
unsigned_pointed n = any_behind is_point (decimal (n / 1000000)) (46 ∷ last_six n) refl

pub mm_pointed : (z : ℤ) → is_pointed (mm z) ≡ true
mm_pointed z = grind (arith, unsigned_pointed)

-- no other bytes stand in it

digit_numeric : (b : ℕ) → is_ascii_digit b ≡ true → is_numeric b ≡ true
unfolding is_numeric
digit_numeric b h = rw h refl

pub digits_numeric : (ds : List ℕ) → are_digits ds ≡ true → list_all is_numeric ds ≡ true
digits_numeric ds h = all_pass is_ascii_digit is_numeric digit_numeric ds h

pub decimal_run : (n : ℕ) → n < 2 ^ 64 → list_all is_numeric (decimal n) ≡ true
decimal_run n h = digits_numeric (decimal n) (digits_of_decimal n h)

unsigned_numeric : (n : ℕ) → n < 10 ^ 12 → list_all is_numeric (unsigned_mm n) ≡ true
unfolding unsigned_mm is_numeric
unsigned_numeric n h =
    list_all-append is_numeric (decimal (n / 1000000)) (46 ∷ last_six n)
    ∙ rw (
      digits_numeric (decimal (n / 1000000)) (digits_of_decimal (n / 1000000) (omega arith)),
      digits_numeric (last_six n) (six_digits n),
    ) refl

pub mm_numeric : (z : ℤ) → unsigned_abs z < 10 ^ 12 → list_all is_numeric (mm z) ≡ true
unfolding is_numeric
mm_numeric z h = grind (arith, unsigned_numeric)

-- numbers of tools

pub natural_again : (n : ℕ) → n < 2 ^ 64 → natural (decimal n) ≡ Some n
natural_again n h = grind (arith, natural-digits, digits_of_decimal, decimal_nonempty, value_of_decimal)

pub selected_again : (n : ℕ) → n ≤ 9999 → selected_tool (decimal n) ≡ Some n
selected_again n h = rw (natural_again n (omega arith), le-ltb 9999 n h) refl

pub declared_again : (n : ℕ) → 1 ≤ n → n ≤ 9999 → declared_tool (decimal n) ≡ Some n
declared_again n some h = grind (arith, natural_again, le-ltb)
