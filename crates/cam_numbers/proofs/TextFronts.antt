-- Coordinates at the front of a text, which hold no blank.
use Rattle.std.proofs.Common.{◌≡◌, ℕ, zero, suc, ◌+◌, ◌*◌, ◌-◌, ◌^◌, ◌<◌, ◌≤◌, List, [], ◌∷◌, length, take, drop, get_or}
use Rattle.std.proofs.Common.{Bool, true, false, Some, refl, sym, ap, ◌∙◌, arith, length-take, subst, ℤ, of_z, to_z, w64, unsigned_abs}
use Rattle.std.specs.Prelude.{◌||◌, ◌==◌}
use Rattle.std.specs.List.{prefix_len}
use Rattle.std.specs.Char.{is_ascii_digit}
use Rattle.std.proofs.lemmas.List.{take_rest}
use Rattle.std.proofs.lemmas.Bool.{and_parts}
use Rattle.std.proofs.lemmas.Bool.Decides.{nat_tests}
use Rattle.std.proofs.lemmas.Int.{fits_signed_from_abs, to_z-of_z}
use Rattle.std.proofs.lemmas.Int.Digits.{digits_value_more}
use Rattle.std.proofs.lemmas.List.Folds.{list_all_more}
use Rattle.cam_numbers.specs.declared.blanks.Blanks.TheVariants.{Skipped}
use Rattle.cam_numbers.specs.declared.whole.Digits.{Digits}
use Rattle.cam_numbers.specs.Blanks.{is_blank_byte, without_blanks}
use Rattle.cam_numbers.specs.Numbers.{are_digits, integer, is_numeric, is_sign, natural_within, value_of, with_sign}
use Rattle.cam_numbers.specs.Machinery.TextFronts.{IsDigitsFront, IsIntegerFront}
use Rattle.cam_numbers.proofs.Counting.{digit_is, short_value}
use Rattle.cam_numbers.proofs.Naturals.{natural-digits, within}

-- one more digit
pub more_digits : (text : List ℕ) (i : ℕ) → i < length text → are_digits (take i text) ≡ true
    → is_ascii_digit (get_or text i 0) ≡ true → are_digits (take (i + 1) text) ≡ true
more_digits text i below all digit = list_all_more is_ascii_digit text i 0 below ∙ rw (all, digit) refl

pub more_value : (text : List ℕ) (i : ℕ) → i < length text → is_ascii_digit (get_or text i 0) ≡ true
    → value_of (take (i + 1) text) ≡ value_of (take i text) * 10 + (get_or text i 0 - 48)
unfolding value_of
more_value text i below digit = grind (arith, digits_value_more, digit_is)

-- few digits are a small number
pub few_digits : (text : List ℕ) (i : ℕ) → are_digits (take i text) ≡ true → i ≤ 15 → value_of (take i text) < 10 ^ 15
few_digits text i all few = short_value (take i text) 15 all (omega (arith, length-take i text))

digit_in_run : (byte : ℕ) → is_ascii_digit byte ≡ true → (is_numeric byte || is_blank_byte byte) ≡ true
unfolding is_numeric
digit_in_run byte h = rw h refl

letter_ends_run : (byte : ℕ) → 65 ≤ byte → (is_numeric byte || is_blank_byte byte) ≡ false
unfolding is_numeric
letter_ends_run byte h = grind (arith, nat_tests)

pub run_of_digits : (text : List ℕ) (n : ℕ) → n < length text → are_digits (take n text) ≡ true → 65 ≤ get_or text n 0
    → n ≡ prefix_len (λ byte. is_numeric byte || is_blank_byte byte) text
run_of_digits [] n below all letter = absurd (omega arith)
run_of_digits (byte ∷ text) zero below all letter = rw (letter_ends_run byte letter) refl
run_of_digits (byte ∷ text) (suc n) below all letter =
    let both = and_parts (is_ascii_digit byte) (are_digits (take n text)) all in
    let rest = run_of_digits text n (omega arith) both.1 letter in
    rw (digit_in_run byte both.0) (omega (arith, rest))

-- digits hold no blank
digit_is_kept : (byte : ℕ) → is_ascii_digit byte ≡ true → is_blank_byte byte ≡ false
digit_is_kept byte h = grind (arith, nat_tests)

kept_digits : (run : List ℕ) → are_digits run ≡ true → without_blanks Skipped run ≡ run
kept_digits [] all = refl
kept_digits (byte ∷ run) all =
    let both = and_parts (is_ascii_digit byte) (are_digits run) all in
    rw (digit_is_kept byte both.0) (ap (λ rest. byte ∷ rest) (kept_digits run both.1))

digit_is_no_sign : (byte : ℕ) → is_ascii_digit byte ≡ true → (is_sign byte ≡ false) × ((byte == 45) ≡ false)
digit_is_no_sign byte h = (grind (arith, nat_tests), grind (arith, nat_tests))

size_of : (run : List ℕ) → are_digits run ≡ true → 0 < length run → length run ≤ 15
    → natural_within 15 run ≡ Some (value_of run)
size_of run all some few = within 15 run few ∙ natural-digits run all (λ none. omega (arith, none))

unsigned : (run : List ℕ) → are_digits run ≡ true → 0 < length run → length run ≤ 15
    → integer run ≡ Some (with_sign false (value_of run))
unsigned [] all some few = absurd (omega arith)
unsigned (byte ∷ run) all some few = grind (arith, and_parts, digit_is_no_sign, size_of)

negative : (run : List ℕ) → are_digits run ≡ true → 0 < length run → length run ≤ 15
    → integer (45 ∷ run) ≡ Some (with_sign true (value_of run))
negative run all some few = rw (size_of run all some few) refl

long : (text : List ℕ) (n : ℕ) → n < length text → length (take n text) ≡ n
long text n below = omega (arith, length-take n text)

pub small_value : (text : List ℕ) (digits : Digits) → IsDigitsFront text digits → digits.value < 2 ^ 63
small_value text digits is = omega (arith, is.value, few_digits text digits.count is.each is.few)

-- the same as a signed number
size_with_sign : (is_negative : Bool) (n : ℕ) → unsigned_abs (with_sign is_negative n) ≡ n
size_with_sign true zero = refl
size_with_sign true (suc n) = refl
size_with_sign false n = refl

pub signed_value : (is_negative : Bool) (text : List ℕ) (digits : Digits) (value : ℤ) → IsDigitsFront text digits
    → value ≡ with_sign is_negative digits.value → to_z w64 (of_z w64 value) ≡ with_sign is_negative digits.value
signed_value is_negative text digits value is e = grind (arith, small_value, size_with_sign, fits_signed_from_abs, to_z-of_z)

pub unsigned_front : (text : List ℕ) (digits : Digits) (value : ℤ) → IsDigitsFront text digits
    → value ≡ with_sign false digits.value
    → IsIntegerFront text (record { len = digits.count; value = Some value })
unsigned_front text digits value is e = grind (arith, long, within, unsigned, kept_digits)

behind_minus : (text : List ℕ) (digits : Digits) (value : ℤ) → IsDigitsFront text digits
    → value ≡ with_sign true digits.value
    → IsIntegerFront (45 ∷ text) (record { len = suc digits.count; value = Some value })
unfolding is_numeric
behind_minus text digits value is e = grind (arith, long, within, negative, kept_digits)

pub negative_front : (text : List ℕ) (digits : Digits) (value : ℤ) → get_or text 0 0 ≡ 45
    → IsDigitsFront (take (length text - 1) (drop 1 text)) digits → value ≡ with_sign true digits.value
    → IsIntegerFront text (record { len = digits.count + 1; value = Some value })
negative_front [] digits value minus is e = absurd cc
negative_front (byte ∷ text) digits value minus is e =
    let whole : take (length (byte ∷ text) - 1) (drop 1 (byte ∷ text)) ≡ text = take_rest (byte ∷ text) 1 in
    let front = behind_minus text digits value (subst (λ t. IsDigitsFront t digits) whole is) e in
    let more : suc digits.count ≡ digits.count + 1 = omega arith in
    subst (λ n. IsIntegerFront (byte ∷ text) (record { len = n; value = Some value })) more
    (subst (λ b. IsIntegerFront (b ∷ text) (record { len = suc digits.count; value = Some value })) (sym minus) front)
