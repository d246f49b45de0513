-- Tests that were made.
use Rattle.std.proofs.Common.{◌≡◌, ℕ, ◌<◌, ◌≤◌, ◌^◌, Bool, true, false, List, [], ◌∷◌, length, get_or, None}
use Rattle.std.proofs.Common.{Some, Ok, Err, Result, refl, sym, arith, nat_le, ◌≢◌, if◌then◌else◌}
use Rattle.std.specs.Prelude.{◌&&◌, IsUtf8}
use Rattle.std.specs.Str.{all_ascii_digits, IsAscii}
use Rattle.std.specs.Char.{is_ascii_digit, is_ascii_graphic}
use Rattle.std.specs.List.{list_all}
use Rattle.std.specs.Str.Lossy.{utf8_lossy}
use Rattle.std.specs.Str.Parse.{digits_value, ParsesUnsigned}
use Rattle.std.proofs.lemmas.Bool.Decides.{nat_tests}
use Rattle.std.proofs.lemmas.Str.{IsUtf8-from_ascii, utf8_lossy-IsUtf8}
use Rattle.std.proofs.lemmas.Str.Ascii.{IsAscii-nil, IsAscii-cons}
use Rattle.std.proofs.lemmas.Str.Parse.{IsNumeralModel, numerals_by_value, tells_all_ascii_digits, parse_plain}
use Rattle.cam_script.specs.Words.{is_filled, numeral_to, is_name, is_name_byte, is_path}

-- a count within its bounds leaves the other test to decide
pub within_bounds : (least most n : ℕ) (other : Bool) → least ≤ n → n ≤ most → (nat_le least n && nat_le n most && other) ≡ other
within_bounds least most n other low high = by_tests (nat_le least n) (nat_le n most) (grind (arith, nat_tests)) (grind (arith, nat_tests))
  where
    by_tests : (a b : Bool) → a ≡ true → b ≡ true → (a && b && other) ≡ other
    by_tests a b ea eb = rw (ea, eb) refl

pub ruleset within = within_bounds

both : (a b : Bool) → (a && b) ≡ true → (a ≡ true) × (b ≡ true)
both true b e = (refl, e)
both false b e = absurd cc

digits_ascii : (digits : List ℕ) → all_ascii_digits digits ≡ true → IsAscii digits
digits_ascii [] e = IsAscii-nil
digits_ascii (c ∷ cs) e =
    let parts : (is_ascii_digit c ≡ true) × (all_ascii_digits cs ≡ true) = both (is_ascii_digit c) (all_ascii_digits cs) e in
    IsAscii-cons c cs (grind (arith, nat_tests, parts.0)) (digits_ascii cs parts.1)

own : IsNumeralModel (λ digits. all_ascii_digits digits ≡ true) (digits_value 10)
own = numerals_by_value (λ digits. all_ascii_digits digits ≡ true) tells_all_ascii_digits

closed : (a b c : Bool) (n : ℕ) → (a ≡ true → b ≡ true → c ≡ true → ⊥) → (if a && b && c then Some n else None) ≡ None
closed true true true n h = absurd (h refl refl refl)
closed true true false n h = refl
closed true false c n h = refl
closed false b c n h = refl

opened : (a b c : Bool) (n : ℕ) → a ≡ true → b ≡ true → c ≡ true → (if a && b && c then Some n else None) ≡ Some n
opened a b c n ea eb ec = rw (ea, eb, ec) refl

le_told : (n m : ℕ) → nat_le n m ≡ true → n ≤ m
le_told n m e = grind (arith, nat_tests)

le_tells : (n m : ℕ) → n ≤ m → nat_le n m ≡ true
le_tells n m e = grind (arith, nat_tests)

filled_told : (digits : List ℕ) → is_filled digits ≡ true → 0 < length digits
filled_told digits e = grind (arith, nat_tests)

filled_tells : (digits : List ℕ) → 0 < length digits → is_filled digits ≡ true
filled_tells digits e = grind (arith, nat_tests)

pub no_numeral_text : (most : ℕ) (digits : List ℕ) → ¬ (IsUtf8 digits) → None ≡ numeral_to most digits
no_numeral_text most digits no_text =
    sym (closed (is_filled digits) (all_ascii_digits digits) (nat_le (digits_value 10 digits) most) (digits_value 10 digits)
    (λ filled all few. no_text (IsUtf8-from_ascii digits (digits_ascii digits all))))

pub no_numeral_parsed : {E : Type 0} → (most : ℕ) (digits text : List ℕ) (e : E) → text ≡ digits → get_or digits 0 0 ≢ 43 → most < 2 ^ 64
    → ParsesUnsigned 64 10 text (Err e) → None ≡ numeral_to most digits
no_numeral_parsed {E} most digits text e same no_plus small parses =
    let fails : ¬ ((all_ascii_digits digits ≡ true) × (0 < length digits) × (digits_value 10 digits < 2 ^ 64)) =
    parse_plain own {E = E} 64 digits (Err e) (rw same at parses) no_plus in
    sym (closed (is_filled digits) (all_ascii_digits digits) (nat_le (digits_value 10 digits) most) (digits_value 10 digits)
    (λ filled all few. fails (all, filled_told digits filled, omega (arith, le_told (digits_value 10 digits) most few))))

pub numeral_parsed : {E : Type 0} → (most : ℕ) (digits text : List ℕ) (value : ℕ) (r : Result ℕ E) → text ≡ digits → get_or digits 0 0 ≢ 43
    → r ≡ Ok value → ParsesUnsigned 64 10 text r → value ≤ most → Some value ≡ numeral_to most digits
numeral_parsed {E} most digits text value r same no_plus e parses low =
    let reads = parse_plain own {E = E} 64 digits (Ok value) (rw (same, e) at parses) no_plus in
    rw reads.1 (sym (opened (is_filled digits) (all_ascii_digits digits) (nat_le (digits_value 10 digits) most) (digits_value 10 digits)
    (filled_tells digits reads.0.1) reads.0.0 (le_tells (digits_value 10 digits) most (omega (arith, reads.1)))))

pub lossless : (bytes : List ℕ) → IsAscii bytes → utf8_lossy bytes ≡ bytes
lossless bytes h = utf8_lossy-IsUtf8 bytes (IsUtf8-from_ascii bytes h)

ascii_by : (test : ℕ → Bool) → ((b : ℕ) → test b ≡ true → b < 128) → (bytes : List ℕ) → list_all test bytes ≡ true → IsAscii bytes
ascii_by test low [] e = IsAscii-nil
ascii_by test low (b ∷ bs) e =
    let parts : (test b ≡ true) × (list_all test bs ≡ true) = both (test b) (list_all test bs) e in
    IsAscii-cons b bs (low b parts.0) (ascii_by test low bs parts.1)

name_byte_low : (b : ℕ) → is_name_byte b ≡ true → b < 128
name_byte_low b e = grind (arith, nat_tests)

graphic_low : (b : ℕ) → is_ascii_graphic b ≡ true → b < 128
graphic_low b e = grind (arith, nat_tests)

last_of : (a b c : Bool) → (a && b && c) ≡ true → c ≡ true
last_of true true c e = e
last_of true false c e = absurd cc
last_of false b c e = absurd cc

pub name_ascii : (word : List ℕ) → is_name word ≡ true → IsAscii word
name_ascii word e = ascii_by is_name_byte name_byte_low word
    (last_of (nat_le 1 (length word)) (nat_le (length word) 32) (list_all is_name_byte word) e)

pub path_ascii : (word : List ℕ) → is_path word ≡ true → IsAscii word
path_ascii word e = ascii_by is_ascii_graphic graphic_low word
    (last_of (nat_le 1 (length word)) (nat_le (length word) 255) (list_all is_ascii_graphic word) e)

pub ruleset ascii_words = (lossless, name_ascii, path_ascii)
