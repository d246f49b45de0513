-- Words that are joined by spaces are cut at them again.
use Rattle.std.proofs.Common.{append-nil, suc, ◌≡◌, ℕ, ◌<◌, ◌^◌, Bool, true, false, List, [], ◌∷◌, ◌++◌, length, refl, ap, ◌∙◌, arith}
use Rattle.std.specs.Prelude.{◌&&◌, not, filter, decimal, ℤ, pos, negsuc, All}
use Rattle.std.specs.List.{slice_split, list_all}
use Rattle.std.specs.Fmt.{signed_decimal}
use Rattle.std.specs.Char.{is_ascii_digit}
use Rattle.std.specs.Str.{all_ascii_digits}
use Rattle.std.specs.Str.Parse.{digits_value}
use Rattle.std.specs.Int.RustNames.{unsigned_abs}
use Rattle.std.proofs.lemmas.List.Splits.{slice_split_at, slice_split_none}
use Rattle.std.proofs.lemmas.List.Sums.{AllPass-from_list_all}
use Rattle.std.proofs.lemmas.Bool.Decides.{nat_tests}
use Rattle.std.proofs.lemmas.Fmt.{digits_decimal, decimal_nonempty}
use Rattle.std.proofs.lemmas.Str.Parse.{IsNumeralModel, numerals_by_value, tells_all_ascii_digits}
use Rattle.cam_script.specs.Words.{is_word_gap, is_filled, words}
use Rattle.cam_script.specs.Spelling.{spaced}

-- a byte of a word
abbrev pub is_solid : ℕ → Bool
is_solid b = not (is_word_gap b)

-- a word: a byte or more, none of them blank
abbrev pub is_word : List ℕ → Bool
is_word word = is_filled word && list_all is_solid word

both : (a b : Bool) → (a && b) ≡ true → (a ≡ true) × (b ≡ true)
both true b e = (refl, e)
both false b e = absurd cc

pub both_hold : (a b : Bool) → a ≡ true → b ≡ true → (a && b) ≡ true
both_hold a b ea eb = rw (ea, eb) refl

no_blank : (b : Bool) → not b ≡ true → b ≡ false
no_blank true e = cc
no_blank false e = refl

solid_all : (word : List ℕ) → list_all is_solid word ≡ true → All (λ b. is_word_gap b ≡ false) word
solid_all word e = λ k d lt. no_blank _ (AllPass-from_list_all is_solid word e k d lt)

kept_word : (word : List ℕ) (more : List (List ℕ)) → is_filled word ≡ true → filter is_filled (word ∷ more) ≡ word ∷ filter is_filled more
kept_word word more e = rw e refl

-- the words of joined words are these words
pub words_spelled : (word : List ℕ) (more : List (List ℕ)) → is_word word ≡ true → list_all is_word more ≡ true
    → words (word ++ spaced more) ≡ word ∷ more
words_spelled word [] e all =
    let parts = both (is_filled word) (list_all is_solid word) e in
    rw append-nil (ap (filter is_filled) (slice_split_none is_word_gap word (solid_all word parts.1)) ∙ kept_word word [] parts.0)
words_spelled word (next ∷ more) e all =
    let parts = both (is_filled word) (list_all is_solid word) e in
    let rest = both (is_word next) (list_all is_word more) all in
    ap (filter is_filled) (slice_split_at is_word_gap word 32 (next ++ spaced more) (solid_all word parts.1) refl)
    ∙ kept_word word (slice_split is_word_gap (next ++ spaced more)) parts.0
    ∙ ap (λ ws. word ∷ ws) (words_spelled next more rest.0 rest.1)

-- ---- numbers

own : IsNumeralModel (λ digits. all_ascii_digits digits ≡ true) (digits_value 10)
own = numerals_by_value (λ digits. all_ascii_digits digits ≡ true) tells_all_ascii_digits

digit_solid : (b : ℕ) → is_ascii_digit b ≡ true → is_solid b ≡ true
digit_solid b e = grind (arith, nat_tests)

digits_solid : (digits : List ℕ) → all_ascii_digits digits ≡ true → list_all is_solid digits ≡ true
digits_solid [] e = refl
digits_solid (c ∷ cs) e =
    let parts = both (is_ascii_digit c) (all_ascii_digits cs) e in
    both_hold (is_solid c) (list_all is_solid cs) (digit_solid c parts.0) (digits_solid cs parts.1)

pub filled_tells : (digits : List ℕ) → 0 < length digits → is_filled digits ≡ true
filled_tells digits e = grind (arith, nat_tests)

pub digits_of_decimal : (n : ℕ) → n < 2 ^ 64 → all_ascii_digits (decimal n) ≡ true
digits_of_decimal n h = digits_decimal own n h

pub decimal_word : (n : ℕ) → n < 2 ^ 64 → is_word (decimal n) ≡ true
decimal_word n h =
    both_hold (is_filled (decimal n)) (list_all is_solid (decimal n)) (filled_tells (decimal n) (decimal_nonempty n h))
    (digits_solid (decimal n) (digits_of_decimal n h))

pub signed_word : (z : ℤ) → unsigned_abs z < 2 ^ 64 → is_word (signed_decimal z) ≡ true
signed_word (pos n) h = decimal_word n h
signed_word (negsuc n) h =
    both_hold (is_filled (45 ∷ decimal (suc n))) (list_all is_solid (45 ∷ decimal (suc n))) (filled_tells (45 ∷ decimal (suc n)) (omega arith))
    (digits_solid (decimal (suc n)) (digits_of_decimal (suc n) h))
