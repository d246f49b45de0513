-- The first piece of a list that is cut where a test passes.
use Rattle.std.proofs.Common.{◌≡◌, ℕ, suc, ◌+◌, ◌<◌, ◌≤◌, Bool, true, false, cond, List, [], ◌∷◌, ◌++◌, None, Some}
use Rattle.std.proofs.Common.{take, drop, length, refl, ap, ◌∙◌, arith, nat_lt, ◌==◌, position, if◌then◌else◌}
use Rattle.std.specs.Prelude.{filter}
use Rattle.std.specs.List.{slice_split, position_or_len}
use Rattle.std.specs.Str.Lines.{lines, lines_of_parts, strip_carriage_return}
use Rattle.std.proofs.lemmas.List.Splits.{slice_split_first, slice_split_none}
use Rattle.std.proofs.lemmas.List.Sums.{fails_before_first}
use Rattle.std.proofs.lemmas.Bool.Decides.{nat_tests}
use Rattle.std.specs.List.{onto_first}
use Rattle.cam_script.specs.Words.{is_word_gap, is_filled, words}

place_told : (n m i : ℕ) → cond (nat_lt n m) (Some n) None ≡ Some i → (n < m) × (i ≡ n)
place_told n m i e = (grind (arith, nat_tests), grind (arith, nat_tests))

no_place : (n m : ℕ) → cond (nat_lt n m) (Some n) None ≡ None → m ≤ n
no_place n m e = grind (arith, nat_tests)

-- the first piece ends where the test first passes
pub split_there : (p : ℕ → Bool) (xs : List ℕ) (i : ℕ) → position p xs ≡ Some i
    → slice_split p xs ≡ take i xs ∷ slice_split p (drop (i + 1) xs)
split_there p xs i e =
    let told : (position_or_len p xs < length xs) × (i ≡ position_or_len p xs) = place_told (position_or_len p xs) (length xs) i e in
    rw told.1 (slice_split_first p xs 0 told.0)

-- where it passes nowhere, the list is the one piece
pub split_nowhere : (p : ℕ → Bool) (xs : List ℕ) → position p xs ≡ None → slice_split p xs ≡ xs ∷ []
split_nowhere p xs e =
    let far : length xs ≤ position_or_len p xs = no_place (position_or_len p xs) (length xs) e in
    slice_split_none p xs (λ k d lt. fails_before_first p xs k d (omega arith))

two_filtered : (p : List ℕ → Bool) (x : List ℕ) (xs : List (List ℕ)) → filter p (x ∷ xs) ≡ filter p (x ∷ []) ++ filter p xs
two_filtered p x xs = by_test (p x)
  where
    by_test : (b : Bool) → cond b (x ∷ filter p xs) (filter p xs) ≡ cond b (x ∷ []) [] ++ filter p xs
    by_test true = refl
    by_test false = refl

pub words_there : (xs : List ℕ) (i : ℕ) → position is_word_gap xs ≡ Some i
    → words xs ≡ filter is_filled (take i xs ∷ []) ++ words (drop (i + 1) xs)
words_there xs i e =
    ap (filter is_filled) (split_there is_word_gap xs i e) ∙ two_filtered is_filled (take i xs) (slice_split is_word_gap (drop (i + 1) xs))

pub words_nowhere : (xs : List ℕ) → position is_word_gap xs ≡ None → words xs ≡ filter is_filled (xs ∷ []) ++ words []
words_nowhere xs e = ap (filter is_filled) (split_nowhere is_word_gap xs e) ∙ two_filtered is_filled xs ([] ∷ [])

-- a piece with another behind it is a line
abbrev Filled : List (List ℕ) → Type 0
Filled parts = (first : List ℕ) × (more : List (List ℕ)) × (parts ≡ first ∷ more)

split_filled : (p : ℕ → Bool) (xs : List ℕ) → Filled (slice_split p xs)
split_filled p [] = ([], [], refl)
split_filled p (x ∷ xs) = by_test (p x) (slice_split p xs)
  where
    onto_filled : (parts : List (List ℕ)) → Filled (onto_first x parts)
    onto_filled [] = (x ∷ [], [], refl)
    onto_filled (part ∷ parts) = (x ∷ part, parts, refl)

    by_test : (b : Bool) (parts : List (List ℕ)) → Filled (cond b ([] ∷ parts) (onto_first x parts))
    by_test true parts = ([], parts, refl)
    by_test false parts = onto_filled parts

line_first : (line : List ℕ) (parts : List (List ℕ)) → Filled parts
    → lines_of_parts (line ∷ parts) ≡ strip_carriage_return line ∷ lines_of_parts parts
line_first line parts filled = rw filled.2 refl

pub lines_there : (xs : List ℕ) (i : ℕ) → position (λ b. b == 10) xs ≡ Some i
    → lines xs ≡ strip_carriage_return (take i xs) ∷ lines (drop (i + 1) xs)
lines_there xs i e =
    ap lines_of_parts (split_there (λ b. b == 10) xs i e)
    ∙ line_first (take i xs) (slice_split (λ b. b == 10) (drop (i + 1) xs)) (split_filled (λ b. b == 10) (drop (i + 1) xs))

pub lines_nowhere : (xs : List ℕ) → position (λ b. b == 10) xs ≡ None → 0 < length xs → lines xs ≡ xs ∷ []
lines_nowhere [] e lt = absurd (omega (arith, lt))
lines_nowhere (x ∷ xs) e lt = ap lines_of_parts (split_nowhere (λ b. b == 10) (x ∷ xs) e) ∙ rw long refl
  where
    long : (length (x ∷ xs) == 0) ≡ false
    long = grind (arith, nat_tests)

pub ruleset words_by_piece = (words_there, words_nowhere)

pub ruleset lines_by_end = (lines_there, lines_nowhere)

-- no more lines than bytes
one_at_most : (b : Bool) (line : List ℕ) → length (if b then [] else line ∷ []) ≤ 1
one_at_most true line = omega arith
one_at_most false line = omega arith

longer_first : (x : ℕ) (parts : List (List ℕ)) → length (lines_of_parts (onto_first x parts)) ≤ 1 + length (lines_of_parts parts)
longer_first x [] = one_at_most (length (x ∷ []) == 0) (x ∷ [])
longer_first x (part ∷ []) =
    let one : length (lines_of_parts ((x ∷ part) ∷ [])) ≤ 1 = one_at_most (length (x ∷ part) == 0) (x ∷ part) in
    omega (arith, one)
longer_first x (part ∷ next ∷ parts) = omega arith

empty_first : (parts : List (List ℕ)) → length (lines_of_parts ([] ∷ parts)) ≤ 1 + length (lines_of_parts parts)
empty_first [] = omega arith
empty_first (part ∷ parts) = omega arith

pub few_lines : (xs : List ℕ) → length (lines xs) ≤ length xs
few_lines [] = omega arith
few_lines (x ∷ xs) = by_test (x == 10) (few_lines xs)
  where
    by_test : (b : Bool) → length (lines_of_parts (slice_split (λ b. b == 10) xs)) ≤ length xs
        → length (lines_of_parts (cond b ([] ∷ slice_split (λ b. b == 10) xs) (onto_first x (slice_split (λ b. b == 10) xs))))
        ≤ suc (length xs)
    by_test true rest = omega (arith, rest, empty_first (slice_split (λ b. b == 10) xs))
    by_test false rest = omega (arith, rest, longer_first x (slice_split (λ b. b == 10) xs))

-- one more piece at most
at_most_more : (b : Bool) (part : List ℕ) (parts : List (List ℕ)) → length (cond b (part ∷ parts) parts) ≤ 1 + length parts
at_most_more true part parts = omega arith
at_most_more false part parts = omega arith

at_least_more : (b : Bool) (part : List ℕ) (parts : List (List ℕ)) → length parts ≤ length (cond b (part ∷ parts) parts)
at_least_more true part parts = omega arith
at_least_more false part parts = omega arith

filled_first : (x : ℕ) (parts : List (List ℕ)) → length (filter is_filled (onto_first x parts)) ≤ 1 + length (filter is_filled parts)
filled_first x [] = at_most_more (is_filled (x ∷ [])) (x ∷ []) []
filled_first x (part ∷ parts) =
    let more : length (filter is_filled ((x ∷ part) ∷ parts)) ≤ 1 + length (filter is_filled parts) =
    at_most_more (is_filled (x ∷ part)) (x ∷ part) (filter is_filled parts) in
    let less : length (filter is_filled parts) ≤ length (filter is_filled (part ∷ parts)) =
    at_least_more (is_filled part) part (filter is_filled parts) in
    omega (arith, more, less)

-- no more words than bytes
few : (xs : List ℕ) → length (words xs) ≤ length xs
few [] = omega arith
few (x ∷ xs) = by_test (is_word_gap x) (few xs)
  where
    by_test : (b : Bool) → length (filter is_filled (slice_split is_word_gap xs)) ≤ length xs
        → length (filter is_filled (cond b ([] ∷ slice_split is_word_gap xs) (onto_first x (slice_split is_word_gap xs)))) ≤ suc (length xs)
    by_test true rest = omega (arith, rest)
    by_test false rest = omega (arith, rest, filled_first x (slice_split is_word_gap xs))

pub few_words : (xs : List ℕ) → length (words xs) < 1 + length xs
few_words xs = omega (arith, few xs)
