-- Lists whose elements all pass or all fail a test, and what stands before the first of a value.
use Rattle.std.proofs.Common.{◌≡◌, ◌≢◌, ℕ, zero, suc, ◌+◌, ◌-◌, ◌<◌, ◌≤◌, List, [], ◌∷◌, ◌++◌, length, drop, get_or}
use Rattle.std.proofs.Common.{reverse, Bool, true, false, cond, eqb, refl, sym, ap, ◌∙◌, arith}
use Rattle.std.proofs.Common.{eq-eqb, ne_eqb, length-take, length-drop, length-append}
use Rattle.std.specs.Prelude.{not, ◌||◌}
use Rattle.std.specs.List.{position_or_len, suffix_len, list_any, before_first, AllByRecursion}
use Rattle.std.proofs.lemmas.List.{take_all, get_or-drop, get_or-reverse, get_or_at, get_or-append-add}
use Rattle.std.proofs.lemmas.List.Sums.{take_while-cons, split_at_first, passes_at_first, prefix_len-le-length}
use Rattle.std.proofs.lemmas.List.Sums.{prefix_len_passes, suffix_len_is, suffix_len-le-length}
use Rattle.std.proofs.lemmas.Bool.{eqb-true}
use Rattle.cam_words.specs.Laws.{IsBefore}

abbrev pub AllFail : (ℕ → Bool) → List ℕ → Type 0
AllFail test xs = AllByRecursion (λ x. test x ≡ false) xs

pub all_map : (P Q : ℕ → Type 0) → ((x : ℕ) → P x → Q x) → (xs : List ℕ) → AllByRecursion P xs → AllByRecursion Q xs
all_map P Q gives [] all = tt
all_map P Q gives (x ∷ xs) all = (gives x all.0, all_map P Q gives xs all.1)

pub all_both : (P Q : ℕ → Type 0) (xs : List ℕ) → AllByRecursion P xs → AllByRecursion Q xs
    → AllByRecursion (λ x. P x × Q x) xs
all_both P Q [] one other = tt
all_both P Q (x ∷ xs) one other = ((one.0, other.0), all_both P Q xs one.1 other.1)

pub all-append : (P : ℕ → Type 0) (xs ys : List ℕ) → AllByRecursion P xs → AllByRecursion P ys
    → AllByRecursion P (xs ++ ys)
all-append P [] ys one other = other
all-append P (x ∷ xs) ys one other = (one.0, all-append P xs ys one.1 other)

pub all_front : (P : ℕ → Type 0) (xs ys : List ℕ) → AllByRecursion P (xs ++ ys) → AllByRecursion P xs
all_front P [] ys all = tt
all_front P (x ∷ xs) ys all = (all.0, all_front P xs ys all.1)

all_by_index : (P : ℕ → Type 0) (xs : List ℕ) → ((k : ℕ) → k < length xs → P (get_or xs k 0)) → AllByRecursion P xs
all_by_index P [] each = tt
all_by_index P (x ∷ xs) each = (each 0 (omega arith), all_by_index P xs (λ k below. each (suc k) (omega arith)))

at_index : (P : ℕ → Type 0) (xs : List ℕ) → AllByRecursion P xs → (k : ℕ) → k < length xs → P (get_or xs k 0)
at_index P [] all k below = absurd (omega arith)
at_index P (x ∷ xs) all zero below = all.0
at_index P (x ∷ xs) all (suc k) below = at_index P xs all.1 k (omega arith)

-- whether one passes
pub list_any-fails : (test : ℕ → Bool) (xs : List ℕ) → AllFail test xs → list_any test xs ≡ false
list_any-fails test [] all = refl
list_any-fails test (x ∷ xs) all = rw (all.0, list_any-fails test xs all.1) refl

either_fails : (a b : Bool) → (a || b) ≡ false → (a ≡ false) × (b ≡ false)
either_fails a b e = grind arith

pub all_fail : (test : ℕ → Bool) (xs : List ℕ) → list_any test xs ≡ false → AllFail test xs
all_fail test [] e = tt
all_fail test (x ∷ xs) e = let both = either_fails (test x) (list_any test xs) e in (both.0, all_fail test xs both.1)

-- what stands before the first that passes
pub before_first-cons : (test : ℕ → Bool) (x : ℕ) (xs : List ℕ)
    → before_first test (x ∷ xs) ≡ cond (not (test x)) (x ∷ before_first test xs) []
before_first-cons test x xs = take_while-cons (λ y. not (test y)) x xs

pub before_first-at : (test : ℕ → Bool) (xs : List ℕ) (y : ℕ) (ys : List ℕ) → AllFail test xs → test y ≡ true
    → before_first test (xs ++ y ∷ ys) ≡ xs
before_first-at test [] y ys all e = before_first-cons test y ys ∙ rw e refl
before_first-at test (x ∷ xs) y ys all e = grind (arith, before_first-cons, before_first-at test xs y ys all.1 e)

pub before_first-all : (test : ℕ → Bool) (xs : List ℕ) → AllFail test xs → before_first test xs ≡ xs
before_first-all test [] all = refl
before_first-all test (x ∷ xs) all = grind (arith, before_first-cons, before_first-all test xs all.1)

pub before_first_fails : (test : ℕ → Bool) (xs : List ℕ) → AllFail test (before_first test xs)
before_first_fails test [] = tt
before_first_fails test (x ∷ xs) =
    rw (before_first-cons test x xs)
    ((elim (test x) as (λ b. test x ≡ b → AllFail test (cond (not b) (x ∷ before_first test xs) []))
    [ true ↦ λ e. tt | false ↦ λ e. (e, before_first_fails test xs) ]) refl)

pub length-before_first : (test : ℕ → Bool) (xs : List ℕ) → length (before_first test xs) ≡ position_or_len test xs
length-before_first test xs = grind (arith, length-take, prefix_len-le-length)

pub before_first_whole : (test : ℕ → Bool) (xs : List ℕ) → length (before_first test xs) ≡ length xs
    → before_first test xs ≡ xs
before_first_whole test xs e = take_all (position_or_len test xs) xs (omega (arith, length-before_first test xs))

pub before_first-split : (test : ℕ → Bool) (xs : List ℕ) → length (before_first test xs) ≢ length xs
    → (y : ℕ) × (ys : List ℕ) × (test y ≡ true) × (xs ≡ before_first test xs ++ y ∷ ys)
before_first-split test xs shorter =
    let below : position_or_len test xs < length xs =
    omega (arith, length-before_first test xs, prefix_len-le-length (λ x. not (test x)) xs) in
    (get_or xs (position_or_len test xs) 0, _, passes_at_first test xs 0 below, split_at_first test xs 0 below)

-- the same of a value
abbrev pub is_value : ℕ → ℕ → Bool
is_value end x = eqb x end

pub differs : (end x : ℕ) → x ≢ end → is_value end x ≡ false
differs end x other = ne_eqb x end other

pub no_value : (end x : ℕ) → is_value end x ≡ false → x ≢ end
no_value end x e same = let yes : eqb x end ≡ true = eq-eqb x end same in absurd cc

pub IsBefore-before_first : (end : ℕ) (text : List ℕ) → IsBefore end (before_first (is_value end) text) text
IsBefore-before_first end text =
    grind (arith, all_map, no_value, before_first_fails, before_first_whole, eqb-true, before_first-split)

pub before_first-IsBefore : (end : ℕ) (front text : List ℕ) → IsBefore end front text
    → before_first (is_value end) text ≡ front
before_first-IsBefore end front text is = grind (arith, all_map, differs, before_first-all, before_first-at, eq-eqb)

-- what passes at the end
pub suffix_passes : (test : ℕ → Bool) (xs : List ℕ)
    → AllByRecursion (λ x. test x ≡ true) (drop (length xs - suffix_len test xs) xs)
suffix_passes test xs = all_by_index _ _ each
  where
    each : (k : ℕ) → k < length (drop (length xs - suffix_len test xs) xs)
        → test (get_or (drop (length xs - suffix_len test xs) xs) k 0) ≡ true
    each k below =
        let n : ℕ = suffix_len test xs in
        let short = suffix_len-le-length test xs in
        let within : k < length xs - (length xs - n) = omega (arith, length-drop (length xs - n) xs) in
        let passes = prefix_len_passes test (reverse xs) (n - 1 - k) 0 (omega arith) in
        let place : length xs - 1 - (n - 1 - k) ≡ length xs - n + k = omega arith in
        let turned = get_or-reverse xs (n - 1 - k) 0 (omega arith) in
        ap test (get_or-drop (length xs - n) xs k 0 ∙ ap (λ (i : ℕ). get_or xs i 0) (sym place) ∙ sym turned) ∙ passes

pub suffix_len-at : (test : ℕ → Bool) (xs : List ℕ) (y : ℕ) (ys : List ℕ) → AllByRecursion (λ x. test x ≡ true) ys
    → test y ≡ false → suffix_len test (xs ++ y ∷ ys) ≡ length ys
suffix_len-at test xs y ys all e =
    let long = length-append xs (y ∷ ys) in
    let is = suffix_len_is test (xs ++ y ∷ ys) (length xs + 1) 0 (omega arith) behind (λ _. last) in omega arith
  where
    last : test (get_or (xs ++ y ∷ ys) (length xs + 1 - 1) 0) ≡ false
    last = let n : length xs ≡ length xs + 1 - 1 = omega arith in ap test (get_or_at xs y ys 0 (length xs + 1 - 1) n)
        ∙ e

    behind : (k : ℕ) → length xs + 1 ≤ k → k < length (xs ++ y ∷ ys) → test (get_or (xs ++ y ∷ ys) k 0) ≡ true
    behind k from below =
        let place : k ≡ length xs + suc (k - length xs - 1) = omega arith in
        let here : get_or (xs ++ y ∷ ys) k 0 ≡ get_or ys (k - length xs - 1) 0 =
        ap (λ (i : ℕ). get_or (xs ++ y ∷ ys) i 0) place ∙ get_or-append-add xs (y ∷ ys) (suc (k - length xs - 1)) 0 in
        ap test here ∙ at_index _ ys all (k - length xs - 1) (omega (arith, length-append xs (y ∷ ys)))
