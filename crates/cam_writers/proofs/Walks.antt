-- Walks along lists, the element at which a walk stands, and small facts that writers of both kinds of text use.
use Rattle.std.proofs.Common.{◌≡◌, ℕ, ◌+◌, ◌<◌, ◌≤◌, List, [], ◌∷◌, ◌++◌, length, Bool, true, false, cond, Option, Some, None}
use Rattle.std.proofs.Common.{append-nil, append_assoc, length-append, nat_eq, sum_by, is_some, Result, Ok, sym, subst}
use Rattle.std.proofs.Common.{ap, ◌∙◌, arith, take, get_or, slice_get}
use Rattle.std.specs.Prelude.{OnOk}
use Rattle.std.specs.List.{All, fold}
use Rattle.std.specs.Map.{lookup}
use Rattle.std.proofs.lemmas.Bool.{eqb-true}
use Rattle.std.proofs.lemmas.List.Elements.{All-head, All-tail}
use Rattle.std.proofs.lemmas.List.Sums.{fold_more, sum_by-append, sum_by-cons}
use Rattle.std.proofs.lemmas.Option.{same_Some, slice_get-get_or}
use Rattle.cam_writers.specs.GerberTexts.{is_selected}

-- what holds of a state and of the elements so far, and of the next of each, holds behind all
pub walk : {S A : Type 0} (add : S → A → S) (P : S → List A → Type 0) (all : List A)
    → ((s : S) (front : List A) (a : A) (rest : List A) → front ++ a ∷ rest ≡ all → P s front → P (add s a) (front ++ a ∷ []))
    → (s : S) (front rest : List A) → front ++ rest ≡ all → P s front → P (fold add s rest) all
walk add P all step s front [] e h = subst (P s) (sym (append-nil front) ∙ e) h
walk add P all step s front (a ∷ rest) e h =
    walk add P all step (add s a) (front ++ a ∷ []) rest (append_assoc front (a ∷ []) rest ∙ e) (step s front a rest e h)

-- what each step keeps
pub kept_by : {S A : Type 0} (add : S → A → S) (P : S → Type 0) (Q : A → Type 0) → ((s : S) (a : A) → Q a → P s → P (add s a))
    → (s : S) (all : List A) → All Q all → P s → P (fold add s all)
kept_by add P Q step s [] each h = h
kept_by add P Q step s (a ∷ all) each h =
    kept_by add P Q step (add s a) all (All-tail Q a all each) (step s a (All-head Q a all each) h)

-- a state or another
pub either : {S : Type 0} (P : S → Type 0) (b : Bool) (s t : S) → (b ≡ true → P s) → (b ≡ false → P t) → P (cond b s t)
either P b s t first second = grind arith

-- ---- the element at which a walk stands

pub at_seam : {A : Type 0} (P : A → Type 0) (front : List A) (a : A) (rest : List A) → All P (front ++ a ∷ rest) → P a
at_seam P [] a rest h = All-head P a rest h
at_seam P (x ∷ front) a rest h = at_seam P front a rest (All-tail P x (front ++ a ∷ rest) h)

pub sound_at : {A : Type 0} (P : A → Type 0) (all front : List A) (a : A) (rest : List A) → front ++ a ∷ rest ≡ all → All P all → P a
sound_at P all front a rest e h = at_seam P front a rest (subst (All P) (sym e) h)

pub fewer : {A : Type 0} (all front : List A) (a : A) (rest : List A) → front ++ a ∷ rest ≡ all
    → length front < length all
fewer all front a rest e = omega (arith, ap length e, length-append front (a ∷ rest))

-- their sum and that of the one do not pass the sum of all
pub lighter : {A : Type 0} (f : A → ℕ) (all front : List A) (a : A) (rest : List A) → front ++ a ∷ rest ≡ all
    → sum_by f front + f a ≤ sum_by f all
lighter f all front a rest e = grind (arith, sum_by-append, sum_by-cons)

pub is_at : {A : Type 0} (all : List A) (place : ℕ) (a : A) → place < length all → slice_get all place ≡ Some a → get_or all place a ≡ a
is_at all place a below is = same_Some (get_or all place a) a (sym (slice_get-get_or all place a below) ∙ is)

-- the place of a loop is one more
pub one_more : {S A : Type 0} (add : S → A → S) (s : S) (all : List A) (place : ℕ) (a : A) → place < length all
    → slice_get all place ≡ Some a → fold add s (take (place + 1) all) ≡ add (fold add s (take place all)) a
one_more add s all place a below is =
    fold_more add s all place a below
    ∙ ap (add (fold add s (take place all))) (is_at all place a below is)

pub never_past : {A : Type 0} (all : List A) (place : ℕ) (a : A) → place < length all → slice_get all place ≡ None → ⊥
never_past all place a below none = let some = slice_get-get_or all place a below in cc

pub sound_in : {A : Type 0} (P : A → Type 0) (all listed : List A) (place : ℕ) (a : A) → All P listed → all ≡ listed → place < length all
    → a ≡ get_or all place a → P a
sound_in P all listed place a sound same below is = subst P (sym is) (subst (All P) (sym same) sound place a below)

-- ---- numbers

-- what holds of each number of a table holds of a number that is in it
pub by_number : {X : Type 0} (P : ℕ → Type 0) (n : ℕ) (table : List (ℕ × X)) → All (λ (e : ℕ × X). P e.0) table
    → is_some (lookup (nat_eq n) table) ≡ true → P n
by_number P n [] each known = absurd cc
by_number {X} P n (e ∷ table) each known =
    grind (arith, All-tail, eqb-true, All-head, by_number P n table (All-tail (λ (e : ℕ × X). P e.0) e table each))

pub same_number : (old : Option ℕ) (n : ℕ) → is_selected old n ≡ true → old ≡ Some n
same_number old n h = grind (arith, eqb-true)

-- ---- results

-- what holds where a call succeeds
pub on_ok : {A E : Type 0} {P Q : Type 0} (r : Result A E) → (P → Q) → OnOk r P → OnOk r Q
on_ok r f h = grind arith

pub same_answer : {A E : Type 0} (a b : A) {r : Result A E} → r ≡ Ok a → r ≡ Ok b → a ≡ b
same_answer a b e f = cc
