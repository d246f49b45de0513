-- Numbers that are written, and what a number that is read was written as.
use Rattle.std.proofs.Common.{◌≡◌, ℕ, suc, ◌+◌, ◌*◌, ◌<◌, List, [], ◌∷◌, ◌++◌, length, Bool, true, false, None, Some}
use Rattle.std.proofs.Common.{cond, refl, ap, subst, ◌⊎◌, inl, arith}
use Rattle.std.specs.Prelude.{◌||◌, ◌&&◌, not}
use Rattle.std.specs.List.{position_or_len, before_first, after_first}
use Rattle.std.specs.Char.{is_ascii_digit}
use Rattle.std.proofs.lemmas.Bool.{eqb-true, eqb-false, leb-false, ne_eqb}
use Rattle.cam_numbers.specs.Numbers.{is_point, are_digits, value_of, natural, billionths, unsigned_decimal}
use Rattle.cam_numbers.proofs.Fractions.{made_of, is_made, just_right}

one_more : (n : ℕ) → 1 + n ≡ suc n
one_more n = omega arith

more_one : (n : ℕ) → suc n + 1 ≡ suc (n + 1)
more_one n = omega arith

both : (a b : Bool) → (a && b) ≡ true → (a ≡ true) × (b ≡ true)
both true b h = (refl, h)
both false b h = absurd cc

no_point : (byte : ℕ) → is_ascii_digit byte ≡ true → is_point byte ≡ false
no_point byte h = ne_eqb byte 46 (λ e. let wrong : false ≡ true = subst (λ c. is_ascii_digit c ≡ true) e h in cc)

before_point : (whole rest : List ℕ) → are_digits whole ≡ true → before_first is_point (whole ++ 46 ∷ rest) ≡ whole
before_point [] rest h = refl
before_point (d ∷ whole) rest h =
    let k = both (is_ascii_digit d) (are_digits whole) h in
    rw (no_point d k.0, one_more (position_or_len is_point (whole ++ 46 ∷ rest))) (ap (λ l. d ∷ l) (before_point whole rest k.1))

behind_point : (whole rest : List ℕ) → are_digits whole ≡ true → after_first is_point (whole ++ 46 ∷ rest) ≡ rest
behind_point [] rest h = refl
behind_point (d ∷ whole) rest h =
    let k = both (is_ascii_digit d) (are_digits whole) h in
    rw (no_point d k.0, one_more (position_or_len is_point (whole ++ 46 ∷ rest)), more_one (position_or_len is_point (whole ++ 46 ∷ rest)))
    (behind_point whole rest k.1)

before_none : (whole : List ℕ) → are_digits whole ≡ true → before_first is_point whole ≡ whole
before_none [] h = refl
before_none (d ∷ whole) h =
    let k = both (is_ascii_digit d) (are_digits whole) h in
    rw (no_point d k.0, one_more (position_or_len is_point whole)) (ap (λ l. d ∷ l) (before_none whole k.1))

behind_none : (whole : List ℕ) → are_digits whole ≡ true → after_first is_point whole ≡ []
behind_none [] h = refl
behind_none (d ∷ whole) h =
    let k = both (is_ascii_digit d) (are_digits whole) h in
    rw (no_point d k.0, one_more (position_or_len is_point whole), more_one (position_or_len is_point whole)) (behind_none whole k.1)

-- digits before and behind a point, at least one, and less than a million
pub record AreParts (whole decimals : List ℕ) : Type 0 where
  pub before : are_digits whole ≡ true
  pub behind : are_digits decimals ≡ true
  pub some : 0 < length whole + length decimals
  pub small : value_of whole < 1000000

abbrev pub number_of : List ℕ → List ℕ → ℕ
number_of whole decimals = value_of whole * 1000000000 + billionths decimals

made : (whole decimals : List ℕ) → AreParts whole decimals → made_of whole decimals ≡ Some (number_of whole decimals)
made whole decimals h = grind (arith, just_right)

pub read_pointed : (whole decimals : List ℕ) → AreParts whole decimals
    → unsigned_decimal (whole ++ 46 ∷ decimals) ≡ Some (number_of whole decimals)
read_pointed whole decimals h = grind (arith, is_made, made_of, before_point, behind_point, made)

pub read_whole : (whole : List ℕ) → AreParts whole [] → unsigned_decimal whole ≡ Some (number_of whole [])
read_whole whole h = grind (arith, is_made, made_of, before_none, behind_none, made)

-- the parts of a run, with a point between them or none
pub record IsWritten (run whole decimals : List ℕ) : Type 0 where
  pub parts : (decimals ≡ [] × run ≡ whole) ⊎ (run ≡ whole ++ 46 ∷ decimals)

split : (run : List ℕ) → IsWritten run (before_first is_point run) (after_first is_point run)
split [] = record { parts = inl (refl, refl) }
split (byte ∷ run) = grind (arith, eqb-true, one_more, more_one, split run)

record IsChosen {A : Type 0} (a b c d : Bool) (x v : A) : Type 0 where
  pub first : a ≡ true
  pub second : b ≡ true
  pub third : c ≡ false
  pub fourth : d ≡ false
  pub value : x ≡ v

chosen : {A : Type 0} (a b c d : Bool) (x v : A) → cond (not (a && b) || c || d) None (Some x) ≡ Some v → IsChosen a b c d x v
chosen true true false false x v e = record { first = refl; second = refl; third = refl; fourth = refl; value = cc }
chosen false b c d x v e = cc
chosen true false c d x v e = cc
chosen true true true d x v e = cc
chosen true true false true x v e = cc

-- what a number that is read was written as
pub record IsRead (run : List ℕ) (n : ℕ) : Type 0 where
  pub whole : List ℕ
  pub decimals : List ℕ
  pub written : IsWritten run whole decimals
  pub parts : AreParts whole decimals
  pub value : number_of whole decimals ≡ n

pub was_written : (run : List ℕ) (n : ℕ) → unsigned_decimal run ≡ Some n → IsRead run n
was_written run n e = grind (arith, chosen, is_made, eqb-false, split, leb-false)

-- digits, at least one
pub record IsNatural (run : List ℕ) (n : ℕ) : Type 0 where
  pub digits : are_digits run ≡ true
  pub some : length run ≡ 0 → ⊥
  pub value : value_of run ≡ n

pub natural_found : (run : List ℕ) (n : ℕ) → natural run ≡ Some n → IsNatural run n
unfolding natural
natural_found run n e = grind (arith, eqb-false)

-- what has a value above 0 has a digit
pub some_digits : (run : List ℕ) → 0 < value_of run → length run ≡ 0 → ⊥
unfolding value_of
some_digits [] h none = absurd (omega (arith, h))
some_digits (d ∷ run) h none = absurd (omega (arith, none))
