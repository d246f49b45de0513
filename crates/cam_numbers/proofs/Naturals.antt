-- Naturals by their digits.
use Rattle.std.proofs.Common.{◌≡◌, ℕ, ◌^◌, ◌<◌, ◌≤◌, min, List, length, Bool, true, false, refl, sym, ap, ◌∙◌, arith}
use Rattle.std.proofs.Common.{None, Some, Option, eq-eqb, ne_eqb, cond}
use Rattle.std.specs.Prelude.{option_map, nat_lt}
use Rattle.std.proofs.lemmas.Bool.{le-ltb, lt-ltb}
use Rattle.std.proofs.Math.Nat.{pow-le-pow_right}
use Rattle.cam_numbers.specs.declared.whole.Digits.{Digits}
use Rattle.cam_numbers.specs.Numbers.{value_limit, natural, natural_within, value_of, are_digits}
use Rattle.cam_numbers.specs.Machinery.Counting.{digits_of}
use Rattle.cam_numbers.proofs.Counting.{Said, said, not_said, short_value}

natural-other : (run : List ℕ) → are_digits run ≡ false → natural run ≡ None
unfolding natural
natural-other run e = grind arith

natural-empty : (run : List ℕ) → length run ≡ 0 → natural run ≡ None
unfolding natural
natural-empty run e = rw (eq-eqb (length run) 0 e) refl

pub natural-digits : (run : List ℕ) → are_digits run ≡ true → (length run ≡ 0 → ⊥) → natural run ≡ Some (value_of run)
unfolding natural
natural-digits run e some = rw (ne_eqb (length run) 0 some, e) refl

abbrev capped_natural : List ℕ → Option ℕ
capped_natural run = option_map (min value_limit) (natural run)

pub natural_of_none : (run : List ℕ) → None ≡ digits_of run → None ≡ capped_natural run
natural_of_none run e = sym (ap (option_map (min value_limit)) (natural-other run (not_said run e)))

pub natural_of_empty : (run : List ℕ) (d : Digits) → Some d ≡ digits_of run → d.count ≡ 0 → None ≡ capped_natural run
natural_of_empty run d e none = let s = said run d e in sym (ap (option_map (min value_limit)) (natural-empty run (sym s.counts ∙ none)))

pub natural_of_digits : (run : List ℕ) (d : Digits) → Some d ≡ digits_of run → (d.count ≡ 0 → ⊥) → Some d.value ≡ capped_natural run
natural_of_digits run d e some = grind (arith, said, natural-digits)

pub within : (most : ℕ) (run : List ℕ) → length run ≤ most → natural_within most run ≡ natural run
unfolding natural_within
within most run le = rw (le-ltb most (length run) le) refl

same_none : (b : Bool) (o : Option ℕ) → o ≡ None → ◌≡◌ {A = Option ℕ} None (cond b None o)
same_none true o e = refl
same_none false o e = sym e

pub within_of_none : (most : ℕ) (run : List ℕ) → None ≡ digits_of run → None ≡ natural_within most run
unfolding natural_within
within_of_none most run e = same_none (nat_lt most (length run)) (natural run) (natural-other run (not_said run e))

pub within_of_empty : (most : ℕ) (run : List ℕ) (d : Digits) → Some d ≡ digits_of run → d.count ≡ 0 → None ≡ natural_within most run
unfolding natural_within
within_of_empty most run d e none = grind (arith, said, same_none, natural-empty)

pub within_of_long : (most : ℕ) (run : List ℕ) (d : Digits) → Some d ≡ digits_of run → most < d.count → None ≡ natural_within most run
unfolding natural_within
within_of_long most run d e long = let s = said run d e in rw (lt-ltb most (length run) (omega (arith, s.counts))) refl

short_enough : (most : ℕ) (run : List ℕ) (d : Digits) → Said run d.count d.value → d.count ≤ most → most ≤ 15 → value_of run < 10 ^ most
short_enough most run d s le few = short_value run most s.digits (omega (arith, s.counts))

whole_value : (most : ℕ) (run : List ℕ) (d : Digits) → Said run d.count d.value → d.count ≤ most → most ≤ 15 → d.value ≡ value_of run
whole_value most run d s le few =
    let low = short_enough most run d s le few in
    grind (arith, pow-le-pow_right)

pub within_of_digits : (most : ℕ) (run : List ℕ) (d : Digits) → Some d ≡ digits_of run → (d.count ≡ 0 → ⊥) → d.count ≤ most → most ≤ 15
    → Some d.value ≡ natural_within most run
within_of_digits most run d e some le few =
    let s = said run d e in
    ap (λ (v : ℕ). Some v) (whole_value most run d s le few)
    ∙ sym (within most run (omega (arith, s.counts)) ∙ natural-digits run s.digits (λ n. some (s.counts ∙ n)))

pub within_is_below : (most : ℕ) (run : List ℕ) (d : Digits) → Some d ≡ digits_of run → d.count ≤ most → most ≤ 15 → d.value < 10 ^ most
within_is_below most run d e le few =
    let s = said run d e in let low = short_enough most run d s le few in let is = whole_value most run d s le few in omega (arith, low, is)
