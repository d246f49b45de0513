-- Decimals by what stands before and behind their point.
use Rattle.std.proofs.Common.{◌≡◌, ℕ, suc, ◌+◌, ◌-◌, ◌*◌, ◌<◌, ◌≤◌, List, [], ◌∷◌, length, take, drop, true, false}
use Rattle.std.proofs.Common.{refl, sym, ap, ◌∙◌, arith, None, Some, Option, cond, eq-eqb, ne_eqb}
use Rattle.std.specs.Prelude.{◌||◌, ◌&&◌, ◌==◌, not, nat_le}
use Rattle.std.specs.List.{position_or_len, before_first, after_first}
use Rattle.std.proofs.lemmas.Bool.{le-leb, lt-leb}
use Rattle.std.proofs.lemmas.Bool.Decides.{nat_tests}
use Rattle.std.proofs.lemmas.List.{take_all, take_rest, drop_all}
use Rattle.cam_numbers.specs.declared.blanks.Blanks.{Blanks}
use Rattle.cam_numbers.specs.declared.blanks.Blanks.TheVariants.{Refused, Skipped}
use Rattle.cam_numbers.specs.declared.whole.Digits.{Digits}
use Rattle.cam_numbers.specs.declared.decimals.Decimals.{Decimals}
use Rattle.cam_numbers.specs.Blanks.{is_blank_byte, without_blanks}
use Rattle.cam_numbers.specs.Numbers.{is_point, unsigned_decimal, are_digits, value_of, billionths}
use Rattle.cam_numbers.specs.Machinery.Counting.{digits_of, decimals_of}
use Rattle.cam_numbers.proofs.Counting.{said, not_said, told, not_told}

one_more : (n : ℕ) → 1 + n ≡ suc n
one_more n = omega arith

more_one : (n : ℕ) → suc n + 1 ≡ suc (n + 1)
more_one n = omega arith

unpointed : (byte : ℕ) → is_blank_byte byte ≡ true → is_point byte ≡ false
unpointed byte e = grind (arith, nat_tests)

skipped_before : (run : List ℕ) → without_blanks Skipped (take (position_or_len is_point run) run) ≡ before_first is_point (without_blanks Skipped run)
skipped_before [] = refl
skipped_before (byte ∷ run) =
    (elim (is_blank_byte byte) as (λ s. is_blank_byte byte ≡ s → without_blanks Skipped (take (position_or_len is_point (byte ∷ run)) (byte ∷ run))
    ≡ before_first is_point (without_blanks Skipped (byte ∷ run))) [
      | true ↦ λ e. rw (unpointed byte e, one_more (position_or_len is_point run), e) (skipped_before run)
      | false ↦ λ e.
          (elim (is_point byte) as (λ p. is_point byte ≡ p → without_blanks Skipped (take (position_or_len is_point (byte ∷ run)) (byte ∷ run))
          ≡ before_first is_point (without_blanks Skipped (byte ∷ run))) [
            | true ↦ λ p. rw (p, e, p) refl
            | false ↦ λ p. rw (p, one_more (position_or_len is_point run), e, p, one_more (position_or_len is_point (without_blanks Skipped run)))
                (ap (λ rest. byte ∷ rest) (skipped_before run))
          ]) refl
    ]) refl

skipped_after : (run : List ℕ) → without_blanks Skipped (drop (position_or_len is_point run + 1) run) ≡ after_first is_point (without_blanks Skipped run)
skipped_after [] = refl
skipped_after (byte ∷ run) =
    (elim (is_blank_byte byte) as (λ s. is_blank_byte byte ≡ s → without_blanks Skipped (drop (position_or_len is_point (byte ∷ run) + 1) (byte ∷ run))
    ≡ after_first is_point (without_blanks Skipped (byte ∷ run))) [
      | true ↦ λ e. rw (unpointed byte e, one_more (position_or_len is_point run), more_one (position_or_len is_point run), e)
          (skipped_after run)
      | false ↦ λ e.
          (elim (is_point byte) as (λ p. is_point byte ≡ p → without_blanks Skipped (drop (position_or_len is_point (byte ∷ run) + 1) (byte ∷ run))
          ≡ after_first is_point (without_blanks Skipped (byte ∷ run))) [
            | true ↦ λ p. rw (p, e, p) refl
            | false ↦ λ p.
                rw (
                  p,
                  one_more (position_or_len is_point run),
                  more_one (position_or_len is_point run),
                  e,
                  p,
                  one_more (position_or_len is_point (without_blanks Skipped run)),
                  more_one (position_or_len is_point (without_blanks Skipped run)),
                )
                (skipped_after run)
          ]) refl
    ]) refl

kept_before : (blanks : Blanks) (run : List ℕ) → without_blanks blanks (take (position_or_len is_point run) run)
    ≡ before_first is_point (without_blanks blanks run)
kept_before Refused run = refl
kept_before Skipped run = skipped_before run

kept_after : (blanks : Blanks) (run : List ℕ) → without_blanks blanks (drop (position_or_len is_point run + 1) run)
    ≡ after_first is_point (without_blanks blanks run)
kept_after Refused run = refl
kept_after Skipped run = skipped_after run

-- a run and the place of its point
module _ (blanks : Blanks) (run : List ℕ) (n : ℕ) (is : n ≡ position_or_len is_point run) where
  pub part_before : without_blanks blanks (take n run) ≡ before_first is_point (without_blanks blanks run)
  part_before = ap (λ (k : ℕ). without_blanks blanks (take k run)) is ∙ kept_before blanks run

  part_from : without_blanks blanks (drop (n + 1) run) ≡ after_first is_point (without_blanks blanks run)
  part_from = ap (λ (k : ℕ). without_blanks blanks (drop (k + 1) run)) is ∙ kept_after blanks run

  pub part_after : without_blanks blanks (take (length run - (n + 1)) (drop (n + 1) run)) ≡ after_first is_point (without_blanks blanks run)
  part_after = ap (without_blanks blanks) (take_rest run (n + 1)) ∙ part_from

  -- without a point
  pub whole_before : n ≡ length run → without_blanks blanks run ≡ before_first is_point (without_blanks blanks run)
  whole_before all = ap (without_blanks blanks) (sym (take_all n run (omega (arith, all)))) ∙ part_before

  pub nothing_after : n ≡ length run → without_blanks blanks [] ≡ after_first is_point (without_blanks blanks run)
  nothing_after all = ap (without_blanks blanks) (sym (drop_all (n + 1) run (omega (arith, all)))) ∙ part_from

-- a decimal of these two parts
abbrev pub made_of : List ℕ → List ℕ → Option ℕ
made_of whole decimals =
    cond (not (are_digits whole && are_digits decimals) || (length whole + length decimals == 0) || nat_le 1000000 (value_of whole)) None
    (Some (value_of whole * 1000000000 + billionths decimals))

pub is_made : (run : List ℕ) → unsigned_decimal run ≡ made_of (before_first is_point run) (after_first is_point run)
unfolding unsigned_decimal
is_made run = refl

no_whole : (w d : List ℕ) → are_digits w ≡ false → None ≡ made_of w d
no_whole w d e = rw e refl

no_decimals : (w d : List ℕ) → are_digits w ≡ true → are_digits d ≡ false → None ≡ made_of w d
no_decimals w d e f = rw (e, f) refl

no_digit : (w d : List ℕ) → are_digits w ≡ true → are_digits d ≡ true → length w + length d ≡ 0 → None ≡ made_of w d
no_digit w d e f none = rw (e, f, eq-eqb (length w + length d) 0 none) refl

too_much : (w d : List ℕ) → are_digits w ≡ true → are_digits d ≡ true → 1000000 ≤ value_of w → None ≡ made_of w d
too_much w d e f much = grind (arith, le-leb)

pub just_right : (w d : List ℕ) → are_digits w ≡ true → are_digits d ≡ true → (length w + length d ≡ 0 → ⊥) → value_of w < 1000000
    → Some (value_of w * 1000000000 + billionths d) ≡ made_of w d
just_right w d e f some low = rw (e, f, ne_eqb (length w + length d) 0 some, lt-leb 1000000 (value_of w) low) refl

pub decimal_without_whole : (run w : List ℕ) → w ≡ before_first is_point run → None ≡ digits_of w → None ≡ unsigned_decimal run
decimal_without_whole run w is e = grind (arith, no_whole, not_said, is_made)

-- the parts of a run
pub record Parted (run w d : List ℕ) : Type 0 where
  pub whole : w ≡ before_first is_point run
  pub decimals : d ≡ after_first is_point run

parted : (run w d : List ℕ) → Parted run w d → made_of w d ≡ unsigned_decimal run
parted run w d p = grind (arith, is_made)

pub decimal_without_decimals : (run w d : List ℕ) (n : Digits) → Parted run w d → Some n ≡ digits_of w → None ≡ decimals_of d
    → None ≡ unsigned_decimal run
decimal_without_decimals run w d n p e f = no_decimals w d (said w n e).digits (not_told d f) ∙ parted run w d p

pub decimal_without_digit : (run w d : List ℕ) (n : Digits) (m : Decimals) → Parted run w d → Some n ≡ digits_of w
    → Some m ≡ decimals_of d → n.count ≡ 0 → m.count ≡ 0 → None ≡ unsigned_decimal run
decimal_without_digit run w d n m p e f z y =
    let s = said w n e in
    let t = told d m f in
    no_digit w d s.digits t.digits (omega (arith, s.counts, t.counts, z, y)) ∙ parted run w d p

pub decimal_too_much : (run w d : List ℕ) (n : Digits) (m : Decimals) → Parted run w d → Some n ≡ digits_of w → Some m ≡ decimals_of d
    → 1000000 ≤ n.value → None ≡ unsigned_decimal run
decimal_too_much run w d n m p e f much =
    let s = said w n e in
    let t = told d m f in
    too_much w d s.digits t.digits (omega (arith, s.values, much)) ∙ parted run w d p

pub decimal_of_parts : (run w d : List ℕ) (n : Digits) (m : Decimals) → Parted run w d → Some n ≡ digits_of w → Some m ≡ decimals_of d
    → (n.count + m.count ≡ 0 → ⊥) → n.value < 1000000 → Some (n.value * 1000000000 + m.value) ≡ unsigned_decimal run
decimal_of_parts run w d n m p e f some low =
    let s = said w n e in
    let t = told d m f in
    let is : n.value ≡ value_of w = omega (arith, s.values, low) in
    ap (λ (v : ℕ). Some (v * 1000000000 + m.value)) is ∙ ap (λ (v : ℕ). Some (value_of w * 1000000000 + v)) t.values
    ∙ just_right w d s.digits t.digits (λ z. some (omega (arith, s.counts, t.counts, z))) (omega (arith, is, low)) ∙ parted run w d p
