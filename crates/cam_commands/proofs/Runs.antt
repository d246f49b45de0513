-- Runs of digits, signs and points among skipped bytes, and the fields that they make.
use Rattle.std.proofs.Common.{◌≡◌, ◌≢◌, ℕ, suc, ◌+◌, ◌-◌, List, [], ◌∷◌, length, take, drop, Bool, true, false, None}
use Rattle.std.proofs.Common.{Some, refl, ap, ◌∙◌, arith, eq-eqb, ne_eqb}
use Rattle.std.specs.Prelude.{◌||◌}
use Rattle.std.proofs.lemmas.Bool.{or_left, or_right, or_from}
use Rattle.std.proofs.lemmas.List.{take_rest}
use Rattle.std.specs.List.{prefix_len}
use Rattle.cam_words.specs.Bytes.{is_skipped}
use Rattle.cam_words.specs.Heads.{packed}
use Rattle.cam_numbers.specs.Numbers.{run_of, behind_run, is_numeric}
use Rattle.cam_commands.specs.Fields.{field}

abbrev in_run : ℕ → Bool
in_run byte = is_numeric byte || is_skipped byte

one_more : (n : ℕ) → 1 + n ≡ suc n
one_more n = omega arith

pub packed_run : (text : List ℕ) → packed (take (prefix_len in_run text) text) ≡ run_of (packed text)
packed_run [] = refl
packed_run (byte ∷ text) =
    (elim (is_skipped byte)
    as (λ s. is_skipped byte ≡ s → packed (take (prefix_len in_run (byte ∷ text)) (byte ∷ text)) ≡ run_of (packed (byte ∷ text))) [
      | true ↦ λ e.
          let r : (is_numeric byte || is_skipped byte) ≡ true = or_right (is_numeric byte) (is_skipped byte) e in
          rw (r, one_more (prefix_len in_run text), e) (packed_run text)
      | false ↦ λ e.
          (elim (is_numeric byte)
          as (λ n. is_numeric byte ≡ n → packed (take (prefix_len in_run (byte ∷ text)) (byte ∷ text))
          ≡ run_of (packed (byte ∷ text))) [
            | true ↦ λ n.
                let r : (is_numeric byte || is_skipped byte) ≡ true = or_left (is_numeric byte) (is_skipped byte) n in
                rw (r, one_more (prefix_len in_run text), e, n, one_more (prefix_len is_numeric (packed text)))
                (ap (λ rest. byte ∷ rest) (packed_run text))
            | false ↦ λ n.
                let r : (is_numeric byte || is_skipped byte) ≡ false = or_from (is_numeric byte) (is_skipped byte) n e in
                rw (r, e, n) refl
          ]) refl
    ]) refl

pub packed_behind_run : (text : List ℕ) → packed (drop (prefix_len in_run text) text) ≡ behind_run (packed text)
packed_behind_run [] = refl
packed_behind_run (byte ∷ text) =
    (elim (is_skipped byte)
    as (λ s. is_skipped byte ≡ s → packed (drop (prefix_len in_run (byte ∷ text)) (byte ∷ text)) ≡ behind_run (packed (byte ∷ text))) [
      | true ↦ λ e.
          let r : (is_numeric byte || is_skipped byte) ≡ true = or_right (is_numeric byte) (is_skipped byte) e in
          rw (r, one_more (prefix_len in_run text), e) (packed_behind_run text)
      | false ↦ λ e.
          (elim (is_numeric byte)
          as (λ n. is_numeric byte ≡ n → packed (drop (prefix_len in_run (byte ∷ text)) (byte ∷ text))
          ≡ behind_run (packed (byte ∷ text))) [
            | true ↦ λ n.
                let r : (is_numeric byte || is_skipped byte) ≡ true = or_left (is_numeric byte) (is_skipped byte) n in
                rw (r, one_more (prefix_len in_run text), e, n, one_more (prefix_len is_numeric (packed text))) (packed_behind_run text)
            | false ↦ λ n.
                let r : (is_numeric byte || is_skipped byte) ≡ false = or_from (is_numeric byte) (is_skipped byte) n e in
                rw (r, e, n) refl
          ]) refl
    ]) refl

-- what stands behind the run, as a slice
pub packed_rest : (text : List ℕ) (n : ℕ) → n ≡ prefix_len in_run text
    → packed (take (length text - n) (drop n text)) ≡ behind_run (packed text)
packed_rest text n e = ap packed (take_rest text n) ∙ ap (λ (k : ℕ). packed (drop k text)) e ∙ packed_behind_run text

pub field_there : (letter first : ℕ) (text rest : List ℕ) → text ≡ first ∷ rest → first ≡ letter
    → field letter text ≡ (Some (run_of rest), behind_run rest)
unfolding field
field_there letter first text rest e is = rw (e, eq-eqb first letter is) refl

pub field_other : (letter first : ℕ) (text rest : List ℕ) → text ≡ first ∷ rest → first ≢ letter → field letter text ≡ (None, text)
unfolding field
field_other letter first text rest e other = rw (e, ne_eqb first letter other) refl

pub field_of_nothing : (letter : ℕ) (text : List ℕ) → text ≡ [] → field letter text ≡ (None, text)
unfolding field
field_of_nothing letter text e = rw e refl
