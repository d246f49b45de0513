-- The skipped bytes at the front of a text, and the bytes before the first of a value.
use Rattle.std.proofs.Common.{◌≡◌, ℕ, suc, ◌+◌, ◌-◌, ◌<◌, ◌≤◌, List, [], ◌∷◌, length, take, drop, get_or, true}
use Rattle.std.proofs.Common.{false, refl, sym, ap, ◌∙◌, arith}
use Rattle.std.proofs.lemmas.List.{take_all, take_rest, nil_from_length}
use Rattle.std.specs.List.{prefix_len}
use Rattle.cam_words.specs.Bytes.{is_skipped}
use Rattle.cam_words.specs.Heads.{packed, behind_kept}

-- skipped bytes at the front leave the packed text as it is
pub packed-drop : (text : List ℕ) → packed text ≡ packed (drop (prefix_len is_skipped text) text)
packed-drop [] = refl
packed-drop (byte ∷ text) =
    (elim (is_skipped byte) as
    (λ b. is_skipped byte ≡ b
    → packed (byte ∷ text) ≡ packed (drop (prefix_len is_skipped (byte ∷ text)) (byte ∷ text))) [
      | true ↦ λ e. let s : 1 + prefix_len is_skipped text ≡ suc (prefix_len is_skipped text) = omega arith in
          rw (e, s) (packed-drop text)
      | false ↦ λ e. rw e (rw e refl)
    ]) refl

-- what stands behind them does not begin with a skipped byte
pub begins_unskipped : (text : List ℕ) (byte : ℕ) (rest : List ℕ) → drop (prefix_len is_skipped text) text
    ≡ byte ∷ rest → is_skipped byte ≡ false
begins_unskipped [] byte rest e = absurd cc
begins_unskipped (first ∷ text) byte rest e =
    (elim (is_skipped first) as (λ b. is_skipped first ≡ b → is_skipped byte ≡ false) [
      | true ↦ λ s. let n : 1 + prefix_len is_skipped text ≡ suc (prefix_len is_skipped text) = omega arith in
          begins_unskipped text byte rest (rw (s, n) at e)
      | false ↦ λ s. let d : first ∷ text ≡ byte ∷ rest = rw s at e in cc
    ]) refl

-- the byte that they leave at the front, and the slice behind it
packed-cons : (text : List ℕ) (byte : ℕ) (rest : List ℕ) → text ≡ byte ∷ rest → is_skipped byte ≡ false
    → packed text ≡ get_or text 0 0 ∷ packed (take (length text - 1) (drop 1 text))
packed-cons text byte rest e s = grind (arith, take_all)

pub packed_nothing : (text : List ℕ) (skipped : ℕ) → skipped ≡ prefix_len is_skipped text
    → length (take (length text - skipped) (drop skipped text)) < 1 → packed text ≡ []
packed_nothing text skipped e none = grind (arith, take_rest, nil_from_length, packed-drop)

pub packed_first : (text slice : List ℕ) (skipped : ℕ) → skipped ≡ prefix_len is_skipped text
    → slice ≡ take (length text - skipped) (drop skipped text) → 1 ≤ length slice
    → packed text ≡ get_or slice 0 0 ∷ packed (take (length slice - 1) (drop 1 slice))
packed_first text slice skipped e is some =
    by slice refl
  where
    same : drop (prefix_len is_skipped text) text ≡ slice
    same = sym (is ∙ take_rest text skipped ∙ ap (λ (n : ℕ). drop n text) e)

    by : (xs : List ℕ) → slice ≡ xs → packed text ≡ get_or slice 0 0 ∷ packed (take (length slice - 1) (drop 1 slice))
    by [] n = absurd (omega (arith, ap length n))
    by (byte ∷ rest) n = packed-drop text ∙ ap packed same
        ∙ packed-cons slice byte rest n (begins_unskipped text byte rest (same ∙ n))

-- what stands behind the first kept byte
behind_first : (text : List ℕ) → behind_kept 1 text ≡ drop 1 (drop (prefix_len is_skipped text) text)
behind_first [] = refl
behind_first (byte ∷ text) =
    (elim (is_skipped byte) as (λ b. is_skipped byte ≡ b → behind_kept 1 (byte ∷ text)
    ≡ drop 1 (drop (prefix_len is_skipped (byte ∷ text)) (byte ∷ text))) [
      | true ↦ λ e. let s : 1 + prefix_len is_skipped text ≡ suc (prefix_len is_skipped text) = omega arith in rw (e, s) (behind_first text)
      | false ↦ λ e. rw e refl
    ]) refl

pub behind_nothing : (text : List ℕ) (skipped : ℕ) → skipped ≡ prefix_len is_skipped text
    → length (take (length text - skipped) (drop skipped text)) < 1 → behind_kept 1 text ≡ []
behind_nothing text skipped e none = grind (arith, take_rest, nil_from_length, behind_first)

pub behind_slice : (text slice : List ℕ) (skipped : ℕ) → skipped ≡ prefix_len is_skipped text
    → slice ≡ take (length text - skipped) (drop skipped text) → behind_kept 1 text ≡ take (length slice - 1) (drop 1 slice)
behind_slice text slice skipped e is =
    behind_first text ∙ ap (λ (n : ℕ). drop 1 (drop n text)) (sym e) ∙ ap (drop 1) (sym (is ∙ take_rest text skipped))
    ∙ sym (take_rest slice 1)
