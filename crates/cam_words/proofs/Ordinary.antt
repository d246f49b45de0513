-- The ordinary bytes at the front of a word.
use Rattle.std.proofs.Common.{◌≡◌, ℕ, zero, suc, ◌≤◌, ◌+◌, ◌-◌, ◌*◌, List, [], ◌∷◌, ◌++◌, length, take, drop, Bool, true, false}
use Rattle.std.proofs.Common.{refl, sym, ap, ◌∙◌, arith, length-append, length-take}
use Rattle.std.specs.Prelude.{if◌then◌else◌}
use Rattle.std.specs.List.{prefix_len, position_or_len, before_first, list_all, list_any}
use Rattle.std.proofs.Math.Seq.{take-add}
use Rattle.std.proofs.lemmas.Bool.{and_parts}
use Rattle.std.proofs.lemmas.List.{take_rest}
use Rattle.std.proofs.lemmas.List.Folds.{list_all-append}
use Rattle.std.proofs.lemmas.List.Sums.{prefix_len-le-length}
use Rattle.std.proofs.lemmas.Bool.Decides.{nat_tests}
use Rattle.cam_words.specs.Bytes.{is_star, is_control, is_forbidden_in_plain}
use Rattle.cam_words.specs.Heads.{is_comment, is_forbidden_in_word}
use Rattle.cam_words.specs.Machinery.Ordinary.{is_ordinary}
use Rattle.cam_words.proofs.Lists.{before_first-cons, length-before_first}

no_star : (byte : ℕ) → is_ordinary byte ≡ true → is_star byte ≡ false
no_star byte h = grind (arith, nat_tests)

may_stand_there : (comment : Bool) (byte : ℕ) → is_ordinary byte ≡ true
    → (if comment then is_control else is_forbidden_in_plain) byte ≡ false
may_stand_there comment byte h = grind (arith, nat_tests)

one_more : (n : ℕ) → 1 + n ≡ suc n
one_more n = omega arith

-- a step more
pub one_step : (text : List ℕ) (n m : ℕ) → list_all is_ordinary (take n text) ≡ true
    → list_all is_ordinary (take m (drop n text)) ≡ true → list_all is_ordinary (take (n + m) text) ≡ true
one_step text n m front step = grind (arith, take-add, list_all-append)

-- some of them, and then the others
pub front_and_rest : (text : List ℕ) (n : ℕ) → n ≤ length text → list_all is_ordinary (take n text) ≡ true
    → n + prefix_len is_ordinary (drop n text) ≡ prefix_len is_ordinary text
front_and_rest text zero within all = omega arith
front_and_rest [] (suc n) within all = absurd (omega arith)
front_and_rest (byte ∷ text) (suc n) within all =
    let both = and_parts (is_ordinary byte) (list_all is_ordinary (take n text)) all in
    let rest = front_and_rest text n (omega arith) both.1 in
    rw both.0 (omega (arith, rest))

pub steps_and_rest : (text : List ℕ) (n m : ℕ) → n ≤ length text → list_all is_ordinary (take n text) ≡ true
    → m ≡ prefix_len is_ordinary (take (length text - n) (drop n text)) → n + m ≡ prefix_len is_ordinary text
steps_and_rest text n m within all e = grind (arith, take_rest, front_and_rest)

pub step_behind : (text : List ℕ) (step : ℕ) → list_all is_ordinary (take (16 * step) text) ≡ true
    → true ≡ list_all is_ordinary (take (16 * step + 16 - 16 * step) (drop (16 * step) text))
    → list_all is_ordinary (take (16 * (step + 1)) text) ≡ true
step_behind text step front all =
    let sixteen : 16 * step + 16 - 16 * step ≡ 16 = omega arith in
    let next : 16 * (step + 1) ≡ 16 * step + 16 = omega arith in
    ap (λ n. list_all is_ordinary (take n text)) next
    ∙ one_step text (16 * step) 16 front
    (ap (λ n. list_all is_ordinary (take n (drop (16 * step) text))) (sym sixteen) ∙ sym all)

-- they stand before the first `*`
split : (text : List ℕ) → before_first is_star text
    ≡ take (prefix_len is_ordinary text) text ++ before_first is_star (drop (prefix_len is_ordinary text) text)
split [] = refl
split (byte ∷ text) =
    (elim (is_ordinary byte) as
    (λ b. is_ordinary byte ≡ b → before_first is_star (byte ∷ text)
    ≡ take (prefix_len is_ordinary (byte ∷ text)) (byte ∷ text)
    ++ before_first is_star (drop (prefix_len is_ordinary (byte ∷ text)) (byte ∷ text))) [
      | true ↦ λ e. before_first-cons is_star byte text
          ∙ rw (e, no_star byte e, one_more (prefix_len is_ordinary text)) (ap (λ rest. byte ∷ rest) (split text))
      | false ↦ λ e. rw e refl
    ]) refl

-- a word may hold them
none_is_bad : (word text others : List ℕ)
    → list_any (is_forbidden_in_word word) (take (prefix_len is_ordinary text) text ++ others)
    ≡ list_any (is_forbidden_in_word word) others
none_is_bad word [] others = refl
none_is_bad word (byte ∷ text) others =
    (elim (is_ordinary byte) as
    (λ b. is_ordinary byte ≡ b
    → list_any (is_forbidden_in_word word) (take (prefix_len is_ordinary (byte ∷ text)) (byte ∷ text) ++ others)
    ≡ list_any (is_forbidden_in_word word) others) [
      | true ↦ λ e. rw (e, one_more (prefix_len is_ordinary text), may_stand_there (is_comment word) byte e)
          (none_is_bad word text others)
      | false ↦ λ e. rw e refl
    ]) refl

-- the bytes before the first `*` by those of them that follow the ordinary ones
pub word_split : (text : List ℕ) (n p : ℕ) → n ≡ prefix_len is_ordinary text
    → p ≡ position_or_len is_star (take (length text - n) (drop n text))
    → take n text ++ take p (take (length text - n) (drop n text)) ≡ before_first is_star text
word_split text n p e f = grind (arith, take_rest, split)

pub word_is : (text : List ℕ) (n p : ℕ) → n ≡ prefix_len is_ordinary text
    → p ≡ position_or_len is_star (take (length text - n) (drop n text))
    → take (n + length (take p (take (length text - n) (drop n text)))) text ≡ before_first is_star text
word_is text n p e f =
    let others : List ℕ = take p (take (length text - n) (drop n text)) in
    let long : length (take n text ++ take p (take (length text - n) (drop n text))) ≡ length (before_first is_star text) =
    ap length (word_split text n p e f) in
    let len : n + length (take p (take (length text - n) (drop n text))) ≡ position_or_len is_star text =
    omega (
      arith,
      long,
      length-append (take n text) (take p (take (length text - n) (drop n text))),
      length-take n text,
      prefix_len-le-length is_ordinary text,
      length-before_first is_star text,
    ) in
    ap (λ k. take k text) len

pub word_is_bad : (text word : List ℕ) (n p : ℕ) → n ≡ prefix_len is_ordinary text
    → p ≡ position_or_len is_star (take (length text - n) (drop n text)) → word ≡ before_first is_star text
    → list_any (is_forbidden_in_word word) (take p (take (length text - n) (drop n text)))
    ≡ list_any (is_forbidden_in_word word) word
word_is_bad text word n p e f is =
    let others : List ℕ = take p (take (length text - n) (drop n text)) in
    sym (none_is_bad word text (take p (take (length text - n) (drop n text))))
    ∙ ap (λ k. list_any (is_forbidden_in_word word) (take k text ++ take p (take (length text - n) (drop n text)))) (sym e)
    ∙ ap (list_any (is_forbidden_in_word word)) (word_split text n p e f ∙ sym is)
