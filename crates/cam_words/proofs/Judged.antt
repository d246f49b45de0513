-- A command that is found is one, and a fault is told for the right reason.
use Rattle.std.proofs.Common.{◌≡◌, ◌≢◌, ℕ, ◌-◌, ◌<◌, ◌≤◌, List, [], ◌∷◌, ◌++◌, length, take, drop, get_or, Bool, true, false}
use Rattle.std.proofs.Common.{eqb, Result, Ok, Err, refl, sym, ap, ◌∙◌, subst, inl, inr, arith, append_assoc}
use Rattle.std.specs.Prelude.{if◌then◌else◌}
use Rattle.std.specs.List.{list_any, before_first, suffix_len, AllByRecursion}
use Rattle.std.proofs.lemmas.List.{take-append-drop, drop_more}
use Rattle.std.proofs.lemmas.List.Folds.{Any-from_list_any, list_any-from_Any}
use Rattle.std.proofs.lemmas.List.Sums.{suffix_len-le-length}
use Rattle.std.proofs.lemmas.Bool.{eqb-true}
use Rattle.cam_refusals.specs.declared.refusal.Refusal.{Refusal}
use Rattle.cam_refusals.specs.declared.refusal.Refusal.TheVariants.{BadByte, Unterminated}
use Rattle.cam_words.specs.Bytes.{star, percent, is_star, is_percent, is_skipped, IsSkipped}
use Rattle.cam_words.specs.Heads.{is_forbidden_in_word, is_forbidden_in_extended}
use Rattle.cam_words.specs.Cutting.{Command, WordCommand, ExtendedCommand, bytes_of_command, BeginsAsWord, IsCommand}
use Rattle.cam_words.specs.Reading.{word_at, extended_at, command_at}
use Rattle.cam_words.specs.Laws.{HoldsForbiddenByte, TellsFault}
use Rattle.cam_words.proofs.Lists.{AllFail, all_map, all_both, all_front, all_fail, before_first-cons, before_first_fails}
use Rattle.cam_words.proofs.Lists.{before_first-split, no_value, IsBefore-before_first, before_first-IsBefore, suffix_passes}
use Rattle.cam_words.proofs.Commands.{forbidden-append}

abbrev word_of_front : List ℕ → List ℕ
word_of_front text = before_first is_star text

abbrev inside_of_front : List ℕ → List ℕ
inside_of_front text = before_first is_percent text

-- a text that begins with another byte than `%`
held_in_word : (first : ℕ) (rest : List ℕ) → is_percent first ≡ false → HoldsForbiddenByte (first ∷ rest)
    → list_any (is_forbidden_in_word (word_of_front (first ∷ rest))) (word_of_front (first ∷ rest)) ≡ true
held_in_word first rest other (inl held) =
    let same : word_of_front (first ∷ rest) ≡ held.word =
    before_first-IsBefore star held.word (first ∷ rest) held.is_word in
    subst (λ (word : List ℕ). list_any (is_forbidden_in_word word) word ≡ true) (sym same)
    (list_any-from_Any (is_forbidden_in_word held.word) held.word held.holds)
held_in_word first rest other (inr held) = grind (arith, no_value)

holds_in_word : (first : ℕ) (rest : List ℕ) → is_percent first ≡ false
    → list_any (is_forbidden_in_word (word_of_front (first ∷ rest))) (word_of_front (first ∷ rest)) ≡ true
    → HoldsForbiddenByte (first ∷ rest)
holds_in_word first rest other bad = inl (record {
  first = first;
  others = rest;
  begins = refl;
  no_percent = no_value percent first other;
  word = word_of_front (first ∷ rest);
  is_word = IsBefore-before_first star (first ∷ rest);
  holds = Any-from_list_any (is_forbidden_in_word (word_of_front (first ∷ rest))) (word_of_front (first ∷ rest)) bad;
})

-- a text behind a `%`
held_in_extended : (rest : List ℕ) → HoldsForbiddenByte (percent ∷ rest)
    → list_any (is_forbidden_in_extended (inside_of_front rest)) (inside_of_front rest) ≡ true
held_in_extended rest (inl held) = grind arith
held_in_extended rest (inr held) =
    let behind : rest ≡ held.others = let e = held.begins in cc in
    let same : inside_of_front rest ≡ held.inside = ap (before_first is_percent) behind
    ∙ before_first-IsBefore percent held.inside held.others held.is_inside in
    subst (λ (inside : List ℕ). list_any (is_forbidden_in_extended inside) inside ≡ true) (sym same)
    (list_any-from_Any (is_forbidden_in_extended held.inside) held.inside held.holds)

holds_in_extended : (rest : List ℕ)
    → list_any (is_forbidden_in_extended (inside_of_front rest)) (inside_of_front rest) ≡ true
    → HoldsForbiddenByte (percent ∷ rest)
holds_in_extended rest bad = inr (record {
  others = rest;
  begins = refl;
  inside = inside_of_front rest;
  is_inside = IsBefore-before_first percent rest;
  holds = Any-from_list_any (is_forbidden_in_extended (inside_of_front rest)) (inside_of_front rest) bad;
})

-- what the reading finds at the front of a text is right
abbrev pub IsRight : List ℕ → Result Command Refusal → Type 0
IsRight text (Ok command) = IsCommand command × ((rest : List ℕ) × (text ≡ bytes_of_command command ++ rest))
IsRight text (Err code) = TellsFault code text

not_both : (b : Bool) → b ≡ true → b ≡ false → ⊥
not_both b one other = absurd cc

begins_as_word : (first : ℕ) (rest : List ℕ) → is_skipped first ≡ false → is_percent first ≡ false
    → BeginsAsWord (word_of_front (first ∷ rest))
begins_as_word first rest kept other = grind (arith, before_first-cons, no_value)

word_is_right : (first : ℕ) (rest : List ℕ) → is_skipped first ≡ false → is_percent first ≡ false
    → list_any (is_forbidden_in_word (word_of_front (first ∷ rest))) (word_of_front (first ∷ rest)) ≡ false
    → length (word_of_front (first ∷ rest)) ≢ length (first ∷ rest)
    → IsRight (first ∷ rest) (Ok (WordCommand (word_of_front (first ∷ rest))))
word_is_right first rest kept other fine ends =
    let word : List ℕ = word_of_front (first ∷ rest) in
    let split = before_first-split is_star (first ∷ rest) ends in
    let end : split.0 ≡ star = eqb-true split.0 star split.2 in
    let allowed =
    all_both (λ byte. byte ≢ star) (λ byte. is_forbidden_in_word (word_of_front (first ∷ rest)) byte ≡ false)
    (word_of_front (first ∷ rest))
    (all_map _ (λ byte. byte ≢ star) (no_value star) (word_of_front (first ∷ rest))
    (before_first_fails is_star (first ∷ rest))) (all_fail _ (word_of_front (first ∷ rest)) fine) in
    let whole : first ∷ rest ≡ word_of_front (first ∷ rest) ++ star ∷ split.1 =
    split.3 ∙ ap (λ (byte : ℕ). word_of_front (first ∷ rest) ++ byte ∷ split.1) end in (
      (begins_as_word first rest kept other, allowed),
      (split.1, whole ∙ sym (append_assoc (word_of_front (first ∷ rest)) (star ∷ []) split.1)),
    )

word_at_is_right : (first : ℕ) (rest : List ℕ) → is_skipped first ≡ false → is_percent first ≡ false
    → IsRight (first ∷ rest) (word_at (first ∷ rest))
word_at_is_right first rest kept other =
    let word : List ℕ = word_of_front (first ∷ rest) in
    let text : List ℕ = first ∷ rest in
    (elim (list_any (is_forbidden_in_word word) word) as
    (λ bad. list_any (is_forbidden_in_word word) word ≡ bad
    → IsRight text
    (if bad then Err BadByte else if eqb (length word) (length text) then Err Unterminated
    else Ok (WordCommand word))) [
      | true ↦ λ bad. inl (refl, holds_in_word first rest other bad)
      | false ↦ λ fine.
          (elim (eqb (length word) (length text)) as
          (λ all. eqb (length word) (length text) ≡ all
          → IsRight text (if all then Err Unterminated else Ok (WordCommand word))) [
            | true ↦ λ all. inr (refl, λ held. not_both _ (held_in_word first rest other held) fine)
            | false ↦ λ ends. word_is_right first rest kept other fine (no_value (length text) (length word) ends)
          ]) refl
    ]) refl

-- an extended command
unterminated_is_right : (rest : List ℕ)
    → list_any (is_forbidden_in_extended (inside_of_front rest)) (inside_of_front rest) ≡ false
    → IsRight (percent ∷ rest) (Err Unterminated)
unterminated_is_right rest fine = inr (refl, λ held. not_both _ (held_in_extended rest held) fine)

extended_is_right : (rest text tail : List ℕ)
    → list_any (is_forbidden_in_extended (inside_of_front rest)) (inside_of_front rest) ≡ false
    → length (inside_of_front rest) ≢ length rest → inside_of_front rest ≡ text ++ star ∷ tail
    → AllByRecursion IsSkipped tail
    → IsRight (percent ∷ rest) (Ok (ExtendedCommand text tail))
extended_is_right rest text tail fine ends e skipped =
    let split = before_first-split is_percent rest ends in
    let end : split.0 ≡ percent = eqb-true split.0 percent split.2 in
    let no_percent : AllFail is_percent (text ++ star ∷ tail) =
    subst (AllFail is_percent) e (before_first_fails is_percent rest) in
    let no_forbidden : list_any (is_forbidden_in_extended (text ++ star ∷ tail)) (text ++ star ∷ tail) ≡ false =
    subst (λ (inside : List ℕ). list_any (is_forbidden_in_extended inside) inside ≡ false) e fine in
    let none_here : list_any (is_forbidden_in_extended text) (text ++ star ∷ tail) ≡ false =
    subst (λ (test : ℕ → Bool). list_any test (text ++ star ∷ tail) ≡ false) (forbidden-append text tail)
    no_forbidden in
    let allowed = all_both (λ byte. byte ≢ percent) (λ byte. is_forbidden_in_extended text byte ≡ false) text
    (all_map _ (λ byte. byte ≢ percent) (no_value percent) text (all_front _ text (star ∷ tail) no_percent))
    (all_front _ text (star ∷ tail) (all_fail (is_forbidden_in_extended text) (text ++ star ∷ tail) none_here)) in
    let whole : rest ≡ (text ++ star ∷ tail) ++ percent ∷ split.1 =
    split.3 ∙ ap (λ (byte : ℕ). inside_of_front rest ++ byte ∷ split.1) end
    ∙ ap (λ (inside : List ℕ). inside ++ percent ∷ split.1) e in (
      (allowed, skipped),
      (
        split.1,
        ap (λ (bytes : List ℕ). percent ∷ bytes)
            (whole ∙ sym (append_assoc (text ++ star ∷ tail) (percent ∷ []) split.1)),
      ),
    )

-- at its last byte that is not skipped a text splits, if that is its `*`
split_at_star : (inside : List ℕ) (len : ℕ) → 0 < len → len ≤ length inside
    → is_star (get_or inside (len - 1) 0) ≡ true → inside ≡ take (len - 1) inside ++ star ∷ drop len inside
split_at_star inside len some within e = grind (arith, eqb-true, drop_more, take-append-drop)

command_within_is_right : (rest : List ℕ) (len : ℕ)
    → len ≡ length (inside_of_front rest) - suffix_len is_skipped (inside_of_front rest)
    → list_any (is_forbidden_in_extended (inside_of_front rest)) (inside_of_front rest) ≡ false
    → length (inside_of_front rest) ≢ length rest
    → IsRight (percent ∷ rest)
    (if eqb len 0 then Err Unterminated
    else if is_star (get_or (inside_of_front rest) (len - 1) 0) then Ok
    (ExtendedCommand (take (len - 1) (inside_of_front rest)) (drop len (inside_of_front rest))) else Err Unterminated)
command_within_is_right rest len is fine ends =
    let inside : List ℕ = inside_of_front rest in
    let skipped : AllByRecursion IsSkipped (drop len (inside_of_front rest)) =
    subst (λ (n : ℕ). AllByRecursion IsSkipped (drop n (inside_of_front rest))) (sym is)
    (suffix_passes is_skipped (inside_of_front rest)) in
    (elim (eqb len 0) as
    (λ none. eqb len 0 ≡ none
    → IsRight (percent ∷ rest)
    (if none then Err Unterminated
    else if is_star (get_or (inside_of_front rest) (len - 1) 0) then Ok
    (ExtendedCommand (take (len - 1) (inside_of_front rest)) (drop len (inside_of_front rest)))
    else Err Unterminated)) [
      | true ↦ λ none. unterminated_is_right rest fine
      | false ↦ λ some.
          (elim (is_star (get_or (inside_of_front rest) (len - 1) 0)) as
          (λ last. is_star (get_or (inside_of_front rest) (len - 1) 0) ≡ last
          → IsRight (percent ∷ rest)
          (if last then Ok (ExtendedCommand (take (len - 1) (inside_of_front rest)) (drop len (inside_of_front rest)))
          else Err Unterminated)) [
            | true ↦ λ last.
                let more : len ≢ 0 = no_value 0 len some in
                extended_is_right rest _ _ fine ends
                (split_at_star (inside_of_front rest) len (omega arith)
                (omega (arith, suffix_len-le-length is_skipped (inside_of_front rest))) last) skipped
            | false ↦ λ other. unterminated_is_right rest fine
          ]) refl
    ]) refl

extended_at_is_right : (rest : List ℕ) → IsRight (percent ∷ rest) (extended_at rest)
extended_at_is_right rest = grind (arith, holds_in_extended, unterminated_is_right, command_within_is_right, no_value)

pub command_at_is_right : (first : ℕ) (rest : List ℕ) → is_skipped first ≡ false
    → IsRight (first ∷ rest) (command_at first rest)
command_at_is_right first rest kept = grind (arith, eqb-true, extended_at_is_right, word_at_is_right)
