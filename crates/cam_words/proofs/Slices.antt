-- Each answer of a reading lies in the source.
use Rattle.std.proofs.Common.{◌≡◌, ℕ, zero, suc, ◌+◌, ◌<◌, List, [], ◌∷◌, ◌++◌, length, take, drop, false, Ok, Err}
use Rattle.std.proofs.Common.{refl, sym, ap, ◌∙◌, subst, arith, length-append, length-drop, append_assoc}
use Rattle.std.specs.List.{prefix_len, AllByRecursion}
use Rattle.std.proofs.lemmas.List.{take_at, drop-drop}
use Rattle.std.proofs.lemmas.List.Sums.{prefix_len-le-length}
use Rattle.cam_words.specs.Bytes.{star, percent, is_skipped}
use Rattle.cam_words.specs.Cutting.{Command, WordCommand, ExtendedCommand, bytes_of_command, word_of}
use Rattle.cam_words.specs.Reading.{command_at, answers_at, answers_by, reading, IsSliceOf}
use Rattle.cam_words.proofs.Fronts.{begins_unskipped}
use Rattle.cam_words.proofs.Steps.{reading_is, has_a_byte}
use Rattle.cam_words.proofs.Judged.{IsRight, command_at_is_right}

-- the word of a command that stands at a place of the source
word_is_within : (source : List ℕ) (at : ℕ) (command : Command) (rest : List ℕ)
    → drop at source ≡ bytes_of_command command ++ rest → at < length source → IsSliceOf source (Ok (word_of at command))
word_is_within source at (WordCommand text) rest e inside =
    let bytes = e ∙ append_assoc text (star ∷ []) rest in
    let long = ap length bytes in
    let whole = length-append text (star ∷ rest) in (
      sym (ap (take (length text)) bytes ∙ take_at text (star ∷ rest) (length text) refl),
      omega (arith, length-drop at source),
    )
word_is_within source at (ExtendedCommand text tail) rest e inside =
    let joined : ((text ++ star ∷ tail) ++ percent ∷ []) ++ rest ≡ text ++ (star ∷ tail ++ percent ∷ rest) =
    append_assoc (text ++ star ∷ tail) (percent ∷ []) rest ∙ append_assoc text (star ∷ tail) (percent ∷ rest) in
    let bytes : drop (at + 1) source ≡ text ++ (star ∷ tail ++ percent ∷ rest) = sym (drop-drop 1 at source)
    ∙ ap (drop 1) e ∙ joined in
    let long = ap length bytes in
    let whole = length-append text (star ∷ tail ++ percent ∷ rest) in (
      sym (ap (take (length text)) bytes ∙ take_at text (star ∷ tail ++ percent ∷ rest) (length text) refl),
      omega (arith, length-drop (at + 1) source),
    )

abbrev LiesWithin : List ℕ → ℕ → Type 0
LiesWithin source len = (at : ℕ) (text : List ℕ) → length text < len → text ≡ drop at source
    → at + length text ≡ length source → AllByRecursion (IsSliceOf source) (reading at text)

answers_are_within : (source : List ℕ) (at : ℕ) (text : List ℕ)
    → ((byte : ℕ) (rest : List ℕ) → text ≡ byte ∷ rest → is_skipped byte ≡ false) → text ≡ drop at source
    → at + length text ≡ length source → LiesWithin source (length text)
    → AllByRecursion (IsSliceOf source) (answers_at reading at text)
answers_are_within source at [] kept e ends behind = tt
answers_are_within source at (byte ∷ bytes) kept e ends behind =
    (elim (command_at byte bytes) as
    (λ found. IsRight (byte ∷ bytes) found
    → AllByRecursion (IsSliceOf source) (answers_by reading at (byte ∷ bytes) found)) [
      | Ok command ↦ λ is.
          let some = has_a_byte command in
          let long : length (byte ∷ bytes) ≡ length (bytes_of_command command ++ is.1.0) = ap length is.1.1 in
          let whole = length-append (bytes_of_command command) is.1.0 in
          let left = length-drop (length (bytes_of_command command)) (byte ∷ bytes) in (
            word_is_within source at command is.1.0 (sym e ∙ is.1.1) (omega arith),
            behind (at + length (bytes_of_command command)) (drop (length (bytes_of_command command)) (byte ∷ bytes))
                (omega arith)
                (ap (drop (length (bytes_of_command command))) e
                ∙ drop-drop (length (bytes_of_command command)) at source) (omega arith),
          )
      | Err code ↦ λ is. (omega arith, tt)
    ]) (command_at_is_right byte bytes (kept byte bytes refl))

lies_within : (source : List ℕ) (limit at : ℕ) (text : List ℕ) → length text < limit → text ≡ drop at source
    → at + length text ≡ length source → AllByRecursion (IsSliceOf source) (reading at text)
lies_within source zero at text below e ends = absurd (omega arith)
lies_within source (suc limit) at text below e ends =
    let n : ℕ = prefix_len is_skipped text in
    let short = prefix_len-le-length is_skipped text in
    let left = length-drop (prefix_len is_skipped text) text in
    subst (AllByRecursion (IsSliceOf source)) (sym (reading_is at text))
    (answers_are_within source (at + prefix_len is_skipped text) (drop (prefix_len is_skipped text) text)
    (begins_unskipped text)
    (ap (drop (prefix_len is_skipped text)) e ∙ drop-drop (prefix_len is_skipped text) at source) (omega arith)
    (λ place rest shorter here there. lies_within source limit place rest (omega arith) here there))

pub reading_is_within : (source : List ℕ) → AllByRecursion (IsSliceOf source) (reading 0 source)
reading_is_within source = lies_within source (suc (length source)) 0 source (omega arith) refl (omega arith)
