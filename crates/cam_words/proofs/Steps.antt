-- One answer of a reading, and the reading of what stands behind it.
use Rattle.std.proofs.Common.{◌≡◌, ℕ, zero, suc, ◌+◌, ◌-◌, ◌<◌, List, [], ◌∷◌, length, take, drop, Some, None}
use Rattle.std.proofs.Common.{Result, Ok, Err, refl, sym, ◌∙◌, arith, length-drop, length-append}
use Rattle.std.specs.List.{prefix_len}
use Rattle.std.proofs.lemmas.List.{take_rest}
use Rattle.cam_refusals.specs.declared.refusal.Refusal.{Refusal}
use Rattle.cam_words.specs.Bytes.{is_skipped}
use Rattle.cam_words.specs.Cutting.{Command, bytes_of_command, FoundWord, word_of}
use Rattle.cam_words.specs.Reading.{WordAnswer, answers_by, answers_at, reading_within, reading}
use Rattle.cam_words.specs.Machinery.Shown.{shown, front_shown}

pub has_a_byte : (command : Command) → 0 < length (bytes_of_command command)
has_a_byte command = grind (arith, length-append)

-- two readings that agree on the texts shorter than some length
abbrev Agree : (ℕ → List ℕ → List WordAnswer) → (ℕ → List ℕ → List WordAnswer) → ℕ → Type 0
Agree one other len = (at : ℕ) (text : List ℕ) → length text < len → one at text ≡ other at text

answers_by-agree : (one other : ℕ → List ℕ → List WordAnswer) (at first : ℕ) (rest : List ℕ) (found : Result Command Refusal)
    → Agree one other (suc (length rest)) → answers_by one at (first ∷ rest) found
    ≡ answers_by other at (first ∷ rest) found
answers_by-agree one other at first rest found agree = grind (arith, has_a_byte, length-drop)

answers_at-agree : (one other : ℕ → List ℕ → List WordAnswer) (at : ℕ) (text : List ℕ) → Agree one other (length text)
    → answers_at one at text ≡ answers_at other at text
answers_at-agree one other at text agree = grind (arith, answers_by-agree)

-- a limit above the length says nothing
reading_within-agree : (limit other at : ℕ) (text : List ℕ) → length text < limit → length text < other
    → reading_within limit at text ≡ reading_within other at text
unfolding reading_within
reading_within-agree zero other at text below there = absurd (omega arith)
reading_within-agree (suc limit) zero at text below there = absurd (omega arith)
reading_within-agree (suc limit) (suc other) at text below there =
    answers_at-agree (reading_within limit) (reading_within other) (at + prefix_len is_skipped text)
    (drop (prefix_len is_skipped text) text)
    (λ place rest shorter. reading_within-agree limit other place rest
    (omega (arith, length-drop (prefix_len is_skipped text) text))
    (omega (arith, length-drop (prefix_len is_skipped text) text)))

-- a reading, by what stands behind the skipped bytes
pub reading_is : (at : ℕ) (text : List ℕ)
    → reading at text ≡ answers_at reading (at + prefix_len is_skipped text) (drop (prefix_len is_skipped text) text)
unfolding reading_within
reading_is at text = grind (arith, answers_at-agree, reading_within-agree, length-drop)

pub reading-nil : (at : ℕ) → reading at [] ≡ []
unfolding reading_within
reading-nil at = refl

-- the place of a word counts from where its command stands
word_of-place : (at : ℕ) (command : Command)
    → word_of at command
    ≡ record { kind = (word_of 0 command).kind; text = (word_of 0 command).text; at = at + (word_of 0 command).at }
word_of-place at command = grind arith

-- what a text gives that does not begin with a skipped byte, as the code finds it
nothing_at : (at : ℕ) (text : List ℕ) → front_shown text ≡ None → answers_at reading at text ≡ []
nothing_at at text e = grind arith

fault_by : (at : ℕ) (code : Refusal) (text : List ℕ) (found : Result Command Refusal) → shown found ≡ Err code
    → answers_by reading at text found ≡ Err (record { code = code; at = at }) ∷ []
fault_by at code text found e = grind arith

fault_at : (at : ℕ) (code : Refusal) (text : List ℕ) → front_shown text ≡ Some (Err code)
    → answers_at reading at text ≡ Err (record { code = code; at = at }) ∷ []
fault_at at code text e = grind (arith, fault_by)

word_by : (at len : ℕ) (text : List ℕ) (word : FoundWord) (found : Result Command Refusal) → shown found ≡ Ok (word, len)
    → answers_by reading at text found
    ≡ Ok (record { kind = word.kind; text = word.text; at = at + word.at }) ∷ reading (at + len) (drop len text)
word_by at len text word found e = grind (arith, word_of-place)

word_at_front : (at len : ℕ) (text : List ℕ) (word : FoundWord) → front_shown text ≡ Some (Ok (word, len))
    → answers_at reading at text ≡ Ok (record { kind = word.kind; text = word.text; at = at + word.at }) ∷ reading
    (at + len) (drop len text)
word_at_front at len text word e = grind (arith, word_by)

-- the same behind skipped bytes, of the slices that the code takes
module _ (at skipped : ℕ) (text : List ℕ) (is : skipped ≡ prefix_len is_skipped text) where
  behind_skipped : reading at text
      ≡ answers_at reading (at + skipped) (take (length text - skipped) (drop skipped text))
  behind_skipped = reading_is at text ∙ rw (take_rest text skipped, is) refl

  pub nothing_given : None ≡ front_shown (take (length text - skipped) (drop skipped text)) → reading at text ≡ []
  nothing_given e = behind_skipped ∙ nothing_at _ _ (sym e)

  pub fault_given : (code : Refusal) → Some (Err code) ≡ front_shown (take (length text - skipped) (drop skipped text))
      → reading at text ≡ Err (record { code = code; at = at + skipped }) ∷ []
  fault_given code e = behind_skipped ∙ fault_at _ code _ (sym e)

  pub word_given : (slice : List ℕ) (word : FoundWord) (len : ℕ)
      → slice ≡ take (length text - skipped) (drop skipped text) → Some (Ok (word, len)) ≡ front_shown slice
      → reading at text ≡ Ok (record { kind = word.kind; text = word.text; at = at + skipped + word.at }) ∷ reading
      (at + skipped + len) (take (length slice - len) (drop len slice))
  word_given slice word len same e = grind (arith, behind_skipped, word_at_front, take_rest)
