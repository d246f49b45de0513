-- What a text gives: its words in order, and where it cannot be cut any further one fault.
use Rattle.std.specs.Prelude.{◌≡◌, ◌<◌, ℕ, zero, suc, ◌+◌, ◌-◌, List, [], ◌∷◌, length, take, drop, map, Result, Ok, Err}
use Rattle.std.specs.Prelude.{if◌then◌else◌, ◌==◌, slice_index}
use Rattle.std.specs.List.{before_first, prefix_len, suffix_len, list_any}
use Rattle.cam_refusals.specs.declared.refusal.Refusal.{Refusal}
use Rattle.cam_refusals.specs.declared.refusal.Refusal.TheVariants.{BadByte, Unterminated}
use Rattle.cam_words.specs.declared.word.Word.{Word}
use Rattle.cam_words.specs.declared.word.TextFault.{TextFault}
use Rattle.cam_words.specs.Bytes.{is_star, is_percent, is_skipped}
use Rattle.cam_words.specs.Heads.{is_forbidden_in_word, is_forbidden_in_extended}
use Rattle.cam_words.specs.Cutting.{Command, WordCommand, ExtendedCommand, bytes_of_command, FoundWord, word_of}

abbrev pub WordAnswer : Type 0
WordAnswer = Result FoundWord TextFault

abbrev pub words_told : List FoundWord → List WordAnswer
words_told words = map Ok words

-- an answer, with the bytes of its word in place of a slice
abbrev pub word_answer : Result Word TextFault → WordAnswer
word_answer (Ok word) = Ok (record { kind = word.kind; text = word.text.now; at = word.at })
word_answer (Err fault) = Err fault

-- the word is the slice of the source at its place, and its delimiter follows; a fault lies in the source
abbrev pub IsSliceOf : List ℕ → WordAnswer → Type 0
IsSliceOf source (Ok word) =
    (word.text ≡ take (length word.text) (drop word.at source)) × (word.at + length word.text < length source)
IsSliceOf source (Err fault) = fault.at < length source

-- the word at the front of a text, or its fault: it holds a byte that it may not hold, or has no end
abbrev pub word_at : List ℕ → Result Command Refusal
word_at text =
    let word = before_first is_star text in
    if list_any (is_forbidden_in_word word) word then Err BadByte
    else if length word == length text then Err Unterminated
    else Ok (WordCommand word)

-- the extended command whose two `%` stand round these bytes
abbrev pub command_within : List ℕ → Result Command Refusal
command_within inside =
    let len = length inside - suffix_len is_skipped inside in
    if len == 0 then Err Unterminated
    else if is_star (slice_index inside (len - 1)) then Ok (ExtendedCommand (take (len - 1) inside) (drop len inside))
    else Err Unterminated

-- the extended command at the front of a text, of which this follows its first `%`
abbrev pub extended_at : List ℕ → Result Command Refusal
extended_at text =
    let inside = before_first is_percent text in
    if list_any (is_forbidden_in_extended inside) inside then Err BadByte
    else if length inside == length text then Err Unterminated
    else command_within inside

-- the command that begins with a byte, before the others
abbrev pub command_at : ℕ → List ℕ → Result Command Refusal
command_at first rest = if is_percent first then extended_at rest else word_at (first ∷ rest)

-- what a command at a place gives, before what the text behind it gives
abbrev pub answers_by : (ℕ → List ℕ → List WordAnswer) → ℕ → List ℕ → Result Command Refusal → List WordAnswer
answers_by behind at text (Err code) = Err (record { code = code; at = at }) ∷ []
answers_by behind at text (Ok command) =
    let len = length (bytes_of_command command) in Ok (word_of at command) ∷ behind (at + len) (drop len text)

-- the same of a text that does not begin with a skipped byte
abbrev pub answers_at : (ℕ → List ℕ → List WordAnswer) → ℕ → List ℕ → List WordAnswer
answers_at behind at [] = []
answers_at behind at (first ∷ rest) = answers_by behind at (first ∷ rest) (command_at first rest)

-- the answers of a text that stands at a place and has at most so many commands
unfoldable pub reading_within : ℕ → ℕ → List ℕ → List WordAnswer
reading_within zero at text = []
reading_within (suc commands) at text =
    let run = prefix_len is_skipped text in answers_at (reading_within commands) (at + run) (drop run text)

-- each command has a byte at least
abbrev pub reading : ℕ → List ℕ → List WordAnswer
reading at text = reading_within (suc (length text)) at text
