-- What the cutting of a file answers, and where: the places of the file ascend.
use Rattle.std.proofs.Common.{◌≡◌, ℕ, ◌+◌, ◌<◌, ◌≤◌, List, [], ◌∷◌, ◌++◌, length, map, true, false, cond, Ok, Err, sym, ap, subst}
use Rattle.std.proofs.Common.{◌∙◌, ◌⊎◌, inl, inr, arith, length-append}
use Rattle.std.specs.List.{AllByRecursion, flat_map}
use Rattle.std.proofs.lemmas.List.{append-nil}
use Rattle.cam_refusals.specs.FileFaults.{AscendFrom}
use Rattle.cam_words.specs.Cutting.{Command, IsCommand, IsPiece, Piece, Blank, Whole}
use Rattle.cam_words.specs.Cutting.{bytes_of, bytes_of_command, word_of, words_of}
use Rattle.cam_words.specs.Laws.{BeginsCommand, HasCutFront, HasCutting, TellsFault}
use Rattle.cam_words.specs.Reading.{WordAnswer, reading, words_told}
use Rattle.cam_words.specs.declared.word.TextFault.{TextFault}
use Rattle.cam_words.proofs.Cuttings.{reads_its_words}
use Rattle.cam_words.proofs.Longest.{stops_at_the_longest_front}
use Rattle.cam_commands.specs.Syntax.{command_of, start_of}
use Rattle.cam_gerber.specs.State.{Past}
use Rattle.cam_gerber.specs.Reading.{is_end, places_from}
use Rattle.cam_gerber.specs.Computing.{statement_said, told_of}

-- the answers to a text that is cut, as those that a fault would follow
read_whole : (text : List ℕ) (cut : HasCutting text) → reading 0 text ≡ words_told (words_of 0 cut.0) ++ []
read_whole text cut = reads_its_words text cut.0 cut.1 ∙ sym (append-nil (words_told (words_of 0 cut.0)))

-- ---- what holds of the words of commands and of the faults of the cutting holds of all answers

module _ (P : WordAnswer → Type 0) (of_word : (at : ℕ) (command : Command) → IsCommand command → P (Ok (word_of at command)))
    (of_fault : (fault : TextFault) (text : List ℕ) → TellsFault fault.code text → P (Err fault)) where
  all_words : (at : ℕ) (pieces : List Piece) (rest : List WordAnswer) → AllByRecursion IsPiece pieces → AllByRecursion P rest
      → AllByRecursion P (words_told (words_of at pieces) ++ rest)
  all_words at [] rest h k = k
  all_words at (Blank run ∷ pieces) rest h k = all_words (at + length run) pieces rest h.1 k
  all_words at (Whole command ∷ pieces) rest h k =
      (of_word at command h.0, all_words (at + length (bytes_of_command command)) pieces rest h.1 k)

  pub all_answers : (text : List ℕ) → AllByRecursion P (reading 0 text)
  all_answers text = by (stops_at_the_longest_front text) where
    by : HasCutting text ⊎ HasCutFront text → AllByRecursion P (reading 0 text)
    by (inl cut) = subst (AllByRecursion P) (sym (read_whole text cut)) (all_words 0 cut.0 [] cut.1.each tt)
    by (inr cut) = subst (AllByRecursion P) (sym cut.3.read)
        (all_words 0 cut.0 (Err cut.2 ∷ []) cut.3.cutting.each (of_fault cut.2 cut.1 cut.3.number, tt))

-- ---- places

start_of_command : (at : ℕ) (command : Command) → start_of (word_of at command) ≡ at
start_of_command at command = grind arith

some_bytes : (command : Command) → 0 < length (bytes_of_command command)
some_bytes command = grind (arith, length-append)

some_behind : (text : List ℕ) → BeginsCommand text → 0 < length text
some_behind text h = grind arith

abbrev Ascend : ℕ → ℕ → List WordAnswer → Type 0
Ascend len low answers = (past : Past) → AscendFrom low (places_from len past (map told_of answers))

ascend_words : (len low at end : ℕ) (pieces : List Piece) (rest : List WordAnswer) → low ≤ at
    → at + length (flat_map bytes_of pieces) ≡ end → ((low : ℕ) → low ≤ end → Ascend len low rest)
    → Ascend len low (words_told (words_of at pieces) ++ rest)
ascend_words len low at end [] rest le ends behind = behind low (omega (arith, le, ends))
ascend_words len low at end (Blank run ∷ pieces) rest le ends behind =
    ascend_words len low (at + length run) end pieces rest (omega (arith, le))
    (omega (arith, ends, length-append run (flat_map bytes_of pieces))) behind
ascend_words len low at end (Whole command ∷ pieces) rest le ends behind = λ past.
    let is = start_of_command at command in
    let next = at + length (bytes_of_command command) in
    let says = statement_said (command_of (word_of at command)) in (
      omega (arith, is, le),
      elim (is_end says)
          as (λ b. AscendFrom (start_of (word_of at command) + 1)
          (cond b [] (places_from len (says ∷ past) (map told_of (words_told (words_of next pieces) ++ rest))))) [
            | true ↦ tt
            | false ↦ ascend_words len (start_of (word_of at command) + 1) next end pieces rest
                (omega (arith, is, some_bytes command))
                (omega (arith, ends, length-append (bytes_of_command command) (flat_map bytes_of pieces))) behind (says ∷ past)
          ],
    )

pub places_ascend : (text : List ℕ) → AscendFrom 0 (places_from (length text) [] (map told_of (reading 0 text)))
places_ascend text = by (stops_at_the_longest_front text) [] where
  by : HasCutting text ⊎ HasCutFront text → Ascend (length text) 0 (reading 0 text)
  by (inl cut) = subst (Ascend (length text) 0) (sym (read_whole text cut))
      (ascend_words (length text) 0 0 (length text) cut.0 [] (omega arith) (omega (arith, ap length cut.1.joined)) (λ low le past. (le, tt)))
  by (inr cut) =
      let front = flat_map bytes_of cut.0 in
      let more = some_behind cut.1 cut.3.begins in
      let size : length text ≡ length front + length cut.1 = ap length cut.3.joined ∙ length-append front cut.1 in
      subst (Ascend (length text) 0) (sym cut.3.read)
      (ascend_words (length text) 0 0 (length front) cut.0 (Err cut.2 ∷ []) (omega arith) (omega arith)
      (λ low le past. (omega (arith, le, cut.3.place), (omega (arith, cut.3.place, size, more), tt))))
