-- Pieces are read one by one, and a text has one cutting.
use Rattle.std.proofs.Common.{◌≡◌, ℕ, ◌+◌, ◌<◌, List, [], ◌∷◌, ◌++◌, length, take, drop, Bool, true, false, Option}
use Rattle.std.proofs.Common.{Some, None, Result, Ok, Err, refl, sym, ap, ◌∙◌, arith, length-append, append_assoc}
use Rattle.std.specs.List.{prefix_len, flat_map, AllByRecursion}
use Rattle.std.proofs.lemmas.List.{take_at, drop_at, drop-drop, append-nil, append_cancel_left}
use Rattle.cam_refusals.specs.declared.refusal.Refusal.{Refusal}
use Rattle.cam_words.specs.Bytes.{is_skipped, IsSkipped}
use Rattle.cam_words.specs.Cutting.{Command, Piece, Blank, Whole, bytes_of_command, bytes_of, IsCommand, IsPiece}
use Rattle.cam_words.specs.Cutting.{IsApart, AreApart, word_of, words_of}
use Rattle.cam_words.specs.Reading.{WordAnswer, words_told, answers_at, answers_by, reading}
use Rattle.cam_words.specs.Laws.{AtMostOneCutting, ReadsItsWords}
use Rattle.cam_words.proofs.Steps.{reading_is, reading-nil, has_a_byte}
use Rattle.cam_words.proofs.Commands.{found_at, found_at-command, unskipped_front}

-- skipped bytes before a text
pub prefix_len-append : (run text : List ℕ) → AllByRecursion IsSkipped run → prefix_len is_skipped (run ++ text)
    ≡ length run + prefix_len is_skipped text
prefix_len-append [] text skipped = omega arith
prefix_len-append (byte ∷ run) text skipped = rw (skipped.0, prefix_len-append run text skipped.1) (omega arith)

pub reading-blank : (at : ℕ) (run text : List ℕ) → AllByRecursion IsSkipped run
    → reading at (run ++ text) ≡ reading (at + length run) text
reading-blank at run text skipped =
    let n = prefix_len-append run text skipped in
    let place : at + (length run + prefix_len is_skipped text) ≡ at + length run + prefix_len is_skipped text =
    omega arith in
    let rest : drop (length run + prefix_len is_skipped text) (run ++ text) ≡ drop (prefix_len is_skipped text) text =
    sym (drop-drop (prefix_len is_skipped text) (length run) (run ++ text))
    ∙ ap (drop (prefix_len is_skipped text)) (drop_at run text (length run) refl) in
    reading_is at (run ++ text) ∙ rw (n, place, rest) refl ∙ sym (reading_is (at + length run) text)

-- a command before a text
answers_at-found : (at : ℕ) (text : List ℕ) (command : Command) → found_at text ≡ Ok command
    → answers_at reading at text
    ≡ Ok (word_of at command) ∷ reading (at + length (bytes_of_command command))
    (drop (length (bytes_of_command command)) text)
answers_at-found at [] command e = absurd cc
answers_at-found at (first ∷ rest) command e = ap (answers_by reading at (first ∷ rest)) e

pub reading-command : (at : ℕ) (command : Command) (text : List ℕ) → IsCommand command
    → reading at (bytes_of_command command ++ text)
    ≡ Ok (word_of at command) ∷ reading (at + length (bytes_of_command command)) text
reading-command at command text is =
    let bytes : List ℕ = bytes_of_command command in
    let none = unskipped_front command text is in
    let here : at + 0 ≡ at = omega arith in
    let front : reading at (bytes_of_command command ++ text)
    ≡ answers_at reading at (bytes_of_command command ++ text) = reading_is at (bytes_of_command command ++ text)
    ∙ rw (none, here) refl in
    front ∙ answers_at-found at (bytes_of_command command ++ text) command (found_at-command command text is)
    ∙ ap (λ (rest : List ℕ). Ok (word_of at command) ∷ reading (at + length (bytes_of_command command)) rest)
    (drop_at (bytes_of_command command) text (length (bytes_of_command command)) refl)

-- pieces before a text
pub reading-pieces : (at : ℕ) (pieces : List Piece) (text : List ℕ) → AllByRecursion IsPiece pieces
    → reading at (flat_map bytes_of pieces ++ text)
    ≡ words_told (words_of at pieces) ++ reading (at + length (flat_map bytes_of pieces)) text
reading-pieces at [] text each = let here : at ≡ at + 0 = omega arith in ap (λ (place : ℕ). reading place text) here
reading-pieces at (Blank run ∷ pieces) text each =
    let behind : List ℕ = flat_map bytes_of pieces in
    let place : at + length run + length (flat_map bytes_of pieces) ≡ at + length (run ++ flat_map bytes_of pieces) =
    omega (arith, length-append run (flat_map bytes_of pieces)) in
    ap (reading at) (append_assoc run (flat_map bytes_of pieces) text)
    ∙ reading-blank at run (flat_map bytes_of pieces ++ text) each.0.1
    ∙ reading-pieces (at + length run) pieces text each.1
    ∙ ap (λ (n : ℕ). words_told (words_of (at + length run) pieces) ++ reading n text) place
reading-pieces at (Whole command ∷ pieces) text each =
    let len : ℕ = length (bytes_of_command command) in
    let place : at + length (bytes_of_command command) + length (flat_map bytes_of pieces)
    ≡ at + length (bytes_of_command command ++ flat_map bytes_of pieces) =
    omega (arith, length-append (bytes_of_command command) (flat_map bytes_of pieces)) in
    ap (reading at) (append_assoc (bytes_of_command command) (flat_map bytes_of pieces) text)
    ∙ reading-command at command (flat_map bytes_of pieces ++ text) each.0
    ∙ ap (λ (answers : List WordAnswer). Ok (word_of at command) ∷ answers)
    (reading-pieces (at + length (bytes_of_command command)) pieces text each.1
    ∙ ap (λ (n : ℕ). words_told (words_of (at + length (bytes_of_command command)) pieces) ++ reading n text) place)

pub reads_its_words : ReadsItsWords
reads_its_words text pieces is =
    ap (reading 0) (is.joined ∙ sym (append-nil (flat_map bytes_of pieces))) ∙ reading-pieces 0 pieces [] is.each
    ∙ ap (λ (answers : List WordAnswer). words_told (words_of 0 pieces) ++ answers) (reading-nil _)
    ∙ append-nil (words_told (words_of 0 pieces))

-- the piece at the front of a text, by whether its first byte is skipped
piece_of : Result Command Refusal → Option Piece
piece_of (Ok command) = Some (Whole command)
piece_of (Err code) = None

piece_by : Bool → List ℕ → Option Piece
piece_by true text = Some (Blank (take (prefix_len is_skipped text) text))
piece_by false text = piece_of (found_at text)

piece_at : List ℕ → Option Piece
piece_at [] = None
piece_at (byte ∷ text) = piece_by (is_skipped byte) (byte ∷ text)

-- the text behind a piece does not go on with skipped bytes, if the piece is a run of them
abbrev GoesOn : Piece → List ℕ → Type 0
GoesOn (Blank run) text = prefix_len is_skipped text ≡ 0
GoesOn (Whole command) text = Unit {0}

goes_on : (piece : Piece) (pieces : List Piece) → AllByRecursion IsPiece pieces → IsApart piece pieces
    → GoesOn piece (flat_map bytes_of pieces)
goes_on (Blank run) [] each apart = refl
goes_on (Blank run) (Blank next ∷ pieces) each apart = absurd apart
goes_on (Blank run) (Whole command ∷ pieces) each apart = unskipped_front command (flat_map bytes_of pieces) each.0
goes_on (Whole command) pieces each apart = tt

piece_at-blank : (run text : List ℕ) → IsPiece (Blank run) → prefix_len is_skipped text ≡ 0
    → piece_at (run ++ text) ≡ Some (Blank run)
unfolding piece_at piece_by
piece_at-blank [] text is ends = absurd (omega (arith, is.0))
piece_at-blank (byte ∷ run) text is ends =
    let n : prefix_len is_skipped ((byte ∷ run) ++ text) ≡ length (byte ∷ run) =
    prefix_len-append (byte ∷ run) text is.1 ∙ omega arith in
    let front : take (prefix_len is_skipped ((byte ∷ run) ++ text)) ((byte ∷ run) ++ text) ≡ byte ∷ run =
    take_at (byte ∷ run) text _ (sym n) in
    ap (λ (b : Bool). piece_by b ((byte ∷ run) ++ text)) is.1.0 ∙ ap (λ (front : List ℕ). Some (Blank front)) front

piece_at-unskipped : (text : List ℕ) (command : Command) → prefix_len is_skipped text ≡ 0 → found_at text ≡ Ok command
    → piece_at text ≡ Some (Whole command)
unfolding piece_at piece_by piece_of
piece_at-unskipped [] command none e = absurd cc
piece_at-unskipped (byte ∷ text) command none e =
    (elim (is_skipped byte) as (λ b. is_skipped byte ≡ b → piece_by b (byte ∷ text) ≡ Some (Whole command)) [
      | true ↦ λ s. absurd (let n : 1 + prefix_len is_skipped text ≡ 0 = rw s at none in omega arith)
      | false ↦ λ s. ap piece_of e
    ]) refl

piece_at-piece : (piece : Piece) (text : List ℕ) → IsPiece piece → GoesOn piece text
    → piece_at (bytes_of piece ++ text) ≡ Some piece
piece_at-piece (Blank run) text is ends = piece_at-blank run text is ends
piece_at-piece (Whole command) text is ends =
    piece_at-unskipped (bytes_of_command command ++ text) command (unskipped_front command text is)
    (found_at-command command text is)

pub has_bytes : (piece : Piece) → IsPiece piece → 0 < length (bytes_of piece)
has_bytes (Blank run) is = is.0
has_bytes (Whole command) is = has_a_byte command

some_bytes : (piece : Piece) (text : List ℕ) → IsPiece piece → [] ≡ bytes_of piece ++ text → ⊥
some_bytes piece text is e =
    absurd (omega (arith, has_bytes piece is, length-append (bytes_of piece) text, ap length e))

same_pieces : (pieces others : List Piece) → AllByRecursion IsPiece pieces → AllByRecursion IsPiece others
    → AreApart pieces → AreApart others → flat_map bytes_of pieces ≡ flat_map bytes_of others → pieces ≡ others
same_pieces [] [] each other apart apart' e = refl
same_pieces [] (piece ∷ others) each other apart apart' e =
    absurd (some_bytes piece (flat_map bytes_of others) other.0 e)
same_pieces (piece ∷ pieces) [] each other apart apart' e =
    absurd (some_bytes piece (flat_map bytes_of pieces) each.0 (sym e))
same_pieces (piece ∷ pieces) (next ∷ others) each other apart apart' e =
    let here = piece_at-piece piece (flat_map bytes_of pieces) each.0 (goes_on piece pieces each.1 apart.0) in
    let there = piece_at-piece next (flat_map bytes_of others) other.0 (goes_on next others other.1 apart'.0) in
    let read : Some piece ≡ Some next = sym here ∙ ap piece_at e ∙ there in
    let same : piece ≡ next = cc in
    let behind : flat_map bytes_of pieces ≡ flat_map bytes_of others =
    append_cancel_left (bytes_of piece) (flat_map bytes_of pieces) (flat_map bytes_of others)
    (e ∙ ap (λ (p : Piece). bytes_of p ++ flat_map bytes_of others) (sym same)) in
    let rest = same_pieces pieces others each.1 other.1 apart.1 apart'.1 behind in cc

pub at_most_one_cutting : AtMostOneCutting
at_most_one_cutting text pieces others is other =
    same_pieces pieces others is.each other.each is.apart other.apart (sym is.joined ∙ other.joined)
