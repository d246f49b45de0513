-- A text's cutting into words, extended commands and what is skipped between them.
-- Gerber Layer Format Specification, "Syntax", "Commands", "Data blocks" and "Extended code commands".
use Rattle.std.specs.Prelude.{◌≡◌, ◌≢◌, ℕ, ◌+◌, ◌<◌, List, [], ◌∷◌, ◌++◌, length, false, if◌then◌else◌}
use Rattle.std.specs.List.{flat_map, AllByRecursion}
use Rattle.cam_words.specs.declared.word.Kind.{Kind}
use Rattle.cam_words.specs.declared.word.Kind.TheVariants.{Plain, Comment, Extended}
use Rattle.cam_words.specs.Bytes.{star, percent, is_skipped, IsSkipped}
use Rattle.cam_words.specs.Heads.{is_comment, is_forbidden_in_word, is_forbidden_in_extended}

pub data Command : Type 0 where
  -- a text and its `*`
  WordCommand : List ℕ → Command
  -- between two `%` a text, its `*`, and the skipped bytes behind it
  ExtendedCommand : List ℕ → List ℕ → Command

pub data Piece : Type 0 where
  -- a run of skipped bytes
  Blank : List ℕ → Piece
  Whole : Command → Piece

abbrev pub bytes_of_command : Command → List ℕ
bytes_of_command (WordCommand text) = text ++ star ∷ []
bytes_of_command (ExtendedCommand text tail) = percent ∷ text ++ star ∷ tail ++ percent ∷ []

abbrev pub bytes_of : Piece → List ℕ
bytes_of (Blank run) = run
bytes_of (Whole command) = bytes_of_command command

-- the first byte, if there is one, is neither skipped nor a `%`
abbrev pub BeginsAsWord : List ℕ → Type 0
BeginsAsWord [] = Unit {0}
BeginsAsWord (byte ∷ text) = (is_skipped byte ≡ false) × (byte ≢ percent)

abbrev pub IsCommand : Command → Type 0
IsCommand (WordCommand text) =
    BeginsAsWord text
    × AllByRecursion (λ byte. (byte ≢ star) × (is_forbidden_in_word text byte ≡ false)) text
IsCommand (ExtendedCommand text tail) =
    AllByRecursion (λ byte. (byte ≢ percent) × (is_forbidden_in_extended text byte ≡ false)) text
    × AllByRecursion IsSkipped tail

abbrev pub IsPiece : Piece → Type 0
IsPiece (Blank run) = (0 < length run) × AllByRecursion IsSkipped run
IsPiece (Whole command) = IsCommand command

-- no run follows a run
abbrev pub IsApart : Piece → List Piece → Type 0
IsApart (Blank run) (Blank next ∷ pieces) = ⊥
IsApart piece pieces = Unit {0}

abbrev pub AreApart : List Piece → Type 0
AreApart [] = Unit {0}
AreApart (piece ∷ pieces) = IsApart piece pieces × AreApart pieces

-- the pieces are what the text is made of
pub record IsCutting (text : List ℕ) (pieces : List Piece) : Type 0 where
  pub joined : text ≡ flat_map bytes_of pieces
  pub each : AllByRecursion IsPiece pieces
  pub apart : AreApart pieces

-- a word, and the place of its first byte
pub record FoundWord : Type 0 where
  pub kind : Kind
  pub text : List ℕ
  pub at : ℕ

-- the word of a command that stands at a place
abbrev pub word_of : ℕ → Command → FoundWord
word_of at (WordCommand text) = record { kind = if is_comment text then Comment else Plain; text = text; at = at }
word_of at (ExtendedCommand text tail) = record { kind = Extended; text = text; at = at + 1 }

-- the words of the pieces, the first of which stands at a place
abbrev pub words_of : ℕ → List Piece → List FoundWord
words_of at [] = []
words_of at (Blank run ∷ pieces) = words_of (at + length run) pieces
words_of at (Whole command ∷ pieces) = word_of at command ∷ words_of (at + length (bytes_of_command command)) pieces
