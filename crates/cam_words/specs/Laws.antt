-- What ties the reading of a text to its cutting.
use Rattle.std.specs.Prelude.{◌≡◌, ◌≢◌, ◌⊎◌, ℕ, ◌≤◌, List, [], ◌∷◌, ◌++◌, length, true, false, Err, Any}
use Rattle.std.specs.List.{flat_map, AllByRecursion}
use Rattle.cam_refusals.specs.declared.refusal.Refusal.{Refusal}
use Rattle.cam_refusals.specs.declared.refusal.Refusal.TheVariants.{BadByte, Unterminated}
use Rattle.cam_words.specs.declared.word.TextFault.{TextFault}
use Rattle.cam_words.specs.Bytes.{star, percent, is_skipped}
use Rattle.cam_words.specs.Heads.{is_forbidden_in_word, is_forbidden_in_extended}
use Rattle.cam_words.specs.Cutting.{Piece, bytes_of, IsPiece, IsCutting, words_of}
use Rattle.cam_words.specs.Reading.{reading, words_told}

abbrev pub AtMostOneCutting : Type 0
AtMostOneCutting =
    (text : List ℕ) (pieces others : List Piece) → IsCutting text pieces → IsCutting text others → pieces ≡ others

abbrev pub ReadsItsWords : Type 0
ReadsItsWords =
    (text : List ℕ) (pieces : List Piece) → IsCutting text pieces → reading 0 text ≡ words_told (words_of 0 pieces)

-- what stands in a text before the first byte of that value, or all of it where there is none
pub record IsBefore (end : ℕ) (front text : List ℕ) : Type 0 where
  pub lacks : AllByRecursion (λ byte. byte ≢ end) front
  pub ends : (text ≡ front) ⊎ ((rest : List ℕ) × (text ≡ front ++ end ∷ rest))

-- the word at the front holds a byte that it may not hold
pub record HoldsForbiddenInWord (text : List ℕ) : Type 0 where
  pub first : ℕ
  pub others : List ℕ
  pub begins : text ≡ first ∷ others
  pub no_percent : first ≢ percent
  pub word : List ℕ
  pub is_word : IsBefore star word text
  pub holds : Any (λ byte. is_forbidden_in_word word byte ≡ true) word

-- the extended command at the front holds a byte that it may not hold; its `*` does not change whether its text is free
pub record HoldsForbiddenInExtended (text : List ℕ) : Type 0 where
  pub others : List ℕ
  pub begins : text ≡ percent ∷ others
  pub inside : List ℕ
  pub is_inside : IsBefore percent inside others
  pub holds : Any (λ byte. is_forbidden_in_extended inside byte ≡ true) inside

abbrev pub HoldsForbiddenByte : List ℕ → Type 0
HoldsForbiddenByte text = HoldsForbiddenInWord text ⊎ HoldsForbiddenInExtended text

-- a bad byte is told before a missing end
abbrev pub TellsFault : Refusal → List ℕ → Type 0
TellsFault code text =
    ((code ≡ BadByte) × HoldsForbiddenByte text) ⊎ ((code ≡ Unterminated) × (¬ HoldsForbiddenByte text))

abbrev pub BeginsCommand : List ℕ → Type 0
BeginsCommand [] = ⊥
BeginsCommand (byte ∷ text) = is_skipped byte ≡ false

abbrev pub BeginsWithPiece : List ℕ → Type 0
BeginsWithPiece text = (piece : Piece) × (rest : List ℕ) × IsPiece piece × (text ≡ bytes_of piece ++ rest)

-- no pieces make a longer front of the text
abbrev pub IsLongest : List ℕ → List Piece → Type 0
IsLongest text front =
    (pieces : List Piece) (rest : List ℕ) → AllByRecursion IsPiece pieces → text ≡ flat_map bytes_of pieces ++ rest
    → length (flat_map bytes_of pieces) ≤ length (flat_map bytes_of front)

-- the text is cut up to a place behind which a command would begin, and no piece does
pub record IsCutUpTo (text : List ℕ) (front : List Piece) (behind : List ℕ) (fault : TextFault) : Type 0 where
  pub joined : text ≡ flat_map bytes_of front ++ behind
  pub cutting : IsCutting (flat_map bytes_of front) front
  pub begins : BeginsCommand behind
  pub stuck : ¬ BeginsWithPiece behind
  pub longest : IsLongest text front
  pub read : reading 0 text ≡ words_told (words_of 0 front) ++ Err fault ∷ []
  pub place : fault.at ≡ length (flat_map bytes_of front)
  pub number : TellsFault fault.code behind

abbrev pub HasCutting : List ℕ → Type 0
HasCutting text = (pieces : List Piece) × IsCutting text pieces

abbrev pub HasCutFront : List ℕ → Type 0
HasCutFront text = (front : List Piece) × (behind : List ℕ) × (fault : TextFault) × IsCutUpTo text front behind fault

-- a text without a cutting has a longest front with one, and is read as that front's words and one fault
abbrev pub StopsAtTheLongestFront : Type 0
StopsAtTheLongestFront = (text : List ℕ) → HasCutting text ⊎ HasCutFront text
