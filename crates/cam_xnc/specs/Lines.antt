-- The lines of an XNC file. XNC Format Specification, "Syntax".
use Rattle.std.specs.Prelude.{◌≡◌, ℕ, ◌+◌, ◌<◌, List, [], ◌∷◌, ◌++◌, length, false, if◌then◌else◌, ◌==◌}
use Rattle.std.specs.List.{flat_map, AllByRecursion}
use Rattle.cam_xnc.specs.Bytes.{is_line_end}

-- what ends a line: LF, CR, CR LF, or the end of the input
pub data LineEnd : Type 0 where
  LineFeed : LineEnd
  CarriageReturn : LineEnd
  ReturnAndFeed : LineEnd
  InputEnd : LineEnd

pub record TextLine : Type 0 where
  pub text : List ℕ
  pub ending : LineEnd

abbrev pub bytes_of_end : LineEnd → List ℕ
bytes_of_end LineFeed = 10 ∷ []
bytes_of_end CarriageReturn = 13 ∷ []
bytes_of_end ReturnAndFeed = 13 ∷ 10 ∷ []
bytes_of_end InputEnd = []

abbrev pub line_bytes : TextLine → List ℕ
line_bytes line = line.text ++ bytes_of_end line.ending

-- no line end stands within a line
abbrev pub IsLine : TextLine → Type 0
IsLine line = AllByRecursion (λ byte. is_line_end byte ≡ false) line.text

-- nothing but LF
abbrev pub IsBareFeed : TextLine → Type 0
IsBareFeed line = (line.text ≡ []) × (line.ending ≡ LineFeed)

abbrev pub BeginsWithFeed : List TextLine → Type 0
BeginsWithFeed [] = ⊥
BeginsWithFeed (line ∷ lines) = IsBareFeed line

-- LF behind CR belongs to the same end; what the input ends is the last line, and not empty
abbrev pub IsEndedBefore : TextLine → List TextLine → LineEnd → Type 0
IsEndedBefore line lines LineFeed = Unit {0}
IsEndedBefore line lines CarriageReturn = ¬ BeginsWithFeed lines
IsEndedBefore line lines ReturnAndFeed = Unit {0}
IsEndedBefore line lines InputEnd = (0 < length line.text) × (lines ≡ [])

abbrev pub AreEnded : List TextLine → Type 0
AreEnded [] = Unit {0}
AreEnded (line ∷ lines) = IsEndedBefore line lines line.ending × AreEnded lines

-- the lines are what the text is made of
pub record IsLineCutting (text : List ℕ) (lines : List TextLine) : Type 0 where
  pub joined : text ≡ flat_map line_bytes lines
  pub each : AllByRecursion IsLine lines
  pub ended : AreEnded lines

-- the same lines, computed

-- a byte before lines that belongs to the first of them
abbrev pub onto_line : ℕ → List TextLine → List TextLine
onto_line byte [] = record { text = byte ∷ []; ending = InputEnd } ∷ []
onto_line byte (line ∷ lines) = record { text = byte ∷ line.text; ending = line.ending } ∷ lines

abbrev pub empty_line : LineEnd → TextLine
empty_line ending = record { text = []; ending = ending }

-- CR before a line
abbrev pub return_onto : List ℕ → LineEnd → TextLine → List TextLine → List TextLine
return_onto [] LineFeed line lines = empty_line ReturnAndFeed ∷ lines
return_onto _ _ line lines = empty_line CarriageReturn ∷ line ∷ lines

abbrev pub return_before : List TextLine → List TextLine
return_before [] = empty_line CarriageReturn ∷ []
return_before (line ∷ lines) = return_onto line.text line.ending line lines

-- a byte before lines
abbrev pub byte_before : ℕ → List TextLine → List TextLine
byte_before byte lines = if byte == 10 then empty_line LineFeed
    ∷ lines else if byte == 13 then return_before lines else onto_line byte lines

unfoldable pub cut : List ℕ → List TextLine
cut [] = []
cut (byte ∷ text) = byte_before byte (cut text)

-- a line that was found, and the place of its first byte
pub record FoundLine : Type 0 where
  pub text : List ℕ
  pub at : ℕ

-- lines, the first of which stands at a place
abbrev pub found_at : ℕ → List TextLine → List FoundLine
found_at at [] = []
found_at at (line ∷ lines) = record { text = line.text; at = at } ∷ found_at (at + length (line_bytes line)) lines

abbrev pub lines_of : List ℕ → List FoundLine
lines_of bytes = found_at 0 (cut bytes)

-- a text has one cutting into lines, the computed one
abbrev pub OneCutting : Type 0
OneCutting = (text : List ℕ) → IsLineCutting text (cut text) × ((lines : List TextLine) → IsLineCutting text lines → lines ≡ cut text)
