-- Laws of canonical texts.
use Rattle.std.specs.Prelude.{◌≡◌, ℕ, drop, map, reverse, Ok}
use Rattle.cam_objects.specs.Attributes.{AreAttributes}
use Rattle.cam_objects.specs.DrillSoundness.{IsSoundDrillContent}
use Rattle.cam_objects.specs.Contents.{Content, DrillContent}
use Rattle.cam_objects.specs.Soundness.{IsSoundContent}
use Rattle.cam_words.specs.Reading.{reading}
use Rattle.cam_gerber.specs.Computing.{told_of, reading_of as gerber_reading}
use Rattle.cam_xnc.specs.Reading.{line_said, told_lines, drill_reading_of as drill_reading}
use Rattle.cam_writers.specs.DrillTexts.{Lines, text_of, said_by, lines_before_end, drill_text}
use Rattle.cam_writers.specs.GerberTexts.{Phrases, text_of as gerber_text_of, said_by as said_by_phrases}
use Rattle.cam_writers.specs.GerberTexts.{phrases_before_end, gerber_text}

-- what the reader has read of the text of these lines is what they say
abbrev pub IsTold : Lines → Type 0
IsTold lines = map line_said (reverse (told_lines (text_of lines))) ≡ said_by lines

-- wherever a canonical text is cut behind a line: so the state that settings are read off is the reader's
abbrev pub TellsItsLines : Type 0
TellsItsLines =
    (layer : DrillContent) (left : ℕ) → IsSoundDrillContent layer.tools layer.items
    → IsTold (drop left (lines_before_end layer.tools layer.items))

-- the canonical text of a drill layer is read as its tools and items
abbrev pub DrillReadsBack : Type 0
DrillReadsBack =
    (layer : DrillContent) → IsSoundDrillContent layer.tools layer.items
    → drill_reading (drill_text layer.tools layer.items) ≡ Ok layer

-- what was read from a canonical text is written as the same text
abbrev pub DrillWritesAgain : Type 0
DrillWritesAgain =
    (layer again : DrillContent) → IsSoundDrillContent layer.tools layer.items
    → drill_reading (drill_text layer.tools layer.items) ≡ Ok again
    → drill_text again.tools again.items ≡ drill_text layer.tools layer.items

-- ---- Gerber texts

-- what the reader is told by the text of these phrases is what they say
abbrev pub IsToldByPhrases : Phrases → Type 0
IsToldByPhrases phrases =
    map (λ answer. (told_of answer).says) (reverse (reading 0 (gerber_text_of phrases))) ≡ said_by_phrases phrases

-- wherever a canonical text is cut behind a phrase: so the state that settings are read off is the reader's
abbrev pub TellsItsCommands : Type 0
TellsItsCommands =
    (layer : Content) (left : ℕ) → AreAttributes layer.attributes → IsSoundContent layer.entries layer.items
    → IsToldByPhrases (drop left (phrases_before_end layer.attributes layer.entries layer.items))

-- the canonical text of a layer is read as its file attributes in order, its dictionary and its items
abbrev pub GerberReadsBack : Type 0
GerberReadsBack =
    (layer : Content) → AreAttributes layer.attributes → IsSoundContent layer.entries layer.items
    → gerber_reading (gerber_text layer.attributes layer.entries layer.items) ≡ Ok layer

-- what was read from a canonical text is written as the same text
abbrev pub GerberWritesAgain : Type 0
GerberWritesAgain =
    (layer again : Content) → AreAttributes layer.attributes → IsSoundContent layer.entries layer.items
    → gerber_reading (gerber_text layer.attributes layer.entries layer.items) ≡ Ok again
    → gerber_text again.attributes again.entries again.items ≡ gerber_text layer.attributes layer.entries layer.items
