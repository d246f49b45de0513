-- Canonical Gerber texts are read back: from the phrases of a text to what the reader is told by it, and to its layer.
use Rattle.std.proofs.Common.{◌≡◌, ℕ, ◌+◌, List, [], ◌∷◌, ◌++◌, length, map, false, refl, sym, ap, ◌∙◌, arith, codes}
use Rattle.std.proofs.Common.{append-nil, append_assoc, Ok, drop, zero, suc}
use Rattle.std.specs.Prelude.{reverse}
use Rattle.std.specs.List.{flat_map, AllByRecursion}
use Rattle.std.proofs.lemmas.List.{reverse-append, map-append}
use Rattle.cam_refusals.specs.Checks.{least}
use Rattle.cam_refusals.specs.Refusals.{number_of}
use Rattle.cam_words.specs.Cutting.{Command, Piece, Blank, Whole, bytes_of_command}
use Rattle.cam_words.specs.Cutting.{bytes_of, IsPiece, IsApart, AreApart, IsCutting, word_of, words_of}
use Rattle.cam_words.specs.Reading.{WordAnswer, words_told}
use Rattle.cam_words.proofs.Cuttings.{reads_its_words}
use Rattle.cam_commands.specs.Syntax.{command_of}
use Rattle.cam_gerber.specs.Statements.{Statement}
use Rattle.cam_gerber.specs.State.{Past}
use Rattle.cam_gerber.specs.Layers.{layer_in}
use Rattle.cam_gerber.specs.Faults.{faults}
use Rattle.cam_gerber.specs.Reading.{is_end}
use Rattle.cam_gerber.specs.Computing.{statement_said, told_of, lead_of, reading_of}
use Rattle.cam_gerber.specs.Laws.{IsFaultless}
use Rattle.cam_gerber.proofs.Reading.{ends, goes_on}
use Rattle.cam_writers.specs.Phrases.{said, spelled, line_of, Finish}
use Rattle.cam_writers.specs.GerberTexts.{Phrases, text_of, said_by, phrases_before_end, gerber_text}
use Rattle.cam_writers.specs.Laws.{IsToldByPhrases, TellsItsCommands, GerberReadsBack, GerberWritesAgain}
use Rattle.cam_writers.proofs.GerberSayings.{Spells, says}
use Rattle.cam_writers.proofs.GerberSpelling.{all_spell, all_spelled, endless, spells}
use Rattle.cam_writers.proofs.Walks.{same_answer}
use Rattle.cam_writers.proofs.GerberItems.{past_is_faultless, end_is_faultless, past_is_layer}

-- ---- the pieces of a text

-- each phrase in its order, before other pieces
abbrev before : Phrases → List Piece → List Piece
before [] after = after
before (phrase ∷ older) after = before older (Whole (spelled phrase) ∷ Blank (codes "\n") ∷ after)

joined : (phrases : Phrases) (after : List Piece) → flat_map bytes_of (before phrases after) ≡ text_of phrases ++ flat_map bytes_of after
joined [] after = refl
joined (phrase ∷ older) after =
    let rest : List ℕ = flat_map bytes_of after in
    joined older (Whole (spelled phrase) ∷ Blank (codes "\n") ∷ after)
    ∙ ap (λ (line : List ℕ). text_of older ++ line) (sym (append_assoc (bytes_of_command (spelled phrase)) (codes "\n") rest))
    ∙ sym (append_assoc (text_of older) (line_of (spelled phrase)) rest)

each : (phrases : Phrases) (after : List Piece) → AllByRecursion Spells phrases → AllByRecursion IsPiece after
    → AllByRecursion IsPiece (before phrases after)
each [] after spell all = all
each (phrase ∷ older) after spell all = each older _ spell.1 (spell.0.found, ((omega arith, (refl, tt)), all))

apart : (phrases : Phrases) (after : List Piece) → AreApart after → IsApart (Blank (codes "\n")) after → AreApart (before phrases after)
apart [] after all first = all
apart (phrase ∷ older) after all first = apart older (Whole (spelled phrase) ∷ Blank (codes "\n") ∷ after) (tt, (first, all)) tt

cutting : (phrases : Phrases) → AllByRecursion Spells phrases → IsCutting (text_of phrases) (before phrases [])
cutting phrases spell = grind (arith, joined, append-nil, each, apart)

-- ---- what is read

-- wherever it stands, a command says the same
said_anywhere : (k : ℕ) (command : Command) → statement_said (command_of (word_of k command)) ≡ says command
unfolding command_of
said_anywhere k command = grind arith

abbrev says_of : WordAnswer → Statement
says_of answer = (told_of answer).says

abbrev answers_from : ℕ → List Piece → List WordAnswer
answers_from at pieces = words_told (words_of at pieces)

abbrev AreEndless : Past → Type 0
AreEndless past = AllByRecursion (λ says. is_end says ≡ false) past

-- phrases without a fault are read up to the pieces behind them
record AreRead (phrases : Phrases) (after : List Piece) (at : ℕ) : Type 0 where
  lead : (len : ℕ) → lead_of len [] (answers_from 0 (before phrases after)) ≡ lead_of len (said_by phrases) (answers_from at after)
  told : map says_of (reverse (answers_from 0 (before phrases after))) ≡ map says_of (reverse (answers_from at after)) ++ said_by phrases

read : (phrases : Phrases) (after : List Piece) → AllByRecursion Spells phrases → IsFaultless (said_by phrases)
    → AreEndless (said_by phrases) → (at : ℕ) × AreRead phrases after at
read [] after spell none endless = grind (arith, append-nil)
read (phrase ∷ older) after spell none endless =
    let rest = read older (Whole (spelled phrase) ∷ Blank (codes "\n") ∷ after) spell.1 none.1 endless.1 in
    let answer : WordAnswer = Ok (word_of rest.0 (spelled phrase)) in
    let same : says_of answer ≡ said phrase = said_anywhere rest.0 (spelled phrase) ∙ spell.0.means in
    let at = rest.0 + length (bytes_of_command (spelled phrase)) + length (codes "\n") in
    let behind : List WordAnswer = answers_from at after in
    let turned : List Statement = map says_of (reverse behind) in (
      at,
      record {
        lead = λ len. rest.1.lead len
            ∙ goes_on len (said_by older) (told_of answer) (map told_of behind)
            (ap (λ s. least number_of (faults (said_by older) s)) same ∙ none.0) (ap is_end same ∙ endless.0)
            ∙ ap (λ s. lead_of len (s ∷ said_by older) behind) same;
        told = rest.1.told
            ∙ ap (λ (ls : List WordAnswer). map says_of ls ++ said_by older) (reverse-append (answer ∷ []) behind)
            ∙ ap (λ (ss : List Statement). ss ++ said_by older) (map-append says_of (reverse behind) (answer ∷ []))
            ∙ append_assoc turned (says_of answer ∷ []) (said_by older)
            ∙ ap (λ s. turned ++ s ∷ said_by older) same;
      },
    )

phrases_told : (phrases : Phrases) → AllByRecursion Spells phrases → IsFaultless (said_by phrases) → AreEndless (said_by phrases)
    → IsToldByPhrases phrases
phrases_told phrases spell none endless =
    ap (λ answers. map says_of (reverse answers)) (reads_its_words (text_of phrases) (before phrases []) (cutting phrases spell))
    ∙ (read phrases [] spell none endless).1.told

-- wherever the phrases are cut
front_told : (left : ℕ) (phrases : Phrases) → AllByRecursion Spells phrases → IsFaultless (said_by phrases)
    → AreEndless (said_by phrases) → IsToldByPhrases (drop left phrases)
front_told zero phrases spell none endless = phrases_told phrases spell none endless
front_told (suc left) [] spell none endless = phrases_told [] spell none endless
front_told (suc left) (phrase ∷ older) spell none endless = front_told left older spell.1 none.1 endless.1

pub tells_its_commands : TellsItsCommands
tells_its_commands layer left set sound = grind (arith, all_spelled, each, front_told, all_spell, past_is_faultless, endless)

-- the phrases, and the end behind them
pub gerber_reads_back : GerberReadsBack
unfolding reading_of gerber_text
gerber_reads_back layer set sound =
    let phrases : Phrases = phrases_before_end layer.attributes layer.entries layer.items in
    let spelled_all = (all_spelled layer.attributes layer.entries layer.items set sound).each in
    let spell = all_spell phrases spelled_all in
    let end = spells Finish tt in
    let whole : Phrases = Finish ∷ phrases in
    let len = length (text_of whole) in
    let rest = read phrases (Whole (spelled Finish) ∷ Blank (codes "\n") ∷ []) spell
    (past_is_faultless layer.attributes layer.entries layer.items set sound) (endless phrases spelled_all) in
    let answer : WordAnswer = Ok (word_of rest.0 (spelled Finish)) in
    let same : says_of answer ≡ said Finish = said_anywhere rest.0 (spelled Finish) ∙ end.means in
    ap (lead_of len []) (reads_its_words (text_of whole) (before whole []) (cutting whole (end, spell)))
    ∙ rest.1.lead len
    ∙ ends len (said_by phrases) (told_of answer) [] (ap (λ s. least number_of (faults (said_by phrases) s)) same
    ∙ end_is_faultless layer.attributes layer.entries layer.items set sound) (ap is_end same)
    ∙ ap (λ s. Ok (layer_in (s ∷ said_by phrases))) same
    ∙ ap Ok (past_is_layer layer.attributes layer.entries layer.items set sound)

pub gerber_writes_again : GerberWritesAgain
gerber_writes_again layer again set sound read = grind (arith, same_answer, read, gerber_reads_back)
