-- A layer that a file gives is sound.
use Rattle.std.proofs.Common.{◌≡◌, ℕ, List, [], ◌∷◌, length, map, Bool, true, false, cond, Option, Some, None, Ok, refl, subst, arith}
use Rattle.std.specs.List.{AllByRecursion}
use Rattle.std.specs.Option.{option_map, option_or}
use Rattle.cam_words.specs.Reading.{WordAnswer, reading}
use Rattle.cam_objects.specs.Attributes.{AreAttributes}
use Rattle.cam_objects.specs.Soundness.{IsSoundContent}
use Rattle.cam_commands.specs.Commands.{Command}
use Rattle.cam_objects.specs.Contents.{Content}
use Rattle.cam_refusals.specs.declared.refusal.Refusal.{Refusal}
use Rattle.cam_refusals.specs.Checks.{least}
use Rattle.cam_refusals.specs.FileFaults.{first_told}
use Rattle.cam_refusals.specs.Refusals.{number_of}
use Rattle.cam_gerber.specs.Statements.{Statement}
use Rattle.cam_gerber.specs.State.{Past}
use Rattle.cam_gerber.specs.Attributes.{attributes_in}
use Rattle.cam_gerber.specs.Layers.{layer_in}
use Rattle.cam_gerber.specs.Faults.{faults}
use Rattle.cam_gerber.specs.Reading.{Means, is_end, layer_unless, past_from, places_from}
use Rattle.cam_gerber.specs.Computing.{lead_of, reading_of, statement_said, told_of}
use Rattle.cam_gerber.specs.Laws.{GivesSoundLayers, IsFaultless}
use Rattle.cam_gerber.specs.Machinery.OpenNumbers.{OpensWithin, StatesWithin}
use Rattle.cam_gerber.proofs.AttributeTexts.{IsClean, attributes_step, clean_answers, no_attributes, told_text}
use Rattle.cam_gerber.proofs.Reading.{reading_is}
use Rattle.cam_gerber.proofs.OpenNumbers.{opens_within}
use Rattle.cam_gerber.proofs.SoundPasts.{Sound, at_start, sound_step}

-- ---- what is told names numbers of entries

pub stated_within : (command : Command) → OpensWithin command → StatesWithin (statement_said command)
stated_within command within = grind arith

told_within : (answer : WordAnswer) → StatesWithin (told_of answer).says
told_within answer = grind (arith, stated_within, opens_within)

-- ---- the layer

sound_lists : (past : Past) → Sound past → IsSoundContent (layer_in past).entries (layer_in past).items
sound_lists past s = grind arith

-- what a file gives has sound attributes, entries and items
record IsSoundAnswer (content : Content) : Type 0 where
  lists : IsSoundContent content.entries content.items
  attributes : AreAttributes content.attributes

sound_from : (len : ℕ) (past : Past) (answers : List WordAnswer) (content : Content) → AllByRecursion IsClean answers → IsFaultless past
    → Sound past → AreAttributes (attributes_in past) → Ok content ≡ lead_of len past answers → IsSoundAnswer content
sound_from len past [] content clean a s at e = absurd cc
sound_from len past (answer ∷ answers) content clean a s at e =
    go (least number_of (faults past says)) refl (is_end says) e (λ a s at. sound_from len now answers content clean.1 a s at)
  where
    says : Statement
    says = (told_of answer).says

    now : Past
    now = says ∷ past

    go : (o : Option Refusal) → least number_of (faults past says) ≡ o → (ends : Bool)
        → Ok content ≡ layer_unless
        (option_or (option_map (λ refusal. record { code = refusal; at = (told_of answer).at }) o)
        (first_told (cond ends [] (places_from len now (map told_of answers)))))
        (layer_in (cond ends now (past_from now (map told_of answers))))
        → (IsFaultless now → Sound now → AreAttributes (attributes_in now) → Ok content ≡ lead_of len now answers → IsSoundAnswer content)
        → IsSoundAnswer content
    go (Some refusal) is ends given more = absurd cc
    go None is true given more =
        let same : layer_in now ≡ content = cc in
        subst IsSoundAnswer same
        (record {
          lists = sound_lists now (sound_step past says (told_within answer) a s is);
          attributes = attributes_step past says (told_text answer clean.0) is at;
        })
    go None is false given more =
        more (is, a) (sound_step past says (told_within answer) a s is) (attributes_step past says (told_text answer clean.0) is at) given

content_answer : (bytes : List ℕ) (content : Content) → Means bytes (Ok content) → IsSoundAnswer content
unfolding reading_of
content_answer bytes content h =
    sound_from (length bytes) [] (reading 0 bytes) content (clean_answers bytes) tt at_start no_attributes (reading_is bytes (Ok content) h)

pub content_is_sound : (bytes : List ℕ) (content : Content) → Means bytes (Ok content) → IsSoundContent content.entries content.items
content_is_sound bytes content h = (content_answer bytes content h).lists

pub attributes_are_sound : (bytes : List ℕ) (content : Content) → Means bytes (Ok content) → AreAttributes content.attributes
attributes_are_sound bytes content h = (content_answer bytes content h).attributes

pub reading_is_sound : GivesSoundLayers
reading_is_sound bytes layer h = grind (arith, attributes_are_sound, content_is_sound)
