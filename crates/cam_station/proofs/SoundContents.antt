-- What a load reads is sound, and so is what stands at a place among sound layers.
use Rattle.std.proofs.Common.{◌≡◌, ℕ, List, Result, Ok, Err, refl, subst}
use Rattle.std.specs.Prelude.{slice_get}
use Rattle.cam_objects.specs.Contents.{Content as GerberContent, DrillContent}
use Rattle.cam_refusals.specs.declared.read_fault.ReadFault.{ReadFault}
use Rattle.cam_gerber.specs.Computing.{reading_of as gerber_reading}
use Rattle.cam_gerber.proofs.Computed.{attributes_are_sound, reading_is_sound as gerber_is_sound}
use Rattle.cam_xnc.specs.Reading.{drill_reading_of as drill_reading}
use Rattle.cam_xnc.proofs.SoundReadings.{reading_is_sound as drill_is_sound}
use Rattle.cam_script.specs.declared.command.FileKind.{FileKind}
use Rattle.cam_script.specs.declared.command.FileKind.TheVariants as kinds
use Rattle.cam_edits.specs.Boards.{content_at}
use Rattle.cam_edits.specs.Sheets.{AreSound, Content, Gerber, Drill, IsSound, Sheet}
use Rattle.cam_edits.proofs.SoundEdits.{held_sound}
use Rattle.cam_station.specs.declared.fault.Fault.{Fault}
use Rattle.cam_station.specs.Meanings.{drill_meaning, gerber_meaning, meaning_of}

-- ---- loads

-- a content that is answered is sound
abbrev pub IsSoundAnswer : {F : Type 0} → Result Content F → Type 0
IsSoundAnswer (Ok c) = IsSound c
IsSoundAnswer (Err f) = Unit {0}

gerber_sound : (r : Result GerberContent ReadFault) → ((c : GerberContent) → r ≡ Ok c → IsSound (Gerber c))
    → IsSoundAnswer (gerber_meaning r)
gerber_sound (Ok c) sound = sound c refl
gerber_sound (Err f) sound = tt

drill_sound : (r : Result DrillContent ReadFault) → ((c : DrillContent) → r ≡ Ok c → IsSound (Drill c))
    → IsSoundAnswer (drill_meaning r)
drill_sound (Ok c) sound = sound c refl
drill_sound (Err f) sound = tt

meaning_sound : (kind : FileKind) (bytes : List ℕ) → IsSoundAnswer (meaning_of kind bytes)
meaning_sound kinds.Gerber bytes =
    gerber_sound (gerber_reading bytes)
    (λ c e. record { attributes = attributes_are_sound bytes c e; content = gerber_is_sound bytes c e })
meaning_sound kinds.Drill bytes = drill_sound (drill_reading bytes) (drill_is_sound bytes)

answer_sound : (r : Result Content Fault) (c : Content) → IsSoundAnswer r → r ≡ Ok c → IsSound c
answer_sound r c h e = subst (λ (answer : Result Content Fault). IsSoundAnswer answer) e h

-- what a file means is sound
pub content_read : (kind : FileKind) (bytes : List ℕ) (c : Content) → meaning_of kind bytes ≡ Ok c → IsSound c
content_read kind bytes c e = answer_sound (meaning_of kind bytes) c (meaning_sound kind bytes) e

-- ---- documents

-- what stands at a place is sound
pub place_sound : (sheets : List Sheet) (place : ℕ) → AreSound sheets → IsSound (content_at sheets place)
place_sound sheets place h = held_sound sheets place (slice_get sheets place) h refl
