-- Every layer of a station is sound.
use Rattle.std.specs.Prelude.{ℕ, List, Option, None, Some, All}
use Rattle.cam_edits.specs.Sheets.{AreSound, Sheet}
use Rattle.cam_undo.specs.Machine.{Timeline}
use Rattle.cam_station.specs.Machine.{fresh}
use Rattle.cam_station.specs.Calls.{Call, states_after}

abbrev pub IsSoundGroup : Option (List Sheet × ℕ) → Type 0
IsSoundGroup None = Unit {0}
IsSoundGroup (Some group) = AreSound group.0

-- the layers of the document, and those of the documents that an undo, a redo or an abort can lead to
pub record IsSoundTimeline (t : Timeline (List Sheet)) : Type 0 where
  pub document : AreSound t.document
  pub past : All AreSound t.past
  pub future : All AreSound t.future
  pub group : IsSoundGroup t.group

-- sound layers, after any list of commands
abbrev pub SoundLaw : Type 0
SoundLaw = (depth : ℕ) (before : List Call) → IsSoundTimeline (states_after (fresh depth) before).timeline
