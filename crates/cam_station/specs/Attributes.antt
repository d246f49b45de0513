-- Edits of file attributes show in no tile and in no picture.
use Rattle.std.specs.Prelude.{◌≡◌}
use Rattle.cam_edits.specs.declared.edit.Edit.{Edit}
use Rattle.cam_edits.specs.AttributeLaws.{IsOfAttributes}
use Rattle.cam_script.specs.Commands.{edit_command}
use Rattle.cam_station.specs.Documents.{SamePictures}
use Rattle.cam_station.specs.Machine.{State, MemoryGrant}
use Rattle.cam_station.specs.Calls.{state_after}

-- each tile is clean or dirty as it was, and shows what it did; and in every window each layer has the picture that it
-- had
pub record ShowsNowhere (before after : State) : Type 0 where
  pub tiles : after.tables ≡ before.tables
  pub pictures : SamePictures before.timeline.document after.timeline.document

-- in every state, whether the edit is accepted or refused
abbrev pub AttributesShowNowhere : Type 0
AttributesShowNowhere = (s : State) (edit : Edit) (memory : MemoryGrant) → IsOfAttributes edit.change
    → ShowsNowhere s (state_after s (edit_command edit, memory))
