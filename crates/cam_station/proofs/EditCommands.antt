-- The step of a command that is that of an edit.
use Rattle.std.proofs.Common.{◌≡◌, ℕ, List, refl}
use Rattle.cam_edits.specs.declared.edit.Change.{Change}
use Rattle.cam_edits.specs.declared.edit.Change.TheVariants as changes
use Rattle.cam_edits.specs.declared.edit.Edit.{Edit}
use Rattle.cam_script.specs.Commands.{changing, edit_command}
use Rattle.cam_station.specs.Machine.{State, MemoryGrant, edit_of, edit_step, step}

step_of_change : (s : State) (name : List ℕ) (change : Change) (memory : MemoryGrant)
    → step s (changing name change) memory ≡ edit_step s (edit_of name change) memory
step_of_change s name (changes.Insert k item) memory = refl
step_of_change s name (changes.Delete k) memory = refl
step_of_change s name (changes.Move k dx dy) memory = refl
step_of_change s name (changes.Reorder k m) memory = refl
step_of_change s name (changes.Aperture k n) memory = refl
step_of_change s name (changes.Polarity k dark) memory = refl
step_of_change s name (changes.Tool k t) memory = refl
step_of_change s name (changes.Diameter t d) memory = refl
step_of_change s name (changes.SetAttribute key fields) memory = refl
step_of_change s name (changes.DropAttribute key) memory = refl

pub step_of_edit : (s : State) (edit : Edit) (memory : MemoryGrant)
    → step s (edit_command edit) memory ≡ edit_step s edit memory
step_of_edit s edit memory = step_of_change s edit.name edit.change memory
