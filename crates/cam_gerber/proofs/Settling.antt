-- Another repeat is opened.
use Rattle.std.proofs.Common.{◌≡◌, ℕ, List, ◌∷◌, Bool, true, false, Option, Some, None, refl, ap, ◌∙◌, arith}
use Rattle.std.specs.Prelude.{ℤ, map, ◌||◌, ◌&&◌, not}
use Rattle.std.specs.Option.{option_map}
use Rattle.cam_refusals.specs.Checks.{first_holding}
use Rattle.cam_commands.specs.declared.parts.Repeat.{Repeat}
use Rattle.cam_commands.specs.declared.parts.Slot.{Slot}
use Rattle.cam_units.specs.declared.length.Unit.{Unit as FileUnit}
use Rattle.cam_commands.specs.Commands.{SetRepeat}
use Rattle.cam_gerber.specs.declared.frames.OpenRepeat.{OpenRepeat}
use Rattle.cam_gerber.specs.declared.running.Running.{Running}
use Rattle.cam_gerber.specs.Statements.{Says}
use Rattle.cam_gerber.specs.State.{Past, unit_in}
use Rattle.cam_gerber.specs.Homes.{has_copies, open_blocks, open_repeat, repeat_opened, step_written}
use Rattle.cam_gerber.specs.Faults.{closing_faults, command_faults, is_left_out, is_malformed}
use Rattle.cam_objects.specs.Soundness.{is_short}
use Rattle.cam_gerber.specs.Machinery.Tracking.{IsSettled, Tracks, block_of, repeat_of}
use Rattle.cam_gerber.specs.Machinery.Closing.{opened_by, step_by}
use Rattle.cam_gerber.proofs.UnusedRepeats.{unused_repeat}

pub empty_map : (past : Past) (numbers : List ℕ) → is_left_out (map (block_of past) numbers) ≡ is_left_out numbers
empty_map past numbers = grind arith

no_blocks : (past : Past) (old : Running) → Tracks past old → is_left_out old.frames.blocks.items ≡ is_left_out (open_blocks past)
no_blocks past old t = ap is_left_out t.frames.blocks ∙ empty_map past (open_blocks past)

-- ---- faults before the close

step_same : (past : Past) (unit : FileUnit) (slot : Slot ℤ) → unit_in past ≡ Some unit → step_by unit slot ≡ step_written past slot
step_same past unit slot e = grind arith

-- what the record tells of the faults that come before the close
pub record IsSettable (old : Running) (unit : FileUnit) (repeat : Repeat) : Type 0 where
  pub formed : (is_malformed repeat.columns || is_malformed repeat.rows || is_malformed repeat.i || is_malformed repeat.j) ≡ false
  pub known : old.modal.unit ≡ Some unit
  pub nested : (has_copies repeat && not (is_left_out old.frames.blocks.items)) ≡ false
  pub outside : old.region.inside ≡ false

pub opening_checks : (past : Past) (old : Running) (unit : FileUnit) (repeat : Repeat) (short : Bool) → Tracks past old
    → IsSettable old unit repeat
    → (is_short (step_by unit repeat.i) && is_short (step_by unit repeat.j)) ≡ short
    → first_holding (command_faults past (SetRepeat repeat)) ≡ first_holding (closing_faults past short)
opening_checks past old unit repeat short t s e = grind (arith, no_blocks, step_same)

-- ---- a repeat that is opened has no object yet

opened_same : (past : Past) (unit : FileUnit) (repeat : Repeat) → unit_in past ≡ Some unit
    → opened_by unit repeat ≡ repeat_of (Says (SetRepeat repeat) ∷ past) (repeat_opened past repeat)
opened_same past unit repeat e = grind (arith, unused_repeat, step_same)

-- what is open behind the close of the one before
set_tracks : (past : Past) (old new : Running) (repeat : Repeat) (opens : Option OpenRepeat) → Tracks past old → IsSettled past old new
    → opens ≡ option_map (repeat_of (Says (SetRepeat repeat) ∷ past)) (open_repeat (Says (SetRepeat repeat) ∷ past))
    → Tracks (Says (SetRepeat repeat) ∷ past) (record new { frames = record new.frames { repeat = opens } })
set_tracks past old new repeat opens t settled is = grind arith

pub set_one : (past : Past) (old new : Running) (unit : FileUnit) (repeat : Repeat) → Tracks past old → IsSettable old unit repeat
    → (is_short (step_by unit repeat.i) && is_short (step_by unit repeat.j)) ≡ true → has_copies repeat ≡ false
    → (first_holding (closing_faults past true) ≡ None) × IsSettled past old new
    → (first_holding (command_faults past (SetRepeat repeat)) ≡ None) × Tracks (Says (SetRepeat repeat) ∷ past) new
set_one past old new unit repeat t s short one (none, settled) =
    (opening_checks past old unit repeat true t s short ∙ none, set_tracks past old new repeat new.frames.repeat t settled (settled.repeat ∙ rw one refl))

pub set_many : (past : Past) (old new : Running) (unit : FileUnit) (repeat : Repeat) (opens : OpenRepeat) → Tracks past old
    → IsSettable old unit repeat
    → (is_short (step_by unit repeat.i) && is_short (step_by unit repeat.j)) ≡ true → has_copies repeat ≡ true
    → opens ≡ opened_by unit repeat
    → (first_holding (closing_faults past true) ≡ None) × IsSettled past old new
    → (first_holding (command_faults past (SetRepeat repeat)) ≡ None)
    × Tracks (Says (SetRepeat repeat) ∷ past) (record new { frames = record new.frames { repeat = Some opens } })
set_many past old new unit repeat opens t s short many made (none, settled) =
    grind (arith, opening_checks, set_tracks, opened_same)
