-- Where an object belongs: to the innermost open block, else to the open repeat, else to the layer.
-- Gerber Layer Format Specification, "Block aperture (AB)" and "Step and repeat (SR)".
use Rattle.std.specs.Prelude.{ℕ, ◌*◌, ℤ, pos, List, [], ◌∷◌, length, drop, Option, Some, None, unwrap_or, Bool, true}
use Rattle.std.specs.Prelude.{false, nat_lt, ◌==◌, if◌then◌else◌}
use Rattle.cam_units.specs.Nearest.{fix9_of, unit_or_mm}
use Rattle.cam_commands.specs.declared.parts.Slot.{Slot}
use Rattle.cam_commands.specs.declared.parts.Slot.TheVariants.{Omitted, Malformed, Written}
use Rattle.cam_commands.specs.declared.parts.Repeat.{Repeat}
use Rattle.cam_commands.specs.Commands.{OpenBlock, CloseBlock, SetRepeat, CloseRepeat, End}
use Rattle.cam_gerber.specs.Statements.{Says}
use Rattle.cam_gerber.specs.State.{Past, unit_in}

-- the numbers of the open blocks, innermost first
abbrev pub open_blocks : Past → List ℕ
open_blocks [] = []
open_blocks (Says (OpenBlock number) ∷ older) = unwrap_or number 0 ∷ open_blocks older
open_blocks (Says CloseBlock ∷ older) = drop 1 (open_blocks older)
open_blocks (_ ∷ older) = open_blocks older

-- one column or row where none are written
abbrev pub copies_written : Slot ℕ → ℕ
copies_written Omitted = 1
copies_written Malformed = 1
copies_written (Written n) = n

-- a step that is not written is 0
abbrev pub step_written : Past → Slot ℤ → ℤ
step_written past Omitted = pos 0
step_written past Malformed = pos 0
step_written past (Written n) = fix9_of n (unit_or_mm (unit_in past))

-- more than one copy
abbrev pub has_copies : Repeat → Bool
has_copies repeat = nat_lt 1 (copies_written repeat.columns * copies_written repeat.rows)

-- an open repeat: how many commands stand before it, its columns and rows, and its steps in nm
pub record Opened : Type 0 where
  pub before : ℕ
  pub columns : ℕ
  pub rows : ℕ
  pub i : ℤ
  pub j : ℤ

abbrev pub repeat_opened : Past → Repeat → Opened
repeat_opened past repeat = record {
  before = length past;
  columns = copies_written repeat.columns;
  rows = copies_written repeat.rows;
  i = step_written past repeat.i;
  j = step_written past repeat.j;
}

-- a repeat of one copy only closes the one before it
abbrev pub open_repeat : Past → Option Opened
open_repeat [] = None
open_repeat (Says (SetRepeat repeat) ∷ older) = if has_copies repeat then Some (repeat_opened older repeat) else None
open_repeat (Says CloseRepeat ∷ older) = None
open_repeat (Says End ∷ older) = None
open_repeat (_ ∷ older) = open_repeat older

-- the block of a number, the repeat behind so many commands, or the layer
pub data Home : Type 0 where
  InBlock : ℕ → Home
  InRepeat : ℕ → Home
  InLayer : Home

abbrev pub home_by : List ℕ → Option Opened → Home
home_by (n ∷ outer) repeat = InBlock n
home_by [] (Some repeat) = InRepeat repeat.before
home_by [] None = InLayer

-- the home of an object that is made behind a past
abbrev pub home : Past → Home
home past = home_by (open_blocks past) (open_repeat past)

abbrev pub is_same_home : Home → Home → Bool
is_same_home (InBlock m) (InBlock n) = m == n
is_same_home (InRepeat m) (InRepeat n) = m == n
is_same_home InLayer InLayer = true
is_same_home _ _ = false
