-- What the close of a repeat does to the layer so far.
use Rattle.std.specs.Prelude.{◌≡◌, ℕ, ◌+◌, ℤ, pos, [], ◌∷◌, ◌++◌, length, Result, ◌||◌, not, nat_le, nat_lt}
use Rattle.cam_refusals.specs.declared.refusal.Refusal.TheVariants.{OutOfBoard, TooMuch}
use Rattle.cam_refusals.specs.declared.stop.Stop.{Stop}
use Rattle.cam_refusals.specs.Limits.{count_limit, leaf_limit}
use Rattle.cam_units.specs.declared.length.Unit.{Unit as FileUnit}
use Rattle.cam_units.specs.Nearest.{fix9_of}
use Rattle.cam_objects.specs.declared.item.Item.{Item}
use Rattle.cam_objects.specs.Leaves.{item_leaves, meaning_in}
use Rattle.cam_commands.specs.declared.parts.Slot.{Slot}
use Rattle.cam_commands.specs.declared.parts.Slot.TheVariants.{Omitted, Malformed, Written}
use Rattle.cam_commands.specs.declared.parts.Repeat.{Repeat}
use Rattle.cam_gerber.specs.declared.frames.OpenRepeat.{OpenRepeat}
use Rattle.cam_gerber.specs.Homes.{copies_written}
use Rattle.cam_gerber.specs.declared.built.Built.{Built}
use Rattle.cam_gerber.specs.Faults.{are_leaves_on_board}
use Rattle.cam_gerber.specs.Machinery.Tracking.{Answers}

-- an item has joined the others
pub record IsAdded (item : Item) (more : ℕ) (old new : Built) : Type 0 where
  pub macros : new.macros ≡ old.macros
  pub entries : new.layer.apertures ≡ old.layer.apertures
  pub items : new.layer.items.items ≡ old.layer.items.items ++ item ∷ []
  pub leaves : new.leaves ≡ old.leaves + more

-- an item of so many leaves joins the others, or is refused for the first of its faults
abbrev pub Adds : Item → ℕ → Built → Result (Unit {0}) Stop → Built → Type 0
Adds item leaves old result new =
    Answers result
    ((OutOfBoard, not (are_leaves_on_board (item_leaves (meaning_in old.layer.apertures) item)))
    ∷ (TooMuch, nat_le count_limit (length old.layer.items.items) || nat_lt leaf_limit (old.leaves + leaves)) ∷ [])
    (IsAdded item leaves old new)

-- a step in nm by the unit; one that is not written is 0
abbrev pub step_by : FileUnit → Slot ℤ → ℤ
step_by unit Omitted = pos 0
step_by unit Malformed = pos 0
step_by unit (Written n) = fix9_of n unit

-- a repeat that is opened, without an object
abbrev pub opened_by : FileUnit → Repeat → OpenRepeat
opened_by unit repeat = record {
  columns = copies_written repeat.columns;
  rows = copies_written repeat.rows;
  i = step_by unit repeat.i;
  j = step_by unit repeat.j;
  objects = [];
  leaves = 0;
}
