-- How room is made for the steps of a group, sheet by sheet.
use Rattle.std.specs.Prelude.{ℕ, ◌+◌, ◌≤◌, ◌==◌, ◌&&◌, Bool, false, length, vec_capacity}
use Rattle.cam_edits.specs.declared.board.SheetContent.{SheetContent}
use Rattle.cam_edits.specs.declared.board.SheetContent.TheVariants as kept
use Rattle.cam_edits.specs.declared.board_step.BoardStep.{BoardStep}
use Rattle.cam_edits.specs.declared.board_step.BoardStep.TheVariants as steps
use Rattle.cam_edits.specs.DrillSteps.{is_drill_insertion}
use Rattle.cam_edits.specs.Steps.{is_insertion, puts_attribute}

-- there are so many places for more items, and for more attributes
abbrev pub HasPlaces : ℕ → ℕ → SheetContent → Type 0
HasPlaces items names (kept.Gerber layer) =
    (length layer.items.items + items ≤ vec_capacity layer.items)
    × (length layer.attributes.items + names ≤ vec_capacity layer.attributes)
HasPlaces items names (kept.Drill layer) = length layer.items.items + items ≤ vec_capacity layer.items

-- whether a step inserts an item into the sheet at a place
abbrev pub inserts_at : ℕ → BoardStep → Bool
inserts_at place (steps.Gerber at step boxes) = (at == place) && is_insertion step
inserts_at place (steps.Drill at step boxes) = (at == place) && is_drill_insertion step

-- and whether it puts an attribute there
abbrev pub puts_at : ℕ → BoardStep → Bool
puts_at place (steps.Gerber at step boxes) = (at == place) && puts_attribute step
puts_at place (steps.Drill at step boxes) = false
