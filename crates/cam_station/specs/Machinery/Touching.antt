-- What is touched, of the steps that a history keeps.
use Rattle.std.specs.Prelude.{◌-◌, List, [], drop, length, map, Option, None, Some, unwrap_or}
use Rattle.std.specs.Option.{option_map}
use Rattle.circular_buffer.specs.Buffer.{last_item}
use Rattle.cam_edits.specs.declared.board_step.BoardStep.{BoardStep}
use Rattle.cam_edits.specs.Touches.{Touch, touch_of}
use Rattle.cam_undo.specs.Kept.{Kept}
use Rattle.cam_station.specs.Touches.{Touches}

-- of all that it keeps
abbrev pub touches_of : Kept BoardStep → Touches
touches_of kept = record {
  past = map (map touch_of) kept.past;
  future = map (map touch_of) kept.future;
  group = option_map (map touch_of) kept.open_group;
}

-- of the steps of a group, where there is one
abbrev pub group_touches : Option (List BoardStep) → List Touch
group_touches None = []
group_touches (Some steps) = map touch_of steps

abbrev pub last_accepted_in : Touches → Option (List Touch) → List Touch
last_accepted_in m None = unwrap_or (last_item m.past) []
last_accepted_in m (Some group) = drop (length group - 1) group

-- what the edit touched that was accepted last, before anything else was done
abbrev pub last_accepted : Touches → List Touch
last_accepted m = last_accepted_in m m.group
