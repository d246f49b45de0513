-- What the ways back and on touch: the boxes of each edit, in the groups in which the edits are taken back.
use Rattle.std.specs.Prelude.{ℕ, List, [], ◌∷◌, ◌++◌, reverse, Option, None, Some, unwrap_or}
use Rattle.circular_buffer.specs.Buffer.{keep_last, last_item}
use Rattle.cam_edits.specs.Touches.{Touch}
use Rattle.cam_undo.specs.Machine.{all_but_last}

-- of each step of the past, the latest last; of those that were taken back, the next one last; and of an open group. A
-- group is played from its last edit to its first, and so it lies the other way round on the way back.
pub record Touches : Type 0 where
  pub past : List (List Touch)
  pub future : List (List Touch)
  pub group : Option (List Touch)

-- there is no way back and none on
abbrev pub no_touches : Touches
no_touches = record { past = []; future = []; group = None }

abbrev pub accepted_touches_in : ℕ → Touch → Touches → Option (List Touch) → Touches
accepted_touches_in depth touch m None =
    record { past = keep_last depth (m.past ++ (touch ∷ []) ∷ []); future = []; group = None }
accepted_touches_in depth touch m (Some group) =
    record { past = m.past; future = []; group = Some (group ++ touch ∷ []) }

-- an accepted edit: alone it is a step of the past, of which the last `depth` stay
abbrev pub accepted_touches : ℕ → Touch → Touches → Touches
accepted_touches depth touch m = accepted_touches_in depth touch m m.group

abbrev pub begun_touches : Touches → Touches
begun_touches m = record { past = m.past; future = m.future; group = Some [] }

abbrev pub ended_touches_in : ℕ → Touches → Option (List Touch) → Touches
ended_touches_in depth m None = m
ended_touches_in depth m (Some []) = record { past = m.past; future = m.future; group = None }
ended_touches_in depth m (Some (touch ∷ group)) =
    record { past = keep_last depth (m.past ++ (touch ∷ group) ∷ []); future = m.future; group = None }

-- the end of a group: with edits it is one step of the past
abbrev pub ended_touches : ℕ → Touches → Touches
ended_touches depth m = ended_touches_in depth m m.group

abbrev pub aborted_touches : Touches → Touches
aborted_touches m = record { past = m.past; future = m.future; group = None }

abbrev pub undone_touches_by : Touches → Option (List Touch) → Touches
undone_touches_by m None = m
undone_touches_by m (Some group) =
    record { past = all_but_last m.past; future = m.future ++ reverse group ∷ []; group = m.group }

abbrev pub undone_touches : Touches → Touches
undone_touches m = undone_touches_by m (last_item m.past)

abbrev pub redone_touches_by : Touches → Option (List Touch) → Touches
redone_touches_by m None = m
redone_touches_by m (Some group) =
    record { past = m.past ++ reverse group ∷ []; future = all_but_last m.future; group = m.group }

abbrev pub redone_touches : Touches → Touches
redone_touches m = redone_touches_by m (last_item m.future)

-- what is touched where a group is played
abbrev pub played : Option (List Touch) → List Touch
played group = reverse (unwrap_or group [])

-- what an abort touches, an undo and a redo
abbrev pub touched_by_abort : Touches → List Touch
touched_by_abort m = played m.group

abbrev pub touched_by_undo : Touches → List Touch
touched_by_undo m = played (last_item m.past)

abbrev pub touched_by_redo : Touches → List Touch
touched_by_redo m = played (last_item m.future)
