-- The lengths of what a history keeps.
use Rattle.cam_undo.specs.Kept.{Kept}
use Rattle.cam_undo.specs.Machine.{Timeline}
use Rattle.cam_undo.specs.declared.history.Counts.{Counts}
use Rattle.std.specs.Prelude.{ℕ, List, None, Option, Some, length}

abbrev pub group_length : {X : Type 0} → Option (List X) → Option ℕ
group_length None = None
group_length (Some group) = Some (length group)

abbrev pub counts_of : {X : Type 0} → Kept X → Counts
counts_of kept = record {
  past = length kept.past;
  future = length kept.future;
  group = group_length kept.open_group;
}

abbrev pub edit_count : {D : Type 0} → Option (D × ℕ) → Option ℕ
edit_count None = None
edit_count (Some g) = Some g.1

abbrev pub counts_at : {D : Type 0} → Timeline D → Counts
counts_at m = record { past = length m.past; future = length m.future; group = edit_count m.group }
