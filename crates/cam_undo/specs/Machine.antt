-- The machine of documents: undo, as keeping whole earlier and later documents.
use Rattle.circular_buffer.specs.Buffer.{keep_last, last_item}
use Rattle.cam_undo.specs.declared.fault.HistoryFault.TheVariants.{Depth, GroupOpen, Memory, NoGroup, NothingToRedo}
use Rattle.cam_undo.specs.declared.fault.HistoryFault.TheVariants.{NothingToUndo}
use Rattle.cam_undo.specs.declared.fault.HistoryFault.{HistoryFault}
use Rattle.std.specs.Prelude.{if◌then◌else◌, ◌-◌, ◌+◌, ◌≡◌, ℕ, List, None, Option, Some, [], length, nat_lt, suc}
use Rattle.std.specs.Prelude.{take, zero, ◌++◌, ◌∷◌}

-- The earlier documents, the latest last; those that were taken back, the next one last; and of an open group the
-- document at its beginning with the count of its edits.
pub record Timeline (D : Type 0) : Type 0 where
  pub document : D
  pub past : List D
  pub future : List D
  pub group : Option (D × ℕ)

module _ {X : Type 0} where
  abbrev pub all_but_last : List X → List X
  all_but_last xs = take (length xs - 1) xs

module _ {D : Type 0} where
  abbrev pub accepted_in : ℕ → D → Timeline D → Option (D × ℕ) → Timeline D
  accepted_in depth edited m None =
      record { document = edited; past = keep_last depth (m.past ++ m.document ∷ []); future = []; group = None }
  accepted_in depth edited m (Some g) =
      record { document = edited; past = m.past; future = []; group = Some (g.0, g.1 + 1) }

  -- An accepted edit: alone it is a step of the past, of which the last `depth` stay.
  abbrev pub accepted : ℕ → D → Timeline D → Timeline D
  accepted depth edited m = accepted_in depth edited m m.group

  -- The beginning of a group.
  abbrev pub begun : Timeline D → Timeline D
  begun m = record { document = m.document; past = m.past; future = m.future; group = Some (m.document, 0) }

  abbrev pub ended_after : ℕ → Timeline D → D → ℕ → Timeline D
  ended_after depth m start zero =
      record { document = m.document; past = m.past; future = m.future; group = None }
  ended_after depth m start (suc count) =
      record { document = m.document; past = keep_last depth (m.past ++ start ∷ []); future = m.future; group = None }

  abbrev pub ended_in : ℕ → Timeline D → Option (D × ℕ) → Timeline D
  ended_in depth m None = m
  ended_in depth m (Some g) = ended_after depth m g.0 g.1

  -- The end of a group: with edits it is one step of the past.
  abbrev pub ended : ℕ → Timeline D → Timeline D
  ended depth m = ended_in depth m m.group

  abbrev pub aborted_in : Timeline D → Option (D × ℕ) → Timeline D
  aborted_in m None = m
  aborted_in m (Some g) = record { document = g.0; past = m.past; future = m.future; group = None }

  -- The document is again that at the beginning of the group.
  abbrev pub aborted : Timeline D → Timeline D
  aborted m = aborted_in m m.group

  abbrev pub undone_to : Timeline D → Option D → Timeline D
  undone_to m None = m
  undone_to m (Some earlier) =
      record { document = earlier; past = all_but_last m.past; future = m.future ++ m.document ∷ []; group = m.group }

  -- The latest earlier document comes back.
  abbrev pub undone : Timeline D → Timeline D
  undone m = undone_to m (last_item m.past)

  abbrev pub redone_to : Timeline D → Option D → Timeline D
  redone_to m None = m
  redone_to m (Some later) =
      record { document = later; past = m.past ++ m.document ∷ []; future = all_but_last m.future; group = m.group }

  -- What was taken back last comes again.
  abbrev pub redone : Timeline D → Timeline D
  redone m = redone_to m (last_item m.future)

  -- Past and future are forgotten.
  abbrev pub cleared : Timeline D → Timeline D
  cleared m = record { document = m.document; past = []; future = []; group = m.group }

  -- What a call refuses, want of memory apart.
  abbrev pub fault_by_group : Option (D × ℕ) → Option HistoryFault → Option HistoryFault
  fault_by_group None closed = closed
  fault_by_group (Some g) closed = Some GroupOpen

  abbrev pub fault_by_list : List D → HistoryFault → Option HistoryFault
  fault_by_list [] empty = Some empty
  fault_by_list (d ∷ ds) empty = None

  abbrev pub fault_without_group : Option (D × ℕ) → Option HistoryFault
  fault_without_group None = Some NoGroup
  fault_without_group (Some g) = None

  abbrev pub begin_fault : Timeline D → Option HistoryFault
  begin_fault m = fault_by_group m.group None

  abbrev pub end_fault : Timeline D → Option HistoryFault
  end_fault m = fault_without_group m.group

  abbrev pub abort_fault : Timeline D → Option HistoryFault
  abort_fault m = fault_without_group m.group

  abbrev pub undo_fault : Timeline D → Option HistoryFault
  undo_fault m = fault_by_group m.group (fault_by_list m.past NothingToUndo)

  abbrev pub redo_fault : Timeline D → Option HistoryFault
  redo_fault m = fault_by_group m.group (fault_by_list m.future NothingToRedo)

-- how many edits and groups may be kept at most, the earlier ones and those that were taken back together
abbrev pub greatest_depth : ℕ
greatest_depth = 1000

-- A depth is from 1 to the greatest one.
abbrev pub depth_fault : ℕ → Option HistoryFault
depth_fault depth = if nat_lt depth 1 then Some Depth else if nat_lt greatest_depth depth then Some Depth else None

-- The fault of a refused call: memory is refused only where nothing else is.
abbrev pub IsHistoryRefusal : Option HistoryFault → HistoryFault → Type 0
IsHistoryRefusal None fault = fault ≡ Memory
IsHistoryRefusal (Some told) fault = fault ≡ told
