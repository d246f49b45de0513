-- Refusals of a history.
use Rattle.cam_refusals.specs.declared.refusal.Refusal.{Refusal}
use Rattle.cam_refusals.specs.declared.refusal.Refusal.TheVariants as refusals
use Rattle.cam_undo.specs.declared.fault.HistoryFault.{HistoryFault}
use Rattle.cam_undo.specs.declared.fault.HistoryFault.TheVariants.{Depth, GroupOpen, NoGroup}
use Rattle.cam_undo.specs.declared.fault.HistoryFault.TheVariants.{NothingToUndo, NothingToRedo, Memory}

abbrev pub history_refusal : HistoryFault → Refusal
history_refusal Depth = refusals.OutOfLimits
history_refusal GroupOpen = refusals.GroupOpen
history_refusal NoGroup = refusals.NoGroup
history_refusal NothingToUndo = refusals.NothingToUndo
history_refusal NothingToRedo = refusals.NothingToRedo
history_refusal Memory = refusals.NoMemory
