-- An accepted edit, abort, undo or redo dirties the tiles that its boxes touch, and no others.
use Rattle.std.proofs.Common.{◌≡◌, ℕ, List, [], ◌∷◌, Option, None, Some, Result, Ok, Err, refl, ap, sym, ◌∙◌, option_map}
use Rattle.std.proofs.Common.{subst}
use Rattle.std.specs.Prelude.{IsOk, slice_get}
use Rattle.cam_units.specs.declared.bounds.Bounds.{Bounds}
use Rattle.cam_tiles.specs.Tables.{Table}
use Rattle.cam_tiles.specs.Touched.{box_touched, touched_by}
use Rattle.cam_edits.specs.declared.fault.EditFault.{EditFault}
use Rattle.cam_edits.specs.Editing.{edited}
use Rattle.cam_edits.specs.Sheets.{Sheet}
use Rattle.cam_edits.specs.Touches.{Touch, touch_of_edit}
use Rattle.cam_undo.specs.declared.fault.HistoryFault.{HistoryFault}
use Rattle.cam_undo.specs.Machine.{Timeline, abort_fault, redo_fault, undo_fault}
use Rattle.cam_station.specs.Locality.{DirtyTiles, TouchesAlone, boxes_on}
use Rattle.cam_station.specs.Machine.{
  State,
  Outcome,
  MemoryGrant,
  Granted,
  RefusedToReader,
  RefusedToStation,
  edit_to,
  abort_step,
  redo_step,
  undo_step,
  moved_to,
  unless,
  with_room,
}
use Rattle.cam_station.specs.Touches.{Touches, touched_by_abort, touched_by_redo, touched_by_undo}
use Rattle.cam_tiles.proofs.TouchedTiles.{touch_law}
use Rattle.cam_station.proofs.EditCommands.{step_of_edit}
use Rattle.cam_station.proofs.TablesAt.{touched_at}

window_stays : (boxes : List Bounds) (t : Table) → (touched_by boxes t).window ≡ t.window
window_stays [] t = refl
window_stays (box ∷ boxes) t = window_stays boxes (box_touched box t)

module _ (s : State) (place : ℕ) (t : Table) (here : slice_get s.tables place ≡ Some t) where
  abbrev Dirties : List Touch → State × Outcome → Type 0
  Dirties touches after = IsOk after.1 → TouchesAlone touches s after.0 place t

  -- documents and ways come as they may
  touches_alone : (touches : List Touch) (timeline : Timeline (List Sheet)) (m : Touches)
      → TouchesAlone touches s (moved_to s timeline m touches) place t
  touches_alone touches timeline m =
      record {
        later = touched_by (boxes_on place touches) t;
        there = touched_at touches s.tables place ∙ ap (option_map (touched_by (boxes_on place touches))) here;
        window = window_stays (boxes_on place touches) t;
        tiles = touch_law.tiles t (boxes_on place touches);
      }

  room : (touches : List Touch) (memory : MemoryGrant) (change : State × Outcome)
      → TouchesAlone touches s change.0 place t → Dirties touches (with_room memory s change)
  room touches Granted change h accepted = h
  room touches RefusedToReader change h accepted = h
  room touches RefusedToStation change h accepted = absurd cc

  history : (touches : List Touch) (f : Option HistoryFault) (change : State × Outcome) → Dirties touches change
      → Dirties touches (unless f s change)
  history touches None change h = h
  history touches (Some f) change h = λ accepted. absurd cc

  edit : (touch : Touch) (memory : MemoryGrant) (made : Result (List Sheet) EditFault)
      → Dirties (touch ∷ []) (edit_to s memory touch made)
  edit touch memory (Err f) accepted = absurd cc
  edit touch memory (Ok sheets) accepted =
      room (touch ∷ []) memory _ (touches_alone (touch ∷ []) _ _) accepted

  abort : (memory : MemoryGrant) → Dirties (touched_by_abort s.touches) (abort_step s memory)
  abort memory =
      history _ (abort_fault s.timeline) _ (room _ memory _ (touches_alone (touched_by_abort s.touches) _ _))

  undo : (memory : MemoryGrant) → Dirties (touched_by_undo s.touches) (undo_step s memory)
  undo memory =
      history _ (undo_fault s.timeline) _ (room _ memory _ (touches_alone (touched_by_undo s.touches) _ _))

  redo : (memory : MemoryGrant) → Dirties (touched_by_redo s.touches) (redo_step s memory)
  redo memory =
      history _ (redo_fault s.timeline) _ (room _ memory _ (touches_alone (touched_by_redo s.touches) _ _))

pub dirty_tiles : DirtyTiles
dirty_tiles =
    record {
      edit = λ s change memory accepted place t here.
          let touch = touch_of_edit change s.timeline.document in
          let Dirty : State × Outcome → Type 0 = Dirties s place t here (touch ∷ []) in
          subst Dirty (sym (step_of_edit s change memory))
          (edit s place t here touch memory (edited change s.timeline.document)) accepted;
      abort = λ s memory accepted place t here. abort s place t here memory accepted;
      undo = λ s memory accepted place t here. undo s place t here memory accepted;
      redo = λ s memory accepted place t here. redo s place t here memory accepted;
    }
