-- What a station shows once its history has played: the machine's step, with the tiles that it touches.
use Rattle.std.proofs.Common.{◌≡◌, ◌∙◌, ◌≤◌, ℕ, List, [], ◌∷◌, ◌++◌, length, map, drop, take, Option, None, Some, ap, refl, sym}
use Rattle.std.specs.Prelude.{Ok}
use Rattle.cam_tiles.specs.declared.window.Window.{Window}
use Rattle.cam_tiles.specs.Tables.{Table}
use Rattle.cam_edits.specs.contracts.board_step.BoardStepReversible.TheImpl.{ghosts}
use Rattle.cam_edits.specs.declared.board_step.BoardStep.{BoardStep}
use Rattle.cam_edits.specs.BoardSteps.{after_board_step}
use Rattle.cam_edits.specs.declared.edit.Edit.{Edit}
use Rattle.cam_edits.specs.Planning.{IsPlan}
use Rattle.cam_edits.specs.Sheets.{Sheet}
use Rattle.cam_edits.specs.Touches.{Touch, touch_of, touch_of_edit}
use Rattle.circular_buffer.specs.Buffer.{last_item}
use Rattle.cam_undo.specs.Kept.{Kept}
use Rattle.cam_undo.specs.Machine.{Timeline, abort_fault, aborted, accepted, end_fault}
use Rattle.cam_undo.specs.Machine.{ended, redo_fault, redone, undo_fault, undone}
use Rattle.cam_undo.specs.Timelines.{ended_by, open_answers, redone_by, timeline_at, undone_by, with_group_closed}
use Rattle.cam_undo.specs.Timelines.{with_group_ended, with_last_redone, with_last_undone, with_step}
use Rattle.cam_station.specs.declared.reply.Reply.TheVariants.{Done}
use Rattle.cam_station.specs.TileTables.{touched_in}
use Rattle.cam_station.specs.Machine.{Granted, State, abort_step, edit_step, edit_to}
use Rattle.cam_station.specs.Machine.{end_step, moved_to, redo_step, undo_step, unless}
use Rattle.cam_station.specs.Touches.{Touches, aborted_touches, accepted_touches, ended_touches, redone_touches, touched_by_abort}
use Rattle.cam_station.specs.Touches.{touched_by_redo, touched_by_undo, undone_touches}
use Rattle.cam_station.specs.Machinery.Stations.{IsStation}
use Rattle.cam_station.specs.Machinery.Touching.{group_touches, last_accepted, touches_of}
use Rattle.cam_edits.proofs.PlannedTouch.{planned_touch, touch_kept}
use Rattle.cam_station.proofs.KeptTables.{length-touched_in, touches_stay, written_over}
use Rattle.cam_station.proofs.KeptTouches.{accepted_last, played_by_abort, played_by_redo, played_by_undo, touches_accepted}
use Rattle.cam_station.proofs.KeptTouches.{touches_ended, touches_redone, touches_undone}

-- what is seen of a station's fields
abbrev pub seen : Option Window → Kept BoardStep → List Sheet → List Table → State
seen window kept sheets tables = record {
  depth = kept.depth;
  window = window;
  timeline = timeline_at ghosts kept sheets;
  touches = touches_of kept;
  tables = tables;
}

-- tables that were touched as a slice
pub touched_over : (count : ℕ) (touches : List Touch) (old new : List Table) → new ≡ touched_in touches old
    → count ≡ length old → take count (new ++ drop (length new) old) ≡ touched_in touches old
touched_over count touches old new e full =
    written_over count new old (ap length e ∙ length-touched_in touches old) (sym full) ∙ e

-- a station of as many layers whose tiles were touched so
pub station_touched : (depth later : ℕ) (window : Option Window) (sheets after : List Sheet) (count : ℕ)
    (touches : List Touch) (old new : List Table) → IsStation depth window sheets old → later ≡ depth
    → length after ≡ length sheets → new ≡ touched_in touches old → count ≡ length old
    → IsStation later window after (take count (new ++ drop (length new) old))
station_touched depth later window sheets after count touches old new h same many e full = record {
  least = rw same h.least;
  greatest = rw same h.greatest;
  in_force = h.in_force;
  tables = rw (touched_over count touches old new e full, many)
      (touches_stay window (length sheets) touches old h.tables);
}

-- ---- the depth

back_depth : (sheets : List Sheet) (kept : Kept BoardStep) (group : Option (List BoardStep))
    → (undone_by ghosts sheets kept group).depth ≡ kept.depth
back_depth sheets kept None = refl
back_depth sheets kept (Some group) = refl

on_depth : (sheets : List Sheet) (kept : Kept BoardStep) (group : Option (List BoardStep))
    → (redone_by ghosts sheets kept group).depth ≡ kept.depth
on_depth sheets kept None = refl
on_depth sheets kept (Some group) = refl

pub undone_depth : (sheets : List Sheet) (kept new : Kept BoardStep) → new ≡ with_last_undone ghosts sheets kept
    → new.depth ≡ kept.depth
undone_depth sheets kept new is = ap (λ k. k.depth) is ∙ back_depth sheets kept (last_item kept.past)

pub redone_depth : (sheets : List Sheet) (kept new : Kept BoardStep) → new ≡ with_last_redone ghosts sheets kept
    → new.depth ≡ kept.depth
redone_depth sheets kept new is = ap (λ k. k.depth) is ∙ on_depth sheets kept (last_item kept.future)

end_depth : (kept : Kept BoardStep) (group : Option (List BoardStep))
    → (ended_by ghosts kept group).depth ≡ kept.depth
end_depth kept None = refl
end_depth kept (Some []) = refl
end_depth kept (Some (step ∷ later)) = refl

-- ---- what is shown

module _ (window : Option Window) (kept new : Kept BoardStep) (sheets after : List Sheet) (old tables : List Table) where
  moved_seen : (t : Timeline (List Sheet)) (m : Touches) (way : List Touch) → new.depth ≡ kept.depth
      → timeline_at ghosts new after ≡ t → touches_of new ≡ m → tables ≡ touched_in way old
      → moved_to (seen window kept sheets old) t m way ≡ seen window new after tables
  moved_seen t m way same to touches over =
      ap (λ depth. record { depth = depth; window = window; timeline = t; touches = m; tables = touched_in way old })
      (sym same)
      ∙ (ap (λ timeline. record {
        depth = new.depth;
        window = window;
        timeline = timeline;
        touches = m;
        tables = touched_in way old;
      }) (sym to)
      ∙ (ap (λ touches. record {
        depth = new.depth;
        window = window;
        timeline = timeline_at ghosts new after;
        touches = touches;
        tables = touched_in way old;
      }) (sym touches)
      ∙ ap (seen window new after) (sym over)))

  -- an abort, whose answers touch their tiles
  pub abort_made : (steps : List BoardStep) → abort_fault (timeline_at ghosts kept sheets) ≡ None
      → new ≡ with_group_closed ghosts kept → timeline_at ghosts new after ≡ aborted (timeline_at ghosts kept sheets)
      → steps ≡ open_answers ghosts kept.open_group sheets → tables ≡ touched_in (map touch_of steps) old
      → abort_step (seen window kept sheets old) Granted ≡ (seen window new after tables, Ok Done)
  abort_made steps allowed is to handed over =
      let s : State = seen window kept sheets old in
      let way : map touch_of steps ≡ touched_by_abort s.touches =
      ap (map touch_of) handed ∙ played_by_abort ghosts touch_kept sheets kept.open_group in
      ap (λ told. unless told s
      (moved_to s (aborted s.timeline) (aborted_touches s.touches) (touched_by_abort s.touches), Ok Done)) allowed
      ∙ ap (λ after. (after, Ok Done))
      (moved_seen (aborted s.timeline) (aborted_touches s.touches) (touched_by_abort s.touches) (ap (λ k. k.depth) is) to
      (ap touches_of is) (over ∙ ap (λ way. touched_in way old) way))

  -- an undo, whose steps touch their tiles
  pub undo_made : (steps : Option (List BoardStep)) → undo_fault (timeline_at ghosts kept sheets) ≡ None
      → new ≡ with_last_undone ghosts sheets kept → timeline_at ghosts new after ≡ undone (timeline_at ghosts kept sheets)
      → steps ≡ last_item new.future → tables ≡ touched_in (group_touches steps) old
      → undo_step (seen window kept sheets old) Granted ≡ (seen window new after tables, Ok Done)
  undo_made steps allowed is to last over =
      let s : State = seen window kept sheets old in
      let way : group_touches steps ≡ touched_by_undo s.touches =
      ap group_touches (last ∙ ap (λ k. last_item k.future) is)
      ∙ played_by_undo ghosts touch_kept sheets kept allowed in
      ap (λ told. unless told s
      (moved_to s (undone s.timeline) (undone_touches s.touches) (touched_by_undo s.touches), Ok Done)) allowed
      ∙ ap (λ after. (after, Ok Done))
      (moved_seen (undone s.timeline) (undone_touches s.touches) (touched_by_undo s.touches) (undone_depth sheets kept new is) to
      (ap touches_of is ∙ touches_undone ghosts touch_kept sheets kept) (over ∙ ap (λ way. touched_in way old) way))

  -- a redo, whose steps touch their tiles
  pub redo_made : (steps : Option (List BoardStep)) → redo_fault (timeline_at ghosts kept sheets) ≡ None
      → new ≡ with_last_redone ghosts sheets kept → timeline_at ghosts new after ≡ redone (timeline_at ghosts kept sheets)
      → steps ≡ last_item new.past → tables ≡ touched_in (group_touches steps) old
      → redo_step (seen window kept sheets old) Granted ≡ (seen window new after tables, Ok Done)
  redo_made steps allowed is to last over =
      let s : State = seen window kept sheets old in
      let way : group_touches steps ≡ touched_by_redo s.touches =
      ap group_touches (last ∙ ap (λ k. last_item k.past) is)
      ∙ played_by_redo ghosts touch_kept sheets kept allowed in
      ap (λ told. unless told s
      (moved_to s (redone s.timeline) (redone_touches s.touches) (touched_by_redo s.touches), Ok Done)) allowed
      ∙ ap (λ after. (after, Ok Done))
      (moved_seen (redone s.timeline) (redone_touches s.touches) (touched_by_redo s.touches) (redone_depth sheets kept new is) to
      (ap touches_of is ∙ touches_redone ghosts touch_kept sheets kept) (over ∙ ap (λ way. touched_in way old) way))

  -- an accepted edit, whose step touches its tiles
  pub edit_made : (edit : Edit) (step : BoardStep) → 1 ≤ kept.depth → IsPlan sheets edit step
      → new ≡ with_step ghosts step sheets kept → new.depth ≡ kept.depth
      → timeline_at ghosts new after ≡ accepted kept.depth (after_board_step step sheets) (timeline_at ghosts kept sheets)
      → tables ≡ touched_in (last_accepted (touches_of new)) old
      → edit_step (seen window kept sheets old) edit Granted ≡ (seen window new after tables, Ok Done)
  edit_made edit step some plan is same to over =
      let s : State = seen window kept sheets old in
      let touch : touch_of step ≡ touch_of_edit edit sheets = planned_touch sheets edit step plan in
      let touches : touches_of new ≡ accepted_touches kept.depth (touch_of_edit edit sheets) s.touches =
      ap touches_of is ∙ (touches_accepted ghosts touch_kept step sheets kept
      ∙ ap (λ t. accepted_touches kept.depth t s.touches) touch) in
      let way : last_accepted (touches_of new) ≡ touch_of_edit edit sheets ∷ [] =
      ap last_accepted touches ∙ accepted_last kept.depth (touch_of_edit edit sheets) s.touches some in
      ap (edit_to s Granted (touch_of_edit edit sheets)) plan.edited_is
      ∙ ap (λ after. (after, Ok Done))
      (moved_seen (accepted kept.depth (after_board_step step sheets) s.timeline)
      (accepted_touches kept.depth (touch_of_edit edit sheets) s.touches) (touch_of_edit edit sheets ∷ []) same to touches
      (over ∙ ap (λ way. touched_in way old) way))

-- the end of a group
pub end_made : (window : Option Window) (kept new : Kept BoardStep) (sheets : List Sheet) (tables : List Table)
    → end_fault (timeline_at ghosts kept sheets) ≡ None → new ≡ with_group_ended ghosts kept
    → timeline_at ghosts new sheets ≡ ended kept.depth (timeline_at ghosts kept sheets)
    → end_step (seen window kept sheets tables) ≡ (seen window new sheets tables, Ok Done)
end_made window kept new sheets tables allowed is to =
    let s : State = seen window kept sheets tables in
    ap (λ told. unless told s
    (moved_to s (ended kept.depth s.timeline) (ended_touches kept.depth s.touches) [], Ok Done)) allowed
    ∙ ap (λ after. (after, Ok Done))
    (moved_seen window kept new sheets sheets tables tables (ended kept.depth s.timeline)
    (ended_touches kept.depth s.touches) [] (ap (λ k. k.depth) is ∙ end_depth kept kept.open_group) to
    (ap touches_of is ∙ touches_ended ghosts touch_kept kept) refl)
