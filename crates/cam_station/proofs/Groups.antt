-- What accepted edits come to, and groups of them.
use Rattle.std.proofs.Common.{◌≡◌, ℕ, ◌+◌, ◌-◌, ◌<◌, zero, suc, List, [], ◌∷◌, ◌++◌, length, drop, None, Some}
use Rattle.std.proofs.Common.{Result, Ok, Err, inl, inr, refl, ap, arith, length-append, length-drop, ◌∙◌}
use Rattle.std.specs.Prelude.{IsOk}
use Rattle.cam_edits.specs.declared.fault.EditFault.{EditFault}
use Rattle.cam_edits.specs.Editing.{edited}
use Rattle.cam_edits.specs.Sheets.{Sheet}
use Rattle.cam_edits.specs.Touches.{Touch, touch_of_edit}
use Rattle.cam_undo.specs.Laws.{all_accepted, group_accepted}
use Rattle.cam_undo.specs.Machine.{Timeline, accepted, begun, end_fault, ended}
use Rattle.cam_script.specs.declared.command.Command.{Command}
use Rattle.cam_station.specs.Machine.{
  State,
  Outcome,
  MemoryGrant,
  Granted,
  RefusedToReader,
  RefusedToStation,
  edit_to,
  step,
}
use Rattle.cam_station.specs.Calls.{Call, state_after, states_after}
use Rattle.cam_station.specs.Undoing.{IsAccepted, IsEdit, AreEdits, IsGroup, begin, end, group_calls}
use Rattle.cam_station.proofs.EditCommands.{step_of_edit}
use Rattle.cam_station.proofs.Quiet.{Documents, all_quiet_keep, documents_of, quiet_keeps}

-- the documents once some sheets are accepted
abbrev pub After : State → State → Type 0
After s after = (sheets : List Sheet) × (documents_of after ≡ (s.depth, accepted s.depth sheets s.timeline))

abbrev Edits : State → State × Outcome → Type 0
Edits s p = IsOk p.1 → After s p.0

edits_to : (s : State) (m : MemoryGrant) (touch : Touch) (made : Result (List Sheet) EditFault)
    → Edits s (edit_to s m touch made)
edits_to s m touch (Err fault) = λ ok. cc
edits_to s Granted touch (Ok sheets) = λ ok. (sheets, refl)
edits_to s RefusedToReader touch (Ok sheets) = λ ok. (sheets, refl)
edits_to s RefusedToStation touch (Ok sheets) = λ ok. cc

edits : (s : State) (c : Command) (m : MemoryGrant) → IsEdit c → Edits s (step s c m)
edits s c m (edit, is) =
    rw (is, step_of_edit s edit m)
    (edits_to s m (touch_of_edit edit s.timeline.document) (edited edit s.timeline.document))

pub edit_made : (s : State) (c : Call) → IsAccepted s c → After s (state_after s c)
edit_made s c is = edits s c.0 c.1 is.edit is.accepted

-- the documents once all of these are accepted in turn
abbrev all_made : List (List Sheet) → Documents → Documents
all_made later d = (d.0, all_accepted (List Sheet) d.0 later d.1)

abbrev AfterAll : State → State → Type 0
AfterAll s after = (later : List (List Sheet)) × (documents_of after ≡ all_made later (documents_of s))

edits_made : (s : State) (calls : List Call) → AreEdits s calls → AfterAll s (states_after s calls)
edits_made s [] are = ([], refl)
edits_made s (c ∷ calls) are =
    let rest : AfterAll (state_after s c) (states_after (state_after s c) calls) =
    edits_made (state_after s c) calls are.1 in
    elim are.0 [
      | inl accepted ↦ (
          let made : After s (state_after s c) = edit_made s c accepted in
          (made.0 ∷ rest.0, rest.1 ∙ ap (all_made rest.0) made.1)
          )
      | inr quiet ↦ (rest.0, rest.1 ∙ ap (all_made rest.0) (quiet_keeps s c quiet))
    ]

module _ {D : Type 0} where
  -- the group may end, and is then one step of the past
  pub record Ends (depth : ℕ) (t : Timeline D) : Type 0 where
    pub may : end_fault t ≡ None
    pub closed : (ended depth t).group ≡ None
    pub stands : 0 < length (ended depth t).past

  abbrev within : D → List D → D → ℕ → Timeline D
  within document past start count =
      record { document = document; past = past; future = []; group = Some (start, count) }

  -- a past that has just grown is not empty
  pub grown : (depth : ℕ) (past : List D) (x : D) → 0 < depth
      → 0 < length (drop (length (past ++ x ∷ []) - depth) (past ++ x ∷ []))
  grown depth past x some =
      omega (arith, some, length-append past (x ∷ []), length-drop (length (past ++ x ∷ []) - depth) (past ++ x ∷ []))

  ends_within : (depth : ℕ) (later : List D) (document : D) (past : List D) (start : D) (count : ℕ) → 0 < depth
      → 0 < count → Ends depth (all_accepted D depth later (within document past start count))
  ends_within depth [] document past start zero some edited = absurd (omega arith)
  ends_within depth [] document past start (suc count) some edited =
      record { may = refl; closed = refl; stands = grown depth past start some }
  ends_within depth (edit ∷ later) document past start count some edited =
      ends_within depth later edit past start (count + 1) some (omega arith)

  pub ends : (depth : ℕ) (edited : D) (later : List D) (t : Timeline D) → 0 < depth
      → Ends depth (all_accepted D depth (edited ∷ later) (begun t))
  ends depth edited later t some = ends_within depth later edited t.past t.document (0 + 1) some (omega arith)

states_after-append : (s : State) (calls later : List Call)
    → states_after s (calls ++ later) ≡ states_after (states_after s calls) later
states_after-append s [] later = refl
states_after-append s (c ∷ calls) later = states_after-append (state_after s c) calls later

begin_made : (s : State) → s.timeline.group ≡ None → documents_of (state_after s begin) ≡ (s.depth, begun s.timeline)
begin_made s none = rw none refl

end_made : (s : State) → end_fault s.timeline ≡ None
    → documents_of (state_after s end) ≡ (s.depth, ended s.depth s.timeline)
end_made s may = rw (may, state_after) refl

-- the sheets of its edits, the first ones first
pub record IsMade (s after : State) : Type 0 where
  pub edited : List Sheet
  pub later : List (List Sheet)
  pub is : after.timeline ≡ group_accepted (List Sheet) s.depth (edited ∷ later) s.timeline

pub group_made : (s : State) (quiet : List Call) (edit : Call) (more : List Call) → 0 < s.depth
    → s.timeline.group ≡ None → IsGroup s quiet edit more → IsMade s (states_after s (group_calls quiet edit more))
group_made s quiet edit more some none h =
    let opened : Documents = (s.depth, begun s.timeline) in
    let first : State = states_after (state_after s begin) quiet in
    let first_is : documents_of first ≡ opened =
    all_quiet_keep (state_after s begin) quiet h.quiet_first ∙ begin_made s none in
    let made : After first (state_after first edit) = edit_made first edit h.accepted in
    let last : State = states_after (state_after first edit) more in
    let rest : AfterAll (state_after first edit) last = edits_made (state_after first edit) more h.edits in
    let all : List (List Sheet) = made.0 ∷ rest.0 in
    let last_is : documents_of last ≡ all_made all opened =
    rest.1 ∙ (ap (all_made rest.0) made.1 ∙ ap (all_made all) first_is) in
    let may : end_fault last.timeline ≡ None =
    ap (λ d. end_fault d.1) last_is ∙ (ends s.depth made.0 rest.0 s.timeline some).may in
    let calls_are : states_after s (group_calls quiet edit more) ≡ state_after last end =
    states_after-append (state_after s begin) quiet (edit ∷ (more ++ end ∷ []))
    ∙ states_after-append (state_after first edit) more (end ∷ []) in
    record {
      edited = made.0;
      later = rest.0;
      is = ap (λ x. x.timeline) calls_are
          ∙ (ap (λ d. d.1) (end_made last may) ∙ ap (λ d. ended d.0 d.1) last_is);
    }
