-- Exact undo.
use Rattle.std.proofs.Common.{◌≡◌, ℕ, ◌-◌, ◌<◌, List, [], ◌∷◌, ◌++◌, length, None, Some, Ok, refl, ap, arith}
use Rattle.std.proofs.Common.{get_or, length-append, subst, sym, ◌∙◌}
use Rattle.std.specs.Prelude.{slice_get}
use Rattle.std.proofs.lemmas.Option.{slice_get-get_or}
use Rattle.cam_edits.specs.Sheets.{Sheet}
use Rattle.cam_undo.specs.declared.fault.HistoryFault.{HistoryFault}
use Rattle.cam_undo.specs.declared.fault.HistoryFault.TheVariants.{NothingToRedo, NothingToUndo}
use Rattle.cam_undo.specs.Machine.{
  Timeline,
  accepted,
  begun,
  fault_by_list,
  redo_fault,
  redone,
  undo_fault,
  undone,
}
use Rattle.cam_undo.specs.Laws.{all_accepted, group_accepted}
use Rattle.cam_undo.proofs.Documents.{exact_edits, exact_groups}
use Rattle.cam_script.specs.declared.command.Command.TheVariants.{Redo, Undo}
use Rattle.cam_station.specs.declared.reply.Reply.TheVariants.{Done}
use Rattle.cam_station.specs.Documents.{SamePixels, picture_named, text_named}
use Rattle.cam_station.specs.Machine.{State, Granted, fresh, moved_to, step}
use Rattle.cam_station.specs.Touches.{redone_touches, touched_by_redo, touched_by_undo, undone_touches}
use Rattle.cam_station.specs.Calls.{Call, answer_to, state_after, states_after}
use Rattle.cam_station.specs.Undoing.{AreQuiet, ExactUndo, ExactUndoEverywhere, GivesBack, IsAccepted, IsGroup, IsTakenBack, group_calls}
use Rattle.cam_station.specs.Undoing.{redo}
use Rattle.cam_station.specs.Undoing.{undo, undone_after}
use Rattle.cam_station.proofs.Depths.{IsWithinDepth, within_depth}
use Rattle.cam_station.proofs.Groups.{After, Ends, IsMade, edit_made, ends, group_made, grown}
use Rattle.cam_station.proofs.Quiet.{all_quiet_keep}

module _ {D : Type 0} where
  -- the last step of the past leads back to the document `before`, and then forth again
  record Reverts (t : Timeline D) (before : D) : Type 0 where
    closed : t.group ≡ None
    stands : 0 < length t.past
    back : (undone t).document ≡ before
    forth : redone (undone t) ≡ t

  has_some : (xs : List D) (f : HistoryFault) → 0 < length xs → fault_by_list xs f ≡ None
  has_some [] f some = absurd (omega arith)
  has_some (x ∷ xs) f some = refl

  may_undo : (t : Timeline D) → t.group ≡ None → 0 < length t.past → undo_fault t ≡ None
  may_undo t none some = rw none (has_some t.past NothingToUndo some)

  may_redo : (t : Timeline D) → t.group ≡ None → 0 < length t.past → redo_fault (undone t) ≡ None
  may_redo t none some =
      let last : slice_get t.past (length t.past - 1) ≡ Some (get_or t.past (length t.past - 1) t.document) =
      slice_get-get_or t.past (length t.past - 1) t.document (omega (arith, some)) in
      rw (last, none)
      (has_some (t.future ++ t.document ∷ []) NothingToRedo (omega (arith, length-append t.future (t.document ∷ []))))

  edit_reverts : (depth : ℕ) (edited : D) (t : Timeline D) → 0 < depth → t.group ≡ None
      → Reverts (accepted depth edited t) t.document
  edit_reverts depth edited t some none =
      let exact = exact_edits {D = D} depth edited t some none in
      record {
        closed = rw none refl;
        stands = rw none (grown depth t.past t.document some);
        back = exact.0;
        forth = exact.1;
      }

  group_reverts : (depth : ℕ) (edited : D) (later : List D) (t : Timeline D) → 0 < depth
      → Reverts (group_accepted D depth (edited ∷ later) t) t.document
  group_reverts depth edited later t some =
      let exact = exact_groups {D = D} depth edited later t some in
      let end : Ends depth (all_accepted D depth (edited ∷ later) (begun t)) = ends depth edited later t some in
      record { closed = end.closed; stands = end.stands; back = exact.0; forth = exact.1 }

gives_back : (s : State) (c : Call) (document : List Sheet) → answer_to s c ≡ Ok Done
    → (state_after s c).timeline.document ≡ document → GivesBack s c document
gives_back s c document accepted same =
    record {
      accepted = accepted;
      layers = same;
      texts = λ name. ap (text_named name) same;
      pixels = subst (λ d. SamePixels d document) (sym same) (λ name s. (λ black. black, λ black. black));
      pictures = λ w name. ap (picture_named w name) same;
    }

undo_made : (s : State) → undo_fault s.timeline ≡ None
    → step s Undo Granted
    ≡ (moved_to s (undone s.timeline) (undone_touches s.touches) (touched_by_undo s.touches), Ok Done)
undo_made s may = rw may refl

redo_made : (s : State) → redo_fault s.timeline ≡ None
    → step s Redo Granted
    ≡ (moved_to s (redone s.timeline) (redone_touches s.touches) (touched_by_redo s.touches), Ok Done)
redo_made s may = rw may refl

module _ (s : State) (before : List Sheet) (r : Reverts s.timeline before) where
  back : GivesBack s undo before
  back =
      let undo_is = undo_made s (may_undo s.timeline r.closed r.stands) in
      gives_back s undo before (ap (λ p. p.1) undo_is) (ap (λ p. p.0.timeline.document) undo_is ∙ r.back)

  -- from each state whose documents are those after the undo
  forth : (left : State) → left.timeline ≡ undone s.timeline → GivesBack left redo s.timeline.document
  forth left left_is =
      let may : redo_fault left.timeline ≡ None = ap redo_fault left_is ∙ may_redo s.timeline r.closed r.stands in
      let redo_is = redo_made left may in
      gives_back left redo s.timeline.document (ap (λ p. p.1) redo_is)
      (ap (λ p. p.0.timeline.document) redo_is
      ∙ (ap (λ t. (redone t).document) left_is ∙ ap (λ t. t.document) r.forth))

module _ (edited : State) (before : List Sheet) (r : Reverts edited.timeline before) (quiet : List Call)
    (are : AreQuiet edited quiet) where
  abbrev left : State
  left = states_after edited quiet

  left_is : left.timeline ≡ edited.timeline
  left_is = ap (λ d. d.1) (all_quiet_keep edited quiet are)

  reverts : Reverts left.timeline before
  reverts = subst (λ t. Reverts t before) (sym left_is) r

  made_again : (more : List Call) → AreQuiet (undone_after edited quiet) more
      → GivesBack (states_after (undone_after edited quiet) more) redo edited.timeline.document
  made_again more are_more =
      let undo_is = undo_made left (may_undo left.timeline reverts.closed reverts.stands) in
      let last : State = states_after (undone_after edited quiet) more in
      let last_is : last.timeline ≡ undone left.timeline =
      ap (λ d. d.1) (all_quiet_keep (undone_after edited quiet) more are_more) ∙ ap (λ p. p.0.timeline) undo_is in
      subst (λ d. GivesBack last redo d) (ap (λ t. t.document) left_is) (forth left before reverts last last_is)

taken_back : (edited : State) (before : List Sheet) → Reverts edited.timeline before → IsTakenBack edited before
taken_back edited before r =
    record {
      undone = λ quiet are. back (states_after edited quiet) before (reverts edited before r quiet are);
      redone = λ quiet more are are_more. made_again edited before r quiet are more are_more;
    }

edit_taken_back : (s : State) (edit : Call) → 0 < s.depth → s.timeline.group ≡ None → IsAccepted s edit
    → IsTakenBack (state_after s edit) s.timeline.document
edit_taken_back s edit some none is =
    let made : After s (state_after s edit) = edit_made s edit is in
    taken_back (state_after s edit) s.timeline.document
    (subst (λ t. Reverts t s.timeline.document) (sym (ap (λ d. d.1) made.1))
    (edit_reverts s.depth made.0 s.timeline some none))

group_taken_back : (s : State) (quiet : List Call) (edit : Call) (more : List Call) → 0 < s.depth
    → s.timeline.group ≡ None → IsGroup s quiet edit more
    → IsTakenBack (states_after s (group_calls quiet edit more)) s.timeline.document
group_taken_back s quiet edit more some none is =
    let made : IsMade s (states_after s (group_calls quiet edit more)) = group_made s quiet edit more some none is in
    taken_back (states_after s (group_calls quiet edit more)) s.timeline.document
    (subst (λ t. Reverts t s.timeline.document) (sym made.is)
    (group_reverts s.depth made.edited made.later s.timeline some))

pub exact_everywhere : ExactUndoEverywhere
exact_everywhere s depth =
    record {
      edits = λ edit none is. edit_taken_back s edit depth none is;
      groups = λ quiet edit more none is. group_taken_back s quiet edit more depth none is;
    }

pub exact_undo : ExactUndo
exact_undo depth least greatest before =
    let s : State = states_after (fresh depth) before in
    let h : IsWithinDepth depth s = within_depth depth before in
    exact_everywhere s (rw h.depth_is least)
