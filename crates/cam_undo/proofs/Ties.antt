-- What each call makes of the kept groups is what the machine makes of the documents.
use Rattle.cam_edits.specs.declared.reversible.Reversible.{Ghosts}
use Rattle.circular_buffer.specs.Buffer.{keep_last, last_item}
use Rattle.cam_undo.proofs.Lasts.{all_but_last-snoc, last_item-snoc, with_last}
use Rattle.cam_undo.proofs.Plays.{after_group-snoc, both_fit, contents-drop, contents-snoc, fits-drop}
use Rattle.cam_undo.proofs.Plays.{grown_contents, grown_fits, groups_fit, last_group_fits, left_contents, left_fits}
use Rattle.cam_undo.proofs.Plays.{length-contents}
use Rattle.cam_undo.specs.Counted.{counts_at, counts_of, edit_count, group_length}
use Rattle.cam_undo.specs.Kept.{Kept}
use Rattle.cam_undo.specs.declared.history.Counts.{Counts}
use Rattle.cam_undo.specs.Machine.{accepted, all_but_last, ended, redo_fault, redone, undo_fault, undone}
use Rattle.cam_undo.specs.Timelines.{Fits, GroupFits, GroupsFit, after_group, contents, ended_by, group_of}
use Rattle.cam_undo.specs.Machinery.Shifting.{Shifted}
use Rattle.cam_undo.specs.Timelines.{start_of, timeline_at, with_last_redone, with_last_undone, with_step}
use Rattle.std.proofs.Common.{◌-◌, ◌∙◌, ◌<◌, ◌≡◌, ℕ, List, None, Option, Some, [], ap, arith, length, length-append}
use Rattle.std.proofs.Common.{refl, subst, sym, ◌++◌, ◌∷◌}

module _ {S : Type 0} where
  abbrev pub keeps : ℕ → List (List S) → List (List S) → Option (List S) → Kept S
  keeps depth past future open_group =
      record { depth = depth; past = past; future = future; open_group = open_group }

module _ {S D : Type 0} (r : Ghosts S D) where
  pub contents-kept : (depth : ℕ) (gs : List (List S)) (c : r.Content)
      → contents r (keep_last depth gs) c ≡ keep_last depth (contents r gs c)
  contents-kept depth gs c =
      contents-drop r (length gs - depth) gs c ∙ rw (length-contents r gs c) refl

  counted_group : (open_group : Option (List S)) (c : r.Content)
      → edit_count (group_of r open_group c) ≡ group_length open_group
  counted_group None c = refl
  counted_group (Some group) c = refl

  pub counted : (kept : Kept S) (c : r.Content) → counts_of kept ≡ counts_at (timeline_at r kept c)
  counted kept c =
      rw (
        length-contents r kept.past (start_of r kept.open_group c),
        length-contents r kept.future (start_of r kept.open_group c),
        counted_group kept.open_group c,
      ) refl

  pub counted_as : (kept : Kept S) (counts : Counts) (c : r.Content) → counts ≡ counts_of kept
      → counts ≡ counts_at (timeline_at r kept c)
  counted_as kept counts c is = is ∙ counted kept c

  -- without a group, undo and redo are refused for an empty list alone
  may_undo : (depth : ℕ) (past future : List (List S)) (c : r.Content) → 0 < length past
      → undo_fault (timeline_at r (keeps depth past future None) c) ≡ None
  may_undo depth [] future c some = absurd (omega arith)
  may_undo depth (group ∷ later) future c some = refl

  may_redo : (depth : ℕ) (past future : List (List S)) (c : r.Content) → 0 < length future
      → redo_fault (timeline_at r (keeps depth past future None) c) ≡ None
  may_redo depth past [] c some = absurd (omega arith)
  may_redo depth past (group ∷ later) c some = refl

  pub may_undo_as : (kept : Kept S) (depth : ℕ) (past future : List (List S)) (c : r.Content)
      → keeps depth past future None ≡ kept → 0 < length past → undo_fault (timeline_at r kept c) ≡ None
  may_undo_as kept depth past future c same some =
      subst (λ k. undo_fault (timeline_at r k c) ≡ None) same (may_undo depth past future c some)

  pub may_redo_as : (kept : Kept S) (depth : ℕ) (past future : List (List S)) (c : r.Content)
      → keeps depth past future None ≡ kept → 0 < length future → redo_fault (timeline_at r kept c) ≡ None
  may_redo_as kept depth past future c same some =
      subst (λ k. redo_fault (timeline_at r k c) ≡ None) same (may_redo depth past future c some)

  -- the steps that lead back, or on
  pub undo_leads : (kept : Kept S) (group : List S) (c : r.Content) → last_item kept.past ≡ Some group
      → Fits r kept c → kept.open_group ≡ None
      → GroupFits r group c × (after_group r group c ≡ (undone (timeline_at r kept c)).document)
  undo_leads kept group c last tied none =
      let split : kept.past ≡ all_but_last kept.past ++ group ∷ [] = with_last kept.past group last in
      let fits : GroupsFit r kept.past c = (rw none at tied.past) in
      let latest : last_item (contents r kept.past c) ≡ Some (after_group r group c) =
      ap (λ gs. last_item (contents r gs c)) split
      ∙ (ap last_item (contents-snoc r (all_but_last kept.past) group c)
      ∙ last_item-snoc (contents r (all_but_last kept.past) (after_group r group c)) (after_group r group c)) in (
        last_group_fits r (all_but_last kept.past) group c (subst (λ gs. GroupsFit r gs c) split fits),
        rw (none, latest) refl,
      )

  pub redo_leads : (kept : Kept S) (group : List S) (c : r.Content) → last_item kept.future ≡ Some group
      → Fits r kept c → kept.open_group ≡ None
      → GroupFits r group c × (after_group r group c ≡ (redone (timeline_at r kept c)).document)
  redo_leads kept group c last tied none =
      let split : kept.future ≡ all_but_last kept.future ++ group ∷ [] = with_last kept.future group last in
      let fits : GroupsFit r kept.future c = (rw none at tied.future) in
      let latest : last_item (contents r kept.future c) ≡ Some (after_group r group c) =
      ap (λ gs. last_item (contents r gs c)) split
      ∙ (ap last_item (contents-snoc r (all_but_last kept.future) group c)
      ∙ last_item-snoc (contents r (all_but_last kept.future) (after_group r group c)) (after_group r group c)) in (
        last_group_fits r (all_but_last kept.future) group c (subst (λ gs. GroupsFit r gs c) split fits),
        rw (none, latest) refl,
      )

  -- the end of a group with edits
  pub ended_kept : (depth : ℕ) (past future : List (List S)) (group : List S) → 0 < length group
      → keeps depth (keep_last depth (past ++ group ∷ [])) future None
      ≡ ended_by r (keeps depth past future (Some group)) (Some group)
  ended_kept depth past future [] edited = absurd (omega arith)
  ended_kept depth past future (step ∷ later) edited = refl

  pub ended_tied : (depth : ℕ) (past : List (List S)) (group : List S) (c : r.Content)
      → Fits r (keeps depth past [] (Some group)) c
      → Fits r (keeps depth (keep_last depth (past ++ group ∷ [])) [] None) c
  ended_tied depth past group c tied = record {
    group = tt;
    past = fits-drop r (length (past ++ group ∷ []) - depth) (past ++ group ∷ []) c
        (groups_fit r past group c tied.group tied.past);
    future = tt;
  }

  pub ended_state : (depth : ℕ) (past : List (List S)) (step : S) (later : List S) (c : r.Content)
      → timeline_at r (keeps depth (keep_last depth (past ++ (step ∷ later) ∷ [])) [] None) c
      ≡ ended depth (timeline_at r (keeps depth past [] (Some (step ∷ later))) c)
  ended_state depth past step later c =
      rw (contents-kept depth (past ++ (step ∷ later) ∷ []) c, contents-snoc r past (step ∷ later) c) refl

  pub ended_tied_as : (depth : ℕ) (past future : List (List S)) (group : List S) (c : r.Content) → future ≡ []
      → Fits r (keeps depth past future (Some group)) c
      → Fits r (keeps depth (keep_last depth (past ++ group ∷ [])) future None) c
  ended_tied_as depth past future group c none tied = rw none (ended_tied depth past group c (rw none at tied))

  pub ended_state_as : (depth : ℕ) (past future : List (List S)) (group : List S) (c : r.Content) → future ≡ []
      → 0 < length group
      → timeline_at r (keeps depth (keep_last depth (past ++ group ∷ [])) future None) c
      ≡ ended depth (timeline_at r (keeps depth past future (Some group)) c)
  ended_state_as depth past future [] c none edited = absurd (omega arith)
  ended_state_as depth past future (step ∷ later) c none edited = rw none (ended_state depth past step later c)

  module _ (answer_fits : (s : S) (c : r.Content) → r.is_fit s c → r.is_fit (r.inverse s c) (r.after s c))
      (gives_back : (s : S) (c : r.Content) → r.is_fit s c → r.after (r.inverse s c) (r.after s c) ≡ c) where
    -- an accepted step, alone
    alone_tied : (depth : ℕ) (past future : List (List S)) (step : S) (c : r.Content) → r.is_fit step c
        → Fits r (keeps depth past future None) c
        → Fits r (with_step r step c (keeps depth past future None)) (r.after step c)
    alone_tied depth past future step c fits tied =
        let grown = past ++ (r.inverse step c ∷ []) ∷ [] in
        record {
          group = tt;
          past = fits-drop r (length grown - depth) grown (r.after step c)
              (groups_fit r past (r.inverse step c ∷ []) (r.after step c) (tt, answer_fits step c fits)
              (subst (λ d. GroupsFit r past d) (sym (gives_back step c fits)) tied.past));
          future = tt;
        }

    alone_state : (depth : ℕ) (past future : List (List S)) (step : S) (c : r.Content) → r.is_fit step c
        → timeline_at r (with_step r step c (keeps depth past future None)) (r.after step c)
        ≡ accepted depth (r.after step c) (timeline_at r (keeps depth past future None) c)
    alone_state depth past future step c fits =
        let grown = past ++ (r.inverse step c ∷ []) ∷ [] in
        let same : contents r grown (r.after step c) ≡ contents r past c ++ c ∷ [] =
        contents-snoc r past (r.inverse step c ∷ []) (r.after step c)
        ∙ ap (λ d. contents r past d ++ d ∷ []) (gives_back step c fits) in
        rw (contents-kept depth grown (r.after step c), same) refl

    -- and in a group
    inside_start : (group : List S) (step : S) (c : r.Content) → r.is_fit step c
        → after_group r (group ++ r.inverse step c ∷ []) (r.after step c) ≡ after_group r group c
    inside_start group step c fits =
        after_group-snoc r group (r.inverse step c) (r.after step c) ∙ ap (after_group r group) (gives_back step c fits)

    inside_tied : (depth : ℕ) (past future : List (List S)) (group : List S) (step : S) (c : r.Content)
        → r.is_fit step c → Fits r (keeps depth past future (Some group)) c
        → Fits r (with_step r step c (keeps depth past future (Some group))) (r.after step c)
    inside_tied depth past future group step c fits tied = record {
      group = both_fit r group (r.inverse step c) (r.after step c) (answer_fits step c fits)
          (subst (λ d. GroupFits r group d) (sym (gives_back step c fits)) tied.group);
      past = subst (λ d. GroupsFit r past d) (sym (inside_start group step c fits)) tied.past;
      future = tt;
    }

    inside_state : (depth : ℕ) (past future : List (List S)) (group : List S) (step : S) (c : r.Content)
        → r.is_fit step c
        → timeline_at r (with_step r step c (keeps depth past future (Some group))) (r.after step c)
        ≡ accepted depth (r.after step c) (timeline_at r (keeps depth past future (Some group)) c)
    inside_state depth past future group step c fits =
        rw (inside_start group step c fits, length-append group (r.inverse step c ∷ [])) refl

    tied_by : (kept : Kept S) (open_group : Option (List S)) (step : S) (c : r.Content) → r.is_fit step c
        → Fits r (keeps kept.depth kept.past kept.future open_group) c
        → Fits r (with_step r step c (keeps kept.depth kept.past kept.future open_group)) (r.after step c)
    tied_by kept None step c fits tied = alone_tied kept.depth kept.past kept.future step c fits tied
    tied_by kept (Some group) step c fits tied =
        inside_tied kept.depth kept.past kept.future group step c fits tied

    state_by : (kept : Kept S) (open_group : Option (List S)) (step : S) (c : r.Content) → r.is_fit step c
        → timeline_at r (with_step r step c (keeps kept.depth kept.past kept.future open_group)) (r.after step c)
        ≡ accepted kept.depth (r.after step c)
        (timeline_at r (keeps kept.depth kept.past kept.future open_group) c)
    state_by kept None step c fits = alone_state kept.depth kept.past kept.future step c fits
    state_by kept (Some group) step c fits = inside_state kept.depth kept.past kept.future group step c fits

    pub accepted_tied : (kept new : Kept S) (step : S) (c reached : r.Content)
        → new ≡ with_step r step c kept → reached ≡ r.after step c → r.is_fit step c
        → Fits r kept c → Fits r new reached
    accepted_tied kept new step c reached is played fits tied =
        rw (is, played) (tied_by kept kept.open_group step c fits tied)

    pub accepted_state : (kept new : Kept S) (step : S) (c reached : r.Content)
        → new ≡ with_step r step c kept → reached ≡ r.after step c → r.is_fit step c
        → timeline_at r new reached ≡ accepted kept.depth (r.after step c) (timeline_at r kept c)
    accepted_state kept new step c reached is played fits =
        rw (is, played) (state_by kept kept.open_group step c fits)

    -- undo and redo
    module _ (depth : ℕ) (past future left grown : List (List S)) (c reached : r.Content) where
      pub undone_kept : Shifted r past future c left grown reached
          → keeps depth left grown None ≡ with_last_undone r c (keeps depth past future None)
      undone_kept s = rw (s.put, s.taken, last_item-snoc left s.group, all_but_last-snoc left s.group) refl

      pub undone_tied : Shifted r past future c left grown reached
          → Fits r (keeps depth past future None) c → Fits r (keeps depth left grown None) reached
      undone_tied s tied = record {
        group = tt;
        past = left_fits r answer_fits gives_back past future left grown c reached s tied.past;
        future = grown_fits r answer_fits gives_back past future left grown c reached s tied.past tied.future;
      }

      pub undone_state : Shifted r past future c left grown reached
          → Fits r (keeps depth past future None) c
          → timeline_at r (keeps depth left grown None) reached ≡ undone (timeline_at r (keeps depth past future None) c)
      undone_state s tied =
          rw (
            left_contents r answer_fits gives_back past future left grown c reached s,
            grown_contents r answer_fits gives_back past future left grown c reached s tied.past,
            last_item-snoc (contents r left reached) reached,
            all_but_last-snoc (contents r left reached) reached,
          ) refl

      pub redone_kept : Shifted r future past c left grown reached
          → keeps depth grown left None ≡ with_last_redone r c (keeps depth past future None)
      redone_kept s = rw (s.put, s.taken, last_item-snoc left s.group, all_but_last-snoc left s.group) refl

      pub redone_tied : Shifted r future past c left grown reached
          → Fits r (keeps depth past future None) c → Fits r (keeps depth grown left None) reached
      redone_tied s tied = record {
        group = tt;
        past = grown_fits r answer_fits gives_back future past left grown c reached s tied.future tied.past;
        future = left_fits r answer_fits gives_back future past left grown c reached s tied.future;
      }

      pub redone_state : Shifted r future past c left grown reached
          → Fits r (keeps depth past future None) c
          → timeline_at r (keeps depth grown left None) reached ≡ redone (timeline_at r (keeps depth past future None) c)
      redone_state s tied =
          rw (
            left_contents r answer_fits gives_back future past left grown c reached s,
            grown_contents r answer_fits gives_back future past left grown c reached s tied.future,
            last_item-snoc (contents r left reached) reached,
            all_but_last-snoc (contents r left reached) reached,
          ) refl
