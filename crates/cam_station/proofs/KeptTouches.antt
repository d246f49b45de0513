-- What the steps of a history touch is what the machine keeps of them.
use Rattle.std.proofs.Common.{◌≡◌, ◌∙◌, ℕ, ◌-◌, ◌≤◌, List, [], ◌∷◌, ◌++◌, length, map, drop, take}
use Rattle.std.proofs.Common.{Option, None, Some, ap, arith, refl, sym, reverse, unwrap_or}
use Rattle.std.specs.Option.{option_map}
use Rattle.std.proofs.lemmas.List.{drop-append-le, drop-map, drop_at, length-append, length-drop}
use Rattle.std.proofs.lemmas.List.{length-map, map-append, reverse-append, take-map, take_all}
use Rattle.std.proofs.lemmas.Option.{slice_get-map}
use Rattle.circular_buffer.specs.Buffer.{keep_last, last_item}
use Rattle.cam_edits.specs.declared.board_step.BoardStep.{BoardStep}
use Rattle.cam_edits.specs.declared.reversible.Reversible.{Ghosts}
use Rattle.cam_edits.specs.Touches.{Touch, touch_of}
use Rattle.cam_undo.specs.Kept.{Kept}
use Rattle.cam_undo.specs.Machine.{all_but_last, fault_by_group, fault_by_list, redo_fault, undo_fault}
use Rattle.cam_undo.specs.declared.fault.HistoryFault.{HistoryFault}
use Rattle.cam_undo.specs.declared.fault.HistoryFault.TheVariants.{NothingToRedo, NothingToUndo}
use Rattle.cam_undo.specs.Timelines.{
  after_group,
  answers,
  contents,
  ended_by,
  group_of,
  open_answers,
  redone_by,
  start_of,
  timeline_at,
  undone_by,
  with_answer,
  with_group_ended,
  with_last_redone,
  with_last_undone,
  with_step,
}
use Rattle.cam_undo.proofs.Lasts.{ending, last_item-snoc}
use Rattle.cam_station.specs.Touches.{Touches, accepted_touches, accepted_touches_in, ended_touches, ended_touches_in, played}
use Rattle.cam_station.specs.Touches.{redone_touches, redone_touches_by, touched_by_redo, touched_by_undo, undone_touches}
use Rattle.cam_station.specs.Touches.{undone_touches_by}
use Rattle.cam_station.specs.Machinery.Touching.{group_touches, last_accepted, last_accepted_in, touches_of}

-- ---- the ends of lists

module _ {X Y : Type 0} (f : X → Y) where
  map-keep_last : (n : ℕ) (xs : List X) → map f (keep_last n xs) ≡ keep_last n (map f xs)
  map-keep_last n xs = rw (length-map xs f) (sym (drop-map f (length xs - n) xs))

  map-last_item : (xs : List X) → last_item (map f xs) ≡ option_map f (last_item xs)
  map-last_item xs = rw (length-map xs f) (slice_get-map f xs (length xs - 1))

  map-all_but_last : (xs : List X) → map f (all_but_last xs) ≡ all_but_last (map f xs)
  map-all_but_last xs = rw (length-map xs f) (sym (take-map f (length xs - 1) xs))

  map-snoc : (xs : List X) (x : X) → map f (xs ++ x ∷ []) ≡ map f xs ++ f x ∷ []
  map-snoc xs x = map-append f xs (x ∷ [])

  map-kept : (n : ℕ) (xs : List X) (x : X) → map f (keep_last n (xs ++ x ∷ [])) ≡ keep_last n (map f xs ++ f x ∷ [])
  map-kept n xs x = map-keep_last n (xs ++ x ∷ []) ∙ ap (keep_last n) (map-snoc xs x)

module _ {X : Type 0} where
  -- what came last stays, where some stay
  last_kept : (n : ℕ) (xs : List X) (x : X) → 1 ≤ n → last_item (keep_last n (xs ++ x ∷ [])) ≡ Some x
  last_kept n xs x some =
      let few : length (xs ++ x ∷ []) - n ≤ length xs = omega (arith, some, length-append xs (x ∷ [])) in
      ap last_item (drop-append-le (length (xs ++ x ∷ []) - n) xs (x ∷ []) few)
      ∙ last_item-snoc (drop (length (xs ++ x ∷ []) - n) xs) x

  last_alone : (xs : List X) (x : X) → drop (length (xs ++ x ∷ []) - 1) (xs ++ x ∷ []) ≡ x ∷ []
  last_alone xs x =
      let front : length (xs ++ x ∷ []) - 1 ≡ length xs = omega (arith, length-append xs (x ∷ [])) in
      rw front (drop_at xs (x ∷ []) (length xs) refl)

  last_there : (xs : List X) → (xs ≡ [] → ⊥) → (x : X) × (last_item xs ≡ Some x)
  last_there [] some = absurd (some refl)
  last_there (x ∷ xs) some =
      let e = ending x xs in (e.last, ap last_item e.is ∙ last_item-snoc e.front e.last)

nothing_played : {C : Type 0} (group : Option (C × ℕ)) (documents : List C) (empty : HistoryFault) → documents ≡ []
    → fault_by_group group (fault_by_list documents empty) ≡ None → ⊥
nothing_played None [] empty none allowed = absurd cc
nothing_played None (d ∷ ds) empty none allowed = absurd cc
nothing_played (Some group) documents empty none allowed = absurd cc

-- ---- what a history makes of its groups

module _ {D : Type 0} (r : Ghosts BoardStep D)
    (same : (step : BoardStep) (c : r.Content) → touch_of (r.inverse step c) ≡ touch_of step) where
  -- the answers of a group touch the same, the other way round
  pub touches_turn : (group : List BoardStep) (c : r.Content)
      → map touch_of (answers r group c) ≡ reverse (map touch_of group)
  touches_turn [] c = refl
  touches_turn (step ∷ later) c =
      let answer : BoardStep = r.inverse step (after_group r later c) in
      map-snoc touch_of (answers r later c) answer
      ∙ (ap (λ l. l ++ touch_of answer ∷ []) (touches_turn later c)
      ∙ (ap (λ t. reverse (map touch_of later) ++ t ∷ []) (same step (after_group r later c))
      ∙ sym (reverse-append (touch_of step ∷ []) (map touch_of later))))

  touches_answered : (step : BoardStep) (c : r.Content) (kept : Kept BoardStep) (group : Option (List BoardStep))
      → touches_of (with_answer r (r.inverse step c) kept group)
      ≡ accepted_touches_in kept.depth (touch_of step) (touches_of kept) (option_map (map touch_of) group)
  touches_answered step c kept None =
      ap (λ past. record { past = past; future = []; group = None })
      (map-kept (map touch_of) kept.depth kept.past (r.inverse step c ∷ [])
      ∙ ap (λ t. keep_last kept.depth (map (map touch_of) kept.past ++ (t ∷ []) ∷ [])) (same step c))
  touches_answered step c kept (Some group) =
      ap (λ steps. record { past = map (map touch_of) kept.past; future = []; group = Some steps })
      (map-snoc touch_of group (r.inverse step c) ∙ ap (λ t. map touch_of group ++ t ∷ []) (same step c))

  -- an accepted step
  pub touches_accepted : (step : BoardStep) (c : r.Content) (kept : Kept BoardStep)
      → touches_of (with_step r step c kept) ≡ accepted_touches kept.depth (touch_of step) (touches_of kept)
  touches_accepted step c kept = touches_answered step c kept kept.open_group

  touches_closed : (kept : Kept BoardStep) (group : Option (List BoardStep))
      → touches_of (ended_by r kept group)
      ≡ ended_touches_in kept.depth (touches_of kept) (option_map (map touch_of) group)
  touches_closed kept None = refl
  touches_closed kept (Some []) = refl
  touches_closed kept (Some (step ∷ later)) =
      ap (λ past. record { past = past; future = map (map touch_of) kept.future; group = None })
      (map-kept (map touch_of) kept.depth kept.past (step ∷ later))

  -- the end of a group
  pub touches_ended : (kept : Kept BoardStep)
      → touches_of (with_group_ended r kept) ≡ ended_touches kept.depth (touches_of kept)
  touches_ended kept = touches_closed kept kept.open_group

  -- groups that were played, the last of `from` onto the end of `to`
  shifted : (to : List (List BoardStep)) (group : List BoardStep) (c : r.Content)
      → map (map touch_of) (to ++ answers r group c ∷ [])
      ≡ map (map touch_of) to ++ reverse (map touch_of group) ∷ []
  shifted to group c =
      map-snoc (map touch_of) to (answers r group c)
      ∙ ap (λ l. map (map touch_of) to ++ l ∷ []) (touches_turn group c)

  touches_back : (c : r.Content) (kept : Kept BoardStep) (group : Option (List BoardStep))
      → touches_of (undone_by r c kept group)
      ≡ undone_touches_by (touches_of kept) (option_map (map touch_of) group)
  touches_back c kept None = refl
  touches_back c kept (Some group) =
      ap (λ past. record {
        past = past;
        future = map (map touch_of) (kept.future ++ answers r group c ∷ []);
        group = option_map (map touch_of) kept.open_group;
      }) (map-all_but_last (map touch_of) kept.past)
      ∙ ap (λ future. record {
        past = all_but_last (map (map touch_of) kept.past);
        future = future;
        group = option_map (map touch_of) kept.open_group;
      }) (shifted kept.future group c)

  -- an undo
  pub touches_undone : (c : r.Content) (kept : Kept BoardStep)
      → touches_of (with_last_undone r c kept) ≡ undone_touches (touches_of kept)
  touches_undone c kept =
      touches_back c kept (last_item kept.past)
      ∙ ap (undone_touches_by (touches_of kept)) (sym (map-last_item (map touch_of) kept.past))

  touches_on : (c : r.Content) (kept : Kept BoardStep) (group : Option (List BoardStep))
      → touches_of (redone_by r c kept group)
      ≡ redone_touches_by (touches_of kept) (option_map (map touch_of) group)
  touches_on c kept None = refl
  touches_on c kept (Some group) =
      ap (λ past. record {
        past = past;
        future = map (map touch_of) (all_but_last kept.future);
        group = option_map (map touch_of) kept.open_group;
      }) (shifted kept.past group c)
      ∙ ap (λ future. record {
        past = map (map touch_of) kept.past ++ reverse (map touch_of group) ∷ [];
        future = future;
        group = option_map (map touch_of) kept.open_group;
      }) (map-all_but_last (map touch_of) kept.future)

  -- a redo
  pub touches_redone : (c : r.Content) (kept : Kept BoardStep)
      → touches_of (with_last_redone r c kept) ≡ redone_touches (touches_of kept)
  touches_redone c kept =
      touches_on c kept (last_item kept.future)
      ∙ ap (redone_touches_by (touches_of kept)) (sym (map-last_item (map touch_of) kept.future))

  -- ---- what was played

  -- the answers that an abort hands out
  pub played_by_abort : (c : r.Content) (group : Option (List BoardStep))
      → map touch_of (open_answers r group c) ≡ played (option_map (map touch_of) group)
  played_by_abort c None = refl
  played_by_abort c (Some group) = touches_turn group c

  played_back : (c : r.Content) (kept : Kept BoardStep) (group : List BoardStep) → last_item kept.past ≡ Some group
      → group_touches (last_item (with_last_undone r c kept).future) ≡ touched_by_undo (touches_of kept)
  played_back c kept group e =
      ap (λ o. group_touches (last_item (undone_by r c kept o).future)) e
      ∙ (ap group_touches (last_item-snoc kept.future (answers r group c))
      ∙ (touches_turn group c
      ∙ ap played (sym (map-last_item (map touch_of) kept.past ∙ ap (option_map (map touch_of)) e))))

  played_on : (c : r.Content) (kept : Kept BoardStep) (group : List BoardStep) → last_item kept.future ≡ Some group
      → group_touches (last_item (with_last_redone r c kept).past) ≡ touched_by_redo (touches_of kept)
  played_on c kept group e =
      ap (λ o. group_touches (last_item (redone_by r c kept o).past)) e
      ∙ (ap group_touches (last_item-snoc kept.past (answers r group c))
      ∙ (touches_turn group c
      ∙ ap played (sym (map-last_item (map touch_of) kept.future ∙ ap (option_map (map touch_of)) e))))

  some_past : (kept : Kept BoardStep) (c : r.Content) → undo_fault (timeline_at r kept c) ≡ None → kept.past ≡ [] → ⊥
  some_past kept c allowed none =
      let start : r.Content = start_of r kept.open_group c in
      nothing_played (group_of r kept.open_group c) (contents r kept.past start) NothingToUndo
      (ap (λ past. contents r past start) none) allowed

  -- the steps that a redo would play now are those that the undo played
  pub played_by_undo : (c : r.Content) (kept : Kept BoardStep) → undo_fault (timeline_at r kept c) ≡ None
      → group_touches (last_item (with_last_undone r c kept).future) ≡ touched_by_undo (touches_of kept)
  played_by_undo c kept allowed =
      let last = last_there kept.past (some_past kept c allowed) in played_back c kept last.0 last.1

  some_future : (kept : Kept BoardStep) (c : r.Content) → redo_fault (timeline_at r kept c) ≡ None
      → kept.future ≡ [] → ⊥
  some_future kept c allowed none =
      let start : r.Content = start_of r kept.open_group c in
      nothing_played (group_of r kept.open_group c) (contents r kept.future start) NothingToRedo
      (ap (λ future. contents r future start) none) allowed

  -- and the other way round
  pub played_by_redo : (c : r.Content) (kept : Kept BoardStep) → redo_fault (timeline_at r kept c) ≡ None
      → group_touches (last_item (with_last_redone r c kept).past) ≡ touched_by_redo (touches_of kept)
  played_by_redo c kept allowed =
      let last = last_there kept.future (some_future kept c allowed) in played_on c kept last.0 last.1

-- ---- what was accepted last

accepted_alone : (depth : ℕ) (t : Touch) (m : Touches) (group : Option (List Touch)) → 1 ≤ depth
    → last_accepted (accepted_touches_in depth t m group) ≡ t ∷ []
accepted_alone depth t m None some = ap (λ o. unwrap_or o []) (last_kept depth m.past (t ∷ []) some)
accepted_alone depth t m (Some group) some = last_alone group t

pub accepted_last : (depth : ℕ) (t : Touch) (m : Touches) → 1 ≤ depth
    → last_accepted (accepted_touches depth t m) ≡ t ∷ []
accepted_last depth t m some = accepted_alone depth t m m.group some

-- in an open group, from the place on where its last step stands
pub last_in_group : (kept : Kept BoardStep) (group : List BoardStep) (start : ℕ) → Some group ≡ kept.open_group
    → start ≡ length group - 1
    → last_accepted (touches_of kept) ≡ map touch_of (take (length group - start) (drop start group))
last_in_group kept group start e last =
    let rest : List BoardStep = drop (length group - 1) group in
    let whole : take (length group - (length group - 1)) rest ≡ rest =
    take_all (length group - (length group - 1)) rest (omega (arith, length-drop (length group - 1) group)) in
    ap (λ o. last_accepted_in (touches_of kept) (option_map (map touch_of) o)) (sym e)
    ∙ rw (last, whole, length-map group touch_of) (drop-map touch_of (length group - 1) group)

group_alone : (group : Option (List BoardStep))
    → unwrap_or (option_map (map touch_of) group) [] ≡ group_touches group
group_alone None = refl
group_alone (Some group) = refl

-- alone
pub last_in_past : (kept : Kept BoardStep) → kept.open_group ≡ None
    → last_accepted (touches_of kept) ≡ group_touches (last_item kept.past)
last_in_past kept e =
    ap (λ o. last_accepted_in (touches_of kept) (option_map (map touch_of) o)) e
    ∙ (ap (λ o. unwrap_or o []) (map-last_item (map touch_of) kept.past) ∙ group_alone (last_item kept.past))
