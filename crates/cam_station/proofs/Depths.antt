-- No more documents are kept than the depth.
use Rattle.std.proofs.Common.{◌≡◌, ℕ, ◌+◌, ◌-◌, ◌≤◌, ◌<◌, zero, suc, List, [], ◌∷◌, ◌++◌, length, Option, None}
use Rattle.std.proofs.Common.{Some, refl, arith, length-append, length-drop, length-take, take, ◌∙◌}
use Rattle.std.proofs.lemmas.Option.{slice_get_within}
use Rattle.std.specs.Prelude.{drop, slice_get}
use Rattle.cam_edits.specs.Sheets.{Sheet}
use Rattle.cam_undo.specs.declared.fault.HistoryFault.{HistoryFault}
use Rattle.cam_undo.specs.Machine.{
  Timeline,
  aborted_in,
  accepted_in,
  begun,
  ended_in,
  fault_by_group,
  redone_to,
  undone_to,
}
use Rattle.cam_station.specs.Machine.{State, Outcome, fresh}
use Rattle.cam_station.specs.Calls.{Call, DepthLaw, state_after, states_after}
use Rattle.cam_station.proofs.Refusing.{AfterEach, AfterOthers, after_each}

module _ {D : Type 0} where
  -- no more documents than the depth, and with edits in an open group none that was taken back
  pub record IsKept (depth : ℕ) (t : Timeline D) : Type 0 where
    pub kept : length t.past + length t.future ≤ depth
    pub open_edits : (g : D × ℕ) → t.group ≡ Some g → 0 < g.1 → length t.future ≡ 0

  -- no more than the last `depth` stay
  kept_length : (depth : ℕ) (xs : List D) → length (drop (length xs - depth) xs) ≤ depth
  kept_length depth xs = omega (arith, length-drop (length xs - depth) xs)

  abbrev last_of : List D → Option D
  last_of xs = slice_get xs (length xs - 1)

  -- where no group is open, the lengths alone matter
  closed : (depth : ℕ) (t : Timeline D) → t.group ≡ None → length t.past + length t.future ≤ depth → IsKept depth t
  closed depth t none kept = record { kept = kept; open_edits = λ g is some. cc }

  after_edit : (depth : ℕ) (edited : D) (t : Timeline D) (group : Option (D × ℕ)) → IsKept depth t
      → IsKept depth (accepted_in depth edited t group)
  after_edit depth edited t None h =
      closed depth _ refl (omega (arith, kept_length depth (t.past ++ t.document ∷ [])))
  after_edit depth edited t (Some g) h = record { kept = omega (arith, h.kept); open_edits = λ g is some. refl }

  after_begin : (depth : ℕ) (t : Timeline D) → IsKept depth t → IsKept depth (begun t)
  after_begin depth t h =
      record { kept = h.kept; open_edits = λ g is some. let none : g.1 ≡ 0 = cc in absurd (omega (arith, none, some)) }

  after_end : (depth : ℕ) (t : Timeline D) (group : Option (D × ℕ)) → t.group ≡ group → IsKept depth t
      → IsKept depth (ended_in depth t group)
  after_end depth t None is h = h
  after_end depth t (Some (start, zero)) is h = closed depth _ refl h.kept
  after_end depth t (Some (start, suc count)) is h =
      let none : length t.future ≡ 0 = h.open_edits (start, suc count) is (omega arith) in
      closed depth _ refl (omega (arith, none, kept_length depth (t.past ++ start ∷ [])))

  after_abort : (depth : ℕ) (t : Timeline D) (group : Option (D × ℕ)) → IsKept depth t
      → IsKept depth (aborted_in t group)
  after_abort depth t None h = h
  after_abort depth t (Some g) h = closed depth _ refl h.kept

  no_group : (group : Option (D × ℕ)) (fault : Option HistoryFault) → fault_by_group group fault ≡ None → group ≡ None
  no_group None fault may = refl
  no_group (Some g) fault may = cc

  -- one document goes from a list that has one, and another joins the other list
  shifted : (xs ys : List D) (x y : D) → last_of xs ≡ Some x
      → length (take (length xs - 1) xs) + length (ys ++ y ∷ []) ≡ length xs + length ys
  shifted xs ys x y is =
      let some : length xs - 1 < length xs = slice_get_within xs (length xs - 1) x is in
      omega (arith, some, length-take (length xs - 1) xs, length-append ys (y ∷ []))

  after_undo : (depth : ℕ) (t : Timeline D) (last : Option D) → t.group ≡ None → last_of t.past ≡ last
      → IsKept depth t → IsKept depth (undone_to t last)
  after_undo depth t None none is h = h
  after_undo depth t (Some earlier) none is h =
      closed depth _ none (omega (arith, h.kept, shifted t.past t.future earlier t.document is))

  after_redo : (depth : ℕ) (t : Timeline D) (last : Option D) → t.group ≡ None → last_of t.future ≡ last
      → IsKept depth t → IsKept depth (redone_to t last)
  after_redo depth t None none is h = h
  after_redo depth t (Some later) none is h =
      closed depth _ none (omega (arith, h.kept, shifted t.future t.past later t.document is))

-- the depth is the first one, and no more documents are kept
pub record IsWithinDepth (depth : ℕ) (s : State) : Type 0 where
  pub depth_is : s.depth ≡ depth
  pub keeps : IsKept s.depth s.timeline

abbrev Leads : ℕ → State × Outcome → Type 0
Leads depth p = IsWithinDepth depth p.0

module _ (depth : ℕ) (s : State) (h : IsWithinDepth depth s) where
  to : (after : State) → after.depth ≡ s.depth → IsKept s.depth after.timeline → IsWithinDepth depth after
  to after same keeps = record { depth_is = same ∙ h.depth_is; keeps = rw same keeps }

  leads_others : AfterOthers s (Leads depth)
  leads_others =
      let t : Timeline (List Sheet) = s.timeline in
      record {
        looked = λ reply. h;
        refused = λ f own. h;
        unread = λ kind file f is. h;
        loaded = λ name kind file c reply is. to _ refl (closed s.depth _ refl (omega arith));
        framed = λ w is. to _ refl h.keeps;
        drawn = λ w n reply is. to _ refl h.keeps;
        changed = λ edit sheets is. to _ refl (after_edit s.depth sheets t t.group h.keeps);
        opened = λ may. to _ refl (after_begin s.depth t h.keeps);
        closed = λ may. to _ refl (after_end s.depth t t.group refl h.keeps);
        left = λ may. to _ refl (after_abort s.depth t t.group h.keeps);
        taken_back = λ may.
            to _ refl (after_undo s.depth t (last_of t.past) (no_group t.group _ may) refl h.keeps);
        made_again = λ may.
            to _ refl (after_redo s.depth t (last_of t.future) (no_group t.group _ may) refl h.keeps);
      }

  leads_each : AfterEach s (Leads depth)
  leads_each =
      record {
        others = leads_others;
        plotted = λ w place reply is. to _ refl h.keeps;
        plot_refused = λ w place is. to _ refl h.keeps;
      }

fresh_within : (depth : ℕ) → IsWithinDepth depth (fresh depth)
fresh_within depth = record { depth_is = refl; keeps = closed depth (fresh depth).timeline refl (omega arith) }

within_after : (depth : ℕ) (s : State) (calls : List Call) → IsWithinDepth depth s
    → IsWithinDepth depth (states_after s calls)
within_after depth s [] h = h
within_after depth s (c ∷ calls) h =
    within_after depth (state_after s c) calls (after_each s (Leads depth) (leads_each depth s h) c.0 c.1)

pub within_depth : (depth : ℕ) (calls : List Call) → IsWithinDepth depth (states_after (fresh depth) calls)
within_depth depth calls = within_after depth (fresh depth) calls (fresh_within depth)

pub depth_law : DepthLaw
depth_law depth before =
    let h : IsWithinDepth depth (states_after (fresh depth) before) = within_depth depth before in
    omega (arith, h.depth_is, h.keeps.kept)
