-- Exact undo, as laws of the machine of documents.
use Rattle.cam_undo.specs.Machine.{Timeline, accepted, begun, ended, redone, undone}
use Rattle.std.specs.Prelude.{◌<◌, ◌≡◌, ℕ, List, None, [], ◌∷◌}

module _ (D : Type 0) where
  -- An accepted edit followed by undo gives back the document, and redo the edited state again.
  abbrev pub ExactUndoOfEdits : Type 0
  ExactUndoOfEdits = (depth : ℕ) (edited : D) (m : Timeline D) → 0 < depth → m.group ≡ None
      → ((undone (accepted depth edited m)).document ≡ m.document)
      × (redone (undone (accepted depth edited m)) ≡ accepted depth edited m)

  -- the edits of a group are accepted in turn
  abbrev pub all_accepted : ℕ → List D → Timeline D → Timeline D
  all_accepted depth [] m = m
  all_accepted depth (edited ∷ later) m = all_accepted depth later (accepted depth edited m)

  -- a group from its beginning to its end
  abbrev pub group_accepted : ℕ → List D → Timeline D → Timeline D
  group_accepted depth edits m = ended depth (all_accepted depth edits (begun m))

  -- A group with edits followed by undo gives back the document at its beginning, and redo the edited one again.
  abbrev pub ExactUndoOfGroups : Type 0
  ExactUndoOfGroups = (depth : ℕ) (edited : D) (later : List D) (m : Timeline D) → 0 < depth
      → ((undone (group_accepted depth (edited ∷ later) m)).document ≡ m.document)
      × (redone (undone (group_accepted depth (edited ∷ later) m)) ≡ group_accepted depth (edited ∷ later) m)
