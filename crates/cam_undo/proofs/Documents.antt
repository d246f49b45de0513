-- Exact undo of the machine of documents.
use Rattle.circular_buffer.specs.Buffer.{keep_last}
use Rattle.cam_undo.proofs.Lasts.{all_but_last-snoc, last_item-snoc}
use Rattle.cam_undo.specs.Laws.{ExactUndoOfEdits, ExactUndoOfGroups, all_accepted}
use Rattle.cam_undo.specs.Machine.{Timeline, accepted, ended, redone, undone}
use Rattle.std.proofs.Common.{◌-◌, ◌+◌, ◌<◌, ◌≡◌, ℕ, List, None, Option, Some, [], arith, drop, length}
use Rattle.std.proofs.Common.{length-append, refl, suc, zero, ◌++◌, ◌∷◌}

module _ {D : Type 0} where
  -- the last `depth` of a past that has just grown end in what joined it
  drop-last : (n : ℕ) (xs : List D) (x : D) → n < length xs + 1 → drop n (xs ++ x ∷ []) ≡ drop n xs ++ x ∷ []
  drop-last zero xs x h = refl
  drop-last (suc n) [] x h = absurd (omega arith)
  drop-last (suc n) (y ∷ xs) x h = drop-last n xs x (omega arith)

  kept : (depth : ℕ) (xs : List D) (x : D) → 0 < depth
      → keep_last depth (xs ++ x ∷ []) ≡ drop (length (xs ++ x ∷ []) - depth) xs ++ x ∷ []
  kept depth xs x h =
      drop-last (length (xs ++ x ∷ []) - depth) xs x (omega (arith, length-append xs (x ∷ [])))

  -- undo and redo where the past ends in a document
  exact : (document : D) (past front : List D) (x : D) (future : List D) → past ≡ front ++ x ∷ []
      → ((undone (record { document = document; past = past; future = future; group = None })).document ≡ x)
      × (redone (undone (record { document = document; past = past; future = future; group = None }))
      ≡ record { document = document; past = past; future = future; group = None })
  exact document past front x future is =
      rw (is, last_item-snoc front x, all_but_last-snoc front x, last_item-snoc future document, all_but_last-snoc future document)
      (refl, refl)

  edits : (depth : ℕ) (edited : D) (m : Timeline D) (group : Option (D × ℕ)) → 0 < depth → group ≡ None → m.group ≡ group
      → ((undone (accepted depth edited m)).document ≡ m.document)
      × (redone (undone (accepted depth edited m)) ≡ accepted depth edited m)
  edits depth edited m group some closed is =
      rw (is, closed) (exact edited (keep_last depth (m.past ++ m.document ∷ []))
      (drop (length (m.past ++ m.document ∷ []) - depth) m.past) m.document [] (kept depth m.past m.document some))

  pub exact_edits : ExactUndoOfEdits D
  exact_edits depth edited m some closed = edits depth edited m None some refl closed

  -- a group of which some edits were accepted
  abbrev within : D → List D → D → ℕ → Timeline D
  within document past start count =
      record { document = document; past = past; future = []; group = Some (start, count) }

  group : (depth : ℕ) (later : List D) (document : D) (past : List D) (start : D) (count : ℕ) → 0 < depth → 0 < count
      → ((undone (ended depth (all_accepted D depth later (within document past start count)))).document ≡ start)
      × (redone (undone (ended depth (all_accepted D depth later (within document past start count))))
      ≡ ended depth (all_accepted D depth later (within document past start count)))
  group depth [] document past start zero some edited = absurd (omega arith)
  group depth [] document past start (suc count) some edited =
      exact document (keep_last depth (past ++ start ∷ [])) (drop (length (past ++ start ∷ []) - depth) past) start []
      (kept depth past start some)
  group depth (edit ∷ later) document past start count some edited =
      group depth later edit past start (count + 1) some (omega arith)

  pub exact_groups : ExactUndoOfGroups D
  exact_groups depth edited later m some = group depth later edited m.past m.document (0 + 1) some (omega arith)
