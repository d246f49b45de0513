-- How a group goes from one ring to the other.
use Rattle.cam_edits.specs.declared.reversible.Reversible.{Ghosts}
use Rattle.cam_undo.specs.Timelines.{after_group, answers}
use Rattle.std.specs.Prelude.{◌≡◌, List, [], ◌++◌, ◌∷◌}

module _ {S D : Type 0} (r : Ghosts S D) where
  -- The last group of `from` was played, and its answers stand last in `to`.
  pub record Shifted (from to : List (List S)) (c : r.Content) (left grown : List (List S)) (reached : r.Content)
      : Type 0 where
    pub group : List S
    pub taken : from ≡ left ++ group ∷ []
    pub put : grown ≡ to ++ answers r group c ∷ []
    pub played : reached ≡ after_group r group c
