-- What a history keeps: groups of steps, in place of documents.
use Rattle.std.specs.Prelude.{ℕ, List, None, Option, Some, length, map}
use Rattle.std.specs.declared.vec.Vec.{Vec}

-- The groups that lead back, the latest last; those that lead on, the next one last; and the open group. A group is
-- played from its last step to its first.
pub record Kept (X : Type 0) : Type 0 where
  pub depth : ℕ
  pub past : List (List X)
  pub future : List (List X)
  pub open_group : Option (List X)

module _ {X Z : Type 0} where
  -- the steps of each group
  abbrev pub steps_of : List (Vec X Z) → List (List X)
  steps_of groups = map (λ group. group.items) groups

  abbrev pub open_steps : Option (Vec X Z) → Option (List X)
  open_steps None = None
  open_steps (Some group) = Some group.items

  abbrev pub open_count : Option (Vec X Z) → ℕ
  open_count None = 0
  open_count (Some group) = length group.items
