-- the room that is left for the other steps of a group after its last step was played
use Rattle.std.proofs.Common.{◌≡◌, ℕ, ◌+◌, ◌≤◌, Bool, cond, List, [], ◌∷◌, ◌++◌, length, count_by, vec_capacity, arith}
use Rattle.std.proofs.lemmas.List.Sums.{sum_by-append}
use Rattle.cam_objects.specs.declared.layer.Layer.{Layer}
use Rattle.cam_edits.specs.declared.step.Step.{Step}
use Rattle.cam_objects.specs.declared.drill_layer.DrillLayer.{DrillLayer}
use Rattle.cam_edits.specs.declared.drill_step.DrillStep.{DrillStep}
use Rattle.cam_edits.specs.DrillSteps.{HasDrillRoom, is_drill_insertion}
use Rattle.cam_edits.specs.Steps.{HasRoom, is_insertion, puts_attribute}

pub room_left : {S : Type 0} (p : S → Bool) (rest : List S) (step known : S) (now later before room_then : ℕ) → step ≡ known
    → now + count_by p (rest ++ step ∷ []) ≤ before → later ≤ now + cond (p known) 1 0 → before ≤ room_then
    → later + count_by p rest ≤ room_then
room_left p rest step known now later before room_then is room few more = grind (arith, sum_by-append)

module _ (rest : List Step) (step : Step) (layer : Layer) (room : HasRoom (rest ++ step ∷ []) layer) (known : Step)
    (is : step ≡ known) where
  pub items_left : (later room_then : ℕ) → later ≤ length layer.items.items + cond (is_insertion known) 1 0
      → vec_capacity layer.items ≤ room_then → later + count_by is_insertion rest ≤ room_then
  items_left later room_then = room_left is_insertion rest step known _ later _ room_then is room.0

  pub attributes_left : (later room_then : ℕ) → later ≤ length layer.attributes.items + cond (puts_attribute known) 1 0
      → vec_capacity layer.attributes ≤ room_then → later + count_by puts_attribute rest ≤ room_then
  attributes_left later room_then = room_left puts_attribute rest step known _ later _ room_then is room.1

pub holes_left : (rest : List DrillStep) (step : DrillStep) (layer : DrillLayer)
    → HasDrillRoom (rest ++ step ∷ []) layer → (known : DrillStep) → step ≡ known → (later room_then : ℕ)
    → later ≤ length layer.items.items + cond (is_drill_insertion known) 1 0 → vec_capacity layer.items ≤ room_then
    → later + count_by is_drill_insertion rest ≤ room_then
holes_left rest step layer room known is later room_then =
    room_left is_drill_insertion rest step known _ later _ room_then is room
