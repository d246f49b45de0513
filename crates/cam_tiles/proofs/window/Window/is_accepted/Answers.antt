use Rattle.std.proofs.Common.{arith, rules}
use Rattle.std.proofs.lemmas.Grind.{common_steps}
use Rattle.cam_tiles.specs.Picture.{accepts}
use Rattle.cam_tiles.proofs.window.Window.is_accepted.Goals as goal

pub are_near-requires-then-are_near : goal.are_near-requires-then-are_near
unfolding accepts
are_near-requires-then-are_near c = grind (arith)

pub returns-then-self-lt1 : goal.returns-then-self-lt1
unfolding accepts
returns-then-self-lt1 c = grind (arith, common_steps)

pub returns-else-are_near : goal.returns-else-are_near
unfolding accepts
returns-else-are_near c = search rules

pub returns-then-are_near : goal.returns-then-are_near
unfolding accepts
returns-then-are_near c = search rules

pub are_near-requires : goal.are_near-requires
unfolding accepts
are_near-requires c = grind (arith)
