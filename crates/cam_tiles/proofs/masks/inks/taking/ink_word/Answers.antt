use Rattle.std.proofs.Common.{sym, ◌∙◌}
use Rattle.cam_tiles.proofs.InkWords.{set_in_all, set_in_none}
use Rattle.cam_tiles.proofs.masks.inks.taking.ink_word.Goals as goal

pub returns-then-dark : goal.returns-then-dark
returns-then-dark c = λ i small. set_in_all i small ∙ sym c.if-dark.true

pub returns-else-dark : goal.returns-else-dark
returns-else-dark c = λ i small. set_in_none i ∙ sym c.if-dark.false
