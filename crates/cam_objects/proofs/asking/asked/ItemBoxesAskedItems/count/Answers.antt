use Rattle.std.proofs.Common.{arith}
use Rattle.std.proofs.lemmas.Grind.{common_steps}
use Rattle.cam_objects.proofs.ClearItems.{clear_items}
use Rattle.cam_objects.proofs.asking.asked.ItemBoxesAskedItems.count.Goals as goal

pub returns-clause-uncrossed : goal.returns-clause-uncrossed
returns-clause-uncrossed c = clear_items c.args.self.now.apertures c.args.self.now.items.items c.layer.ensures.sound

pub returns-clause-value : goal.returns-clause-value
returns-clause-value c = grind (arith, common_steps)
