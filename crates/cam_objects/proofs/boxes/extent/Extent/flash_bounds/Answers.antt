use Rattle.std.proofs.Common.{arith}
use Rattle.cam_objects.proofs.Extents.{bounded_flash}
use Rattle.cam_objects.proofs.boxes.extent.Extent.flash_bounds.Goals as goal

pub returns-clause-value : goal.returns-clause-value
returns-clause-value c = λ dark. grind (arith, bounded_flash)
