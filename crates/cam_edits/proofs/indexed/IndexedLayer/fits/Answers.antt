use Rattle.std.proofs.Common.{arith}
use Rattle.cam_edits.proofs.UnrefusedSteps.{sound_by}
use Rattle.cam_edits.proofs.indexed.IndexedLayer.fits.Goals as goal

pub returns : goal.returns
returns c = grind (arith, sound_by)

pub returns-then-not-fits : goal.returns-then-not-fits
returns-then-not-fits c = grind (arith)
