use Rattle.std.proofs.Common.{arith}
use Rattle.cam_gerber.proofs.SoundReadings.{reading_is_sound}
use Rattle.cam_gerber.proofs.reader.read_gerber.Goals as goal

pub returns : goal.returns
returns c = grind (arith, reading_is_sound)
