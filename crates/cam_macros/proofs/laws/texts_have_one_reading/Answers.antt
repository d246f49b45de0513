use Rattle.cam_macros.proofs.OneReading.{one_reading}
use Rattle.cam_macros.proofs.laws.texts_have_one_reading.Goals as goal

pub returns : goal.returns
returns c = one_reading
