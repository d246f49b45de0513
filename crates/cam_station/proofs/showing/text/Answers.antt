use Rattle.std.proofs.Common.{arith}
use Rattle.cam_station.proofs.showing.text.Goals as goal

pub gerber_text-requires : goal.gerber_text-requires
gerber_text-requires c = grind (arith)

pub xnc_text-requires : goal.xnc_text-requires
xnc_text-requires c = grind (arith)
