use Rattle.std.proofs.Common.{arith}
use Rattle.cam_tiles.proofs.ContourParts.{either_differs}
use Rattle.cam_tiles.proofs.EdgeSpans.{met_apart}
use Rattle.cam_tiles.proofs.index.contour_parts.segment_heights.Goals as goal

pub returns-in-Curve : goal.returns-in-Curve
returns-in-Curve c = λ s changes. grind (arith, either_differs, met_apart)

pub returns-in-Line : goal.returns-in-Line
returns-in-Line c = grind (arith)
