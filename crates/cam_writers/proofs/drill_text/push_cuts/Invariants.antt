use Rattle.std.proofs.Common.{◌≡◌, take}
use Rattle.std.specs.List.{fold}
use Rattle.cam_writers.specs.DrillTexts.{Lines, text_of, with_cut}
use Rattle.cam_writers.proofs.drill_text.push_cuts.Given as goal

abbrev pub invariant-loop-to : goal.invariant-loop-to
invariant-loop-to l = (lines : Lines) → l.fn.text.items ≡ text_of lines
    → l.text.items ≡ text_of (fold with_cut lines (take l.to-index l.points))
