use Rattle.std.proofs.Common.{◌≡◌, take, length}
use Rattle.std.specs.List.{fold}
use Rattle.cam_writers.specs.DrillTexts.{Lines, text_of, with_tool}
use Rattle.cam_writers.proofs.drill_text.push_declarations.Given as goal

abbrev pub invariant-loop-place : goal.invariant-loop-place
invariant-loop-place l = record {
  text : (lines : Lines) → l.fn.text.items ≡ text_of lines → l.text.items ≡ text_of (fold with_tool lines (take l.place l.tools));
  end : l.place-end ≡ length l.tools;
}
