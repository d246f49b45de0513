use Rattle.std.proofs.Common.{◌≡◌, ◌++◌, take}
use Rattle.cam_ask.specs.Texts.{part_lines}
use Rattle.cam_ask.proofs.lines.push_parts.Given as goal

abbrev pub invariant-loop-object : goal.invariant-loop-object
invariant-loop-object l = l.text.items ≡ l.fn.text.items ++ part_lines (take l.object-index l.objects)
