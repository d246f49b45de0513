use Rattle.std.proofs.Common.{◌≡◌, ◌++◌, take}
use Rattle.std.specs.List.{flat_map}
use Rattle.cam_script.specs.Spelling.{seg_words, spaced}
use Rattle.cam_script.proofs.spelling.push_segs.Given as goal

abbrev pub invariant-loop-seg : goal.invariant-loop-seg
invariant-loop-seg l = l.text.items ≡ l.fn.text.items ++ spaced (flat_map seg_words (take l.seg-index l.segs))
