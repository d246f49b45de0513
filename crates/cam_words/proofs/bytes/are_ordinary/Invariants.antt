use Rattle.std.proofs.Common.{◌≡◌, take}
use Rattle.std.specs.List.{list_all}
use Rattle.cam_words.specs.Machinery.Ordinary.{is_ordinary}
use Rattle.cam_words.proofs.bytes.are_ordinary.Given as goal

abbrev pub invariant-loop-byte : goal.invariant-loop-byte
invariant-loop-byte l = l.all ≡ list_all is_ordinary (take l.byte-index l.text)
