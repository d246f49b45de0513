use Rattle.std.proofs.Common.{◌≡◌, ◌+◌, ◌++◌, take}
use Rattle.arrayvec.specs.ArrayVec.{array_vec_len}
use Rattle.cam_c.proofs.line.put.Given as goal

abbrev pub invariant-loop-byte : goal.invariant-loop-byte
invariant-loop-byte l =
    record {
      items : l.line.items ≡ l.fn.line.items ++ take l.byte-index l.bytes;
      len : array_vec_len l.line ≡ array_vec_len l.fn.line + l.byte-index;
    }
