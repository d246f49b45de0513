use Rattle.std.proofs.Common.{◌≡◌, ◌+◌, ◌*◌, ◌++◌, ◌≤◌, drop}
use Rattle.std.specs.Prelude.{codes, decimal}
use Rattle.std.specs.List.{flat_map}
use Rattle.arrayvec.specs.ArrayVec.{array_vec_len}
use Rattle.cam_c.proofs.line.put_numbers.Given as goal

-- the numbers so far and those that are left are all of them
abbrev pub invariant-loop-number : goal.invariant-loop-number
invariant-loop-number l =
    record {
      items : l.line.items ++ flat_map (λ n. codes " " ++ decimal n) (drop l.number-index l.numbers)
          ≡ l.fn.line.items ++ flat_map (λ n. codes " " ++ decimal n) l.numbers;
      len : array_vec_len l.line ≤ array_vec_len l.fn.line + 41 * l.number-index;
    }
