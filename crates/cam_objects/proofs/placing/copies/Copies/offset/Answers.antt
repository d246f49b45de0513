use Rattle.std.proofs.Common.{rules, ℕ, ◌^◌, ◌<◌, ◌≤◌, ℤ, pos, ◌*ℤ◌, arith}
use Rattle.std.specs.Int.RustNames.{unsigned_abs}
use Rattle.std.proofs.lemmas.Int.{unsigned_abs-mul}
use Rattle.std.proofs.lemmas.Nat.{mul-le}
use Rattle.cam_objects.proofs.Computed.{steps_are, steps_fit}
use Rattle.cam_objects.proofs.placing.copies.Copies.offset.Goals as goal

steps_near : (s : ℤ) (n : ℕ) → n ≤ 4000000 → unsigned_abs s < 1000000000 → unsigned_abs (pos n *ℤ s) < 2 ^ 53
steps_near s n many short = grind (arith, unsigned_abs-mul, mul-le)

pub overflow_mul-result : goal.overflow_mul-result
overflow_mul-result c = steps_fit c.args.column c.args.self.now.i (omega arith) c.requires.across c.from.result c.from.ensures

pub overflow_mul-result-2 : goal.overflow_mul-result-2
overflow_mul-result-2 c = steps_fit c.args.row c.args.self.now.j (omega arith) c.requires.up c.from-2.result c.from-2.ensures

pub returns-clause-value : goal.returns-clause-value
returns-clause-value c = grind (arith, steps_are)

pub returns-clause-x : goal.returns-clause-x
returns-clause-x c = search (rules, steps_are, steps_near)

pub returns-clause-y : goal.returns-clause-y
returns-clause-y c = search (rules, steps_are, steps_near)
