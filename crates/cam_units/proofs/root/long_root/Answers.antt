use Rattle.std.proofs.Common.{arith}
use Rattle.cam_units.proofs.NewtonRoots.{first_root, next_root}
use Rattle.cam_units.proofs.root.long_root.Goals as goal

pub loop-quotient-init : goal.loop-quotient-init
loop-quotient-init c =
    let first = first_root c.args.n c.ilog2.result 64 c.ilog2.ensures.next_power_gt c.ilog2.ensures.bound in
    record { from = first.0; short = first.1 }

pub loop-quotient-preserved : goal.loop-quotient-preserved
loop-quotient-preserved c = record {
  from =
      next_root c.args.n c.loop-quotient.root c.loop-quotient.quotient (omega (arith, c.requires))
      c.loop-quotient.invariant.from c.loop-quotient-test.true;
  short = omega (arith, c.loop-quotient.invariant.short);
}

pub returns-clause-square : goal.returns-clause-square
returns-clause-square c = grind (arith)

pub returns-clause-short : goal.returns-clause-short
returns-clause-short c = grind (arith)
