use Rattle.std.proofs.Common.{◌-◌, arith}
use Rattle.std.proofs.lemmas.Grind.{common_steps}
use Rattle.cam_apertures.proofs.Painting.{decides_at, none_at, not_false, passes_at, round, through}
use Rattle.cam_apertures.proofs.primitives.is_painted.Goals as goal

pub returns-then-holds : goal.returns-then-holds
returns-then-holds c = grind (arith, through, decides_at)

pub loop-place-preserved : goal.loop-place-preserved
loop-place-preserved c =
    let n = c.loop-place.place in
    record {
      here = omega (arith, c.loop-place.invariant.here);
      same = through (round (passes_at c.args.turn c.args.prims.now (n - 1) n c.index-prims-place.result c.args.spot (omega arith)
          (omega (arith, c.loop-place.invariant.here)) c.index-prims-place.is
          (not_false c.holds.result c.if-holds.false c.holds.ensures))) c.loop-place.invariant.same;
    }

pub returns : goal.returns
returns c = none_at c.args.turn c.args.prims.now c.loop-place.place c.args.spot (omega arith) c.loop-place.invariant.same

pub bounds-prims-place : goal.bounds-prims-place
bounds-prims-place c = omega (arith, c.loop-place.invariant.here)

pub holds-requires-clause-spot : goal.holds-requires-clause-spot
holds-requires-clause-spot c = c.requires.spot

pub loop-place-init : goal.loop-place-init
loop-place-init c = grind (arith, common_steps)
