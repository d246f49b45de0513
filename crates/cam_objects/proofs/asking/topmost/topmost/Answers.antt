use Rattle.std.proofs.Common.{◌∙◌, ◌-◌, map, sym, arith}
use Rattle.std.proofs.lemmas.Bool.{false≢true}
use Rattle.cam_objects.specs.Bounds.{bounds_of}
use Rattle.cam_objects.proofs.Topmost.{bare_down, bare_one}
use Rattle.cam_objects.proofs.asking.topmost.topmost.Goals as goal

pub loop-end-init : goal.loop-end-init
loop-end-init g c =
    let all = g.A.AskedItems.lists c.args.items.now in record {
      under = omega arith;
      listed = omega (arith, c.count.ensures.value);
      bare = bare_down all c.args.at c.args.before c.min.result c.near_end-end.result
          (λ j low high listed. absurd (omega (arith, low, high, listed, c.count.ensures.value)))
          (c.near_end-end.ensures.apart (map bounds_of all) c.requires.cells);
    }

pub returns-then-covers : goal.returns-then-covers
returns-then-covers g c = record {
  under = omega arith;
  listed = omega arith;
  covered = c.covers.ensures.0 c.if-covers.true;
  others = λ j low high listed. c.loop-end.invariant.bare j (omega arith) high listed;
}

pub loop-end-preserved : goal.loop-end-preserved
loop-end-preserved g c =
    let all = g.A.AskedItems.lists c.args.items.now in
    let place = c.loop-end.end - 1 in record {
      under = omega arith;
      listed = omega arith;
      bare = bare_down all c.args.at c.args.before place c.near_end-end-in-loop-end.result
          (bare_one all c.args.at c.args.before place c.loop-end.end (omega arith) c.loop-end.invariant.bare
          (λ any. false≢true (sym c.if-covers.false ∙ c.covers.ensures.1 any)))
          (c.near_end-end-in-loop-end.ensures.apart (map bounds_of all) c.requires.cells);
    }

pub returns : goal.returns
returns g c = λ j high listed. c.loop-end.invariant.bare j (omega arith) high listed
