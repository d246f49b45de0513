use Rattle.std.proofs.Common.{pos, inl, inr, arith, rules}
use Rattle.std.proofs.lemmas.Grind.{common_steps}
use Rattle.std.proofs.lemmas.Int.{by_lt_z, ints}
use Rattle.cam_rows.specs.Machinery.Slopes.{falling}
use Rattle.cam_rows.proofs.HalfPlanes.{fell, kept_high, kept_low, high_fits, low_fits}
use Rattle.cam_rows.proofs.Strips.{strip_within}
use Rattle.cam_rows.proofs.half_plane.HalfPlane.strip.Goals as goal

pub returns : goal.returns
returns c =
    let h = c.args.self.now in
    let f = c.falling-falling in
    let t = c.in_ok-steps.steps in
    let e = c.excess in
    let low = rw (kept_low f.result.first e.result c.args.reach f.ensures.first e.ensures.few c.requires.reach)
    at c.in_ok-low.ensures in
    let high = rw (kept_high f.result.first e.result c.args.reach f.ensures.first e.ensures.few c.requires.reach)
    at c.in_ok-high.ensures in
    record {
      few = omega (arith, c.if-rows-gt-MOST_ROWS.false);
      steps = c.in_ok-steps.ensures.steps;
      near_low = c.in_ok-low.ensures.here;
      near_high = c.in_ok-high.ensures.here;
      within = λ k i.
          strip_within h f.result (falling c.in_ok-low.low t) (falling c.in_ok-high.high t) c.args.reach e.result
          (fell f.result c.in_ok-low.low t _ f.ensures.step f.ensures.bound c.in_ok-steps.ensures low)
          (fell f.result c.in_ok-high.high t _ f.ensures.step f.ensures.bound c.in_ok-steps.ensures high) k i
          (by_lt_z h.step (pos 0)
          (λ falls. inl (f.ensures.falls falls, e.ensures.falls falls))
          (λ rises. inr (f.ensures.rises rises, e.ensures.rises rises)));
    }

pub crossing-requires-clause-number : goal.crossing-requires-clause-number
crossing-requires-clause-number c =
    omega (arith, ints, c.falling-falling.ensures.first, c.excess.ensures.few, c.requires.reach)

pub crossing-requires-2-clause-number : goal.crossing-requires-2-clause-number
crossing-requires-2-clause-number c =
    omega (arith, ints, c.falling-falling.ensures.first, c.excess.ensures.few, c.requires.reach)

pub overflow_add-middle-2 : goal.overflow_add-middle-2
overflow_add-middle-2 c = grind (arith, high_fits, low_fits)

pub returns-in_err-high : goal.returns-in_err-high
returns-in_err-high c = grind (arith)

pub overflow_sub-middle : goal.overflow_sub-middle
overflow_sub-middle c = search (rules, high_fits, low_fits)

pub crossing-requires-2-clause-steps : goal.crossing-requires-2-clause-steps
crossing-requires-2-clause-steps c = grind (arith)

pub overflow_sub-falling : goal.overflow_sub-falling
overflow_sub-falling c = grind (arith, common_steps)

pub of-requires : goal.of-requires
of-requires c = grind (arith, common_steps)

pub returns-in_err-steps : goal.returns-in_err-steps
returns-in_err-steps c = grind (arith)

pub overflow_sub-middle-2 : goal.overflow_sub-middle-2
overflow_sub-middle-2 c = grind (arith, high_fits, low_fits)

pub overflow_add-middle : goal.overflow_add-middle
overflow_add-middle c = search rules

pub returns-in_err-low : goal.returns-in_err-low
returns-in_err-low c = grind (arith)
