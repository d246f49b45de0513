use Rattle.std.proofs.Common.{rules, arith}
use Rattle.std.proofs.lemmas.Int.{ints}
use Rattle.cam_rows.specs.Machinery.Narrowing.{IsUp}
use Rattle.cam_rows.specs.Machinery.Slopes.{falling}
use Rattle.cam_rows.proofs.NarrowedRuns.{next_run, all_runs, no_runs}
use Rattle.cam_rows.proofs.SetRows.{ends_narrowed, firsts_narrowed}
use Rattle.cam_rows.proofs.SlopeBits.{lacking_alike, up_alike}
use Rattle.cam_rows.proofs.half_plane.HalfPlane.narrow.Goals as goal

pub returns-in-Some : goal.returns-in-Some
returns-in-Some c =
    let numbers = c.args.self.now in
    let crossing = falling c.in-Some.top c.in-Some.steps in
    ends_narrowed c.args.columns c.args.firsts.now c.args.ends.now c.cut_ends.new.ends (IsUp crossing) (IsUp numbers)
    c.requires.ends c.cut_ends.auto.ends
    (λ k i. up_alike crossing numbers k i (c.in-Some.ensures.falls (omega (arith, ints, c.if-self-lt0.true))))
    c.cut_ends.ensures

pub returns-in-Some-2 : goal.returns-in-Some-2
returns-in-Some-2 c =
    let numbers = c.args.self.now in
    let crossing = falling c.in-Some.top c.in-Some.steps in
    firsts_narrowed c.args.columns c.args.firsts.now c.args.ends.now c.cut_firsts.new.firsts (IsUp crossing)
    (IsUp numbers) c.requires.ends c.cut_firsts.auto.firsts
    (λ k i. lacking_alike numbers crossing k i
    (c.in-Some.ensures.rises (omega (arith, ints, c.if-self-lt0.false))))
    c.cut_firsts.ensures

pub loop-k-preserved : goal.loop-k-preserved
loop-k-preserved c = search (rules, next_run)

pub cut_firsts-requires-clause-rows : goal.cut_firsts-requires-clause-rows
cut_firsts-requires-clause-rows c = grind (arith)

pub narrowed-part-requires-clause-short : goal.narrowed-part-requires-clause-short
narrowed-part-requires-clause-short c = omega (arith)

pub bounds-firsts-k-in-loop-k : goal.bounds-firsts-k-in-loop-k
bounds-firsts-k-in-loop-k c = omega (arith)

pub bounds-ends-k-in-loop-k : goal.bounds-ends-k-in-loop-k
bounds-ends-k-in-loop-k c = omega (arith)

pub holds_all-requires-clause-short : goal.holds_all-requires-clause-short
holds_all-requires-clause-short c = assumption arith

pub returns-after-loop-k : goal.returns-after-loop-k
returns-after-loop-k c = search (rules, all_runs, no_runs)

pub returns-then-holds_all : goal.returns-then-holds_all
returns-then-holds_all c = grind (arith)
