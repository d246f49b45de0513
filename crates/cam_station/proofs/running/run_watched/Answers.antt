use Rattle.std.proofs.Common.{◌+◌, ◌∷◌, [], length, arith, ap, refl}
use Rattle.std.proofs.lemmas.Result.{err_from_is_err_and}
use Rattle.cam_station.specs.Run.{World, Moment, moment, turn}
use Rattle.cam_station.specs.Machinery.Lines.{TurnLeadsTo, ReplyIsUnsaid}
use Rattle.cam_script.proofs.Cutting.{few_lines}
use Rattle.cam_station.proofs.RunSteps.{at_count, counted_on, finishes_none, finishes_more, stops_here, stops_more}
use Rattle.cam_station.proofs.running.run_watched.Goals as goal

pub loop-line-init : goal.loop-line-init
loop-line-init g c =
    record {
      depth = c.in_ok-station.ensures.0;
      finishes = λ ws after h. (ws, rw (c.in_ok-station.ensures.1, c.new-lines.ensures) at h);
      stops = λ ws after h. (ws, rw (c.in_ok-station.ensures.1, c.new-lines.ensures) at h);
      few = rw c.new-lines.ensures (omega (arith, few_lines c.args.script.now));
    }

pub loop-line-preserved : goal.loop-line-preserved
loop-line-preserved g c =
    let before : Moment = moment (g.F.Files.contents c.loop-line.files) (g.F.Files.failed c.loop-line.files)
    (g.O.Out.said c.loop-line.out) (g.O.Out.failed c.loop-line.out) 0 in
    let between : Moment = moment (g.F.Files.contents c.serve_line.new.files) (g.F.Files.failed c.serve_line.new.files)
    (g.O.Out.said c.serve_line.new.out) (g.O.Out.failed c.serve_line.new.out) c.in_ok-count.count in
    let line : (w : World) × TurnLeadsTo (turn c.loop-line.station c.in-Some.line.now w) c.serve_line.new.station before between =
    c.in_ok-count.ensures.ok in
    let n = c.loop-line.refused in
    let leads = counted_on (turn c.loop-line.station c.in-Some.line.now line.0) c.serve_line.new.station before between n refl line.1 in
    record {
      depth = c.loop-line.invariant.depth;
      finishes = λ ws after h. c.loop-line.invariant.finishes (line.0 ∷ ws) after
          (rw c.in-Some.ensures.some (finishes_more c.loop-line.station c.in-Some.line.now c.next.new.self
          line.0 c.serve_line.new.station ws (at_count before n) (at_count between (n + c.in_ok-count.count)) after leads h));
      stops = λ ws after h. c.loop-line.invariant.stops (line.0 ∷ ws) after
          (rw c.in-Some.ensures.some (stops_more c.loop-line.station c.in-Some.line.now c.next.new.self
          line.0 c.serve_line.new.station ws (at_count before n) (at_count between (n + c.in_ok-count.count)) after leads h));
      few = omega (arith, ap length c.in-Some.ensures.some, c.loop-line.invariant.few, c.in_ok-count.ensures.bound);
    }

pub returns-clause-ok : goal.returns-clause-ok
returns-clause-ok g c =
    let now : Moment = moment (g.F.Files.contents c.loop-line.files) (g.F.Files.failed c.loop-line.files)
    (g.O.Out.said c.loop-line.out) (g.O.Out.failed c.loop-line.out) c.loop-line.refused in
    let all = c.loop-line.invariant.finishes [] now
    (rw (rw c.in_default.is at c.next.ensures.none).0 (finishes_none c.loop-line.station now)) in
    (c.loop-line.invariant.depth, all.0, all.1)

pub returns-in_err-count-clause-err : goal.returns-in_err-count-clause-err
returns-in_err-count-clause-err g c =
    let before : Moment = moment (g.F.Files.contents c.loop-line.files) (g.F.Files.failed c.loop-line.files)
    (g.O.Out.said c.loop-line.out) (g.O.Out.failed c.loop-line.out) 0 in
    let after : Moment = moment (g.F.Files.contents c.serve_line.new.files) (g.F.Files.failed c.serve_line.new.files)
    (g.O.Out.said c.serve_line.new.out) (g.O.Out.failed c.serve_line.new.out) 0 in
    let unsaid : (w : World) × ReplyIsUnsaid (turn c.loop-line.station c.in-Some.line.now w) before after =
    c.in_err-count.ensures.stops in
    let here : ReplyIsUnsaid (turn c.loop-line.station c.in-Some.line.now unsaid.0) (at_count before c.loop-line.refused) after =
    record { replied = unsaid.1.replied; files = unsaid.1.files; out_failures = unsaid.1.out_failures } in
    let all = c.loop-line.invariant.stops (unsaid.0 ∷ []) after
    (rw c.in-Some.ensures.some (stops_here c.loop-line.station c.in-Some.line.now c.next.new.self unsaid.0
    (at_count before c.loop-line.refused) after here)) in
    let told = err_from_is_err_and c.from_residual-in_err-count.result c.from_residual-in_err-count.ensures.1 in
    rw (told.1, told.2, c.in_err-count.ensures.output) (c.loop-line.invariant.depth, all.0, all.1)

pub loop-line-smaller : goal.loop-line-smaller
loop-line-smaller c = grind (arith)

pub returns-clause-err : goal.returns-clause-err
returns-clause-err c = assumption arith

pub same-station : goal.same-station
same-station c = grind (arith)
