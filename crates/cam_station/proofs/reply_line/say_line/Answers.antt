use Rattle.std.proofs.Common.{arith}
use Rattle.std.proofs.lemmas.Grind.{common_steps}
use Rattle.cam_station.proofs.Saying.{word_said, number_said}
use Rattle.cam_station.proofs.reply_line.say_line.Goals as goal

pub loop-number-init : goal.loop-number-init
loop-number-init g c =
    record {
      said = word_said (g.O.Out.said c.args.out.now) (g.O.Out.said c.say.new.self) c.args.word.now c.if-not-say.ensures.said;
      counted = c.if-not-say.ensures.counted;
    }

pub loop-number-preserved : goal.loop-number-preserved
loop-number-preserved g c =
    record {
      said = number_said (g.O.Out.said c.args.out.now) (g.O.Out.said c.loop-number.out)
          (g.O.Out.said c.say_number.new.out) c.args.word.now c.args.numbers.now
          c.loop-number.number-index c.loop-number-test.true c.loop-number.invariant.said c.if-not-say_number.ensures.said;
      counted = omega (arith, c.loop-number.invariant.counted, c.if-not-say_number.ensures.counted);
    }

pub returns-clause-said : goal.returns-clause-said
returns-clause-said c = grind (arith, common_steps)

pub returns-then-not-say_number-clause-counted : goal.returns-then-not-say_number-clause-counted
returns-then-not-say_number-clause-counted c = grind (arith)

pub returns-clause-counted : goal.returns-clause-counted
returns-clause-counted c = grind (arith)
