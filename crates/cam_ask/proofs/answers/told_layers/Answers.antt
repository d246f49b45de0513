use Rattle.std.proofs.Common.{[], arith}
use Rattle.std.proofs.lemmas.Grind.{common_steps}
use Rattle.cam_ask.specs.Answers.{sheet_line}
use Rattle.cam_ask.proofs.Lists.{place_added}
use Rattle.cam_ask.proofs.answers.told_layers.Goals as goal

pub loop-place-preserved : goal.loop-place-preserved
loop-place-preserved c = record {
  text = place_added sheet_line c.args.station.now.timeline.document c.loop-place.place [] c.loop-place.text.items
      c.push_layer_at.new.text.items (omega (arith, c.loop-place-test.true, c.loop-place.invariant.end)) c.loop-place.invariant.text
      c.in_ok-push_layer_at.ensures;
  end = c.loop-place.invariant.end;
}

pub returns : goal.returns
returns c = grind (arith, common_steps)
