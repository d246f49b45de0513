use Rattle.std.proofs.Common.{◌<◌, length, refl, rules, arith}
use Rattle.std.proofs.lemmas.Grind.{common_steps}
use Rattle.cam_gerber.proofs.Innermost.{made_in_block}
use Rattle.cam_gerber.proofs.running.Running.keep.Goals as goal

pub returns-in-Some : goal.returns-in-Some
returns-in-Some c = record {
  modal = refl;
  region = refl;
  attributes = refl;
  alloc = refl;
  places = λ past says none t maker is count room.
      let some : 0 < length c.args.self.now.frames.blocks.items = search rules in
      made_in_block past says c.args.self.now c.args.object c.args.leaves c.saturating_add-block.result c.in-Some.block.now
      c.push.new.self _ none t maker is count room some
      c.in-Some.ensures.value c.in_ok-push.ensures c.saturating_add-block.ensures refl;
}

pub returns-in-Some-repeat : goal.returns-in-Some-repeat
returns-in-Some-repeat c = grind (arith, common_steps)

pub returns : goal.returns
returns c = grind (arith)
