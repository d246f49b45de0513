use Rattle.std.proofs.Common.{rules, ◌≡◌}
use Rattle.cam_objects.specs.DrillSoundness.{MayAddTool}
use Rattle.known_answers.proofs.drills.add_tool.Goals as goal

pub returns : goal.returns
returns c =
    let l = c.args.layer.now in
    let m = c.add_tool.new.self in
    let may : MayAddTool l.tools c.args.tool c.args.diameter = search rules in
    let same : m.items.items ≡ l.items.items = search rules in
    c.drill_layers_stay_sound.ensures.growth.add_tool l m c.args.tool c.args.diameter c.requires may c.in_ok-add_tool.ensures.ok same
