use Rattle.std.proofs.Common.{rules, ◌++◌, ◌∷◌, []}
use Rattle.cam_objects.specs.DrillSoundness.{IsSoundDrillItem, KeepsDrillLimits}
use Rattle.known_answers.proofs.drills.add_item.Goals as goal

pub returns : goal.returns
returns c =
    let l = c.args.layer.now in
    let m = c.push.new.self in
    let sound : IsSoundDrillItem l.tools c.args.item = search rules in
    let room : KeepsDrillLimits (l.items.items ++ c.args.item ∷ []) = search rules in
    c.drill_layers_stay_sound.ensures.growth.push l m c.args.item c.requires sound room c.in_ok-push.ensures.tools c.in_ok-push.ensures.ok
