use Rattle.std.proofs.Common.{rules, ap, sym, ◌∙◌}
use Rattle.cam_station.specs.TileTables.{touched_in}
use Rattle.cam_station.proofs.KeptTouches.{last_in_group, last_in_past}
use Rattle.cam_station.proofs.touching.touch_accepted.Goals as goal

pub returns-in-Some : goal.returns-in-Some
returns-in-Some c =
    let same = last_in_group c.args.history.now c.in-Some.group.now c.saturating_sub.result (search rules) (search rules) in
    c.touch.ensures ∙ ap (λ t. touched_in t c.args.rasters.now) (sym same)

pub returns-in-None : goal.returns-in-None
returns-in-None c = search (rules, last_in_past)
