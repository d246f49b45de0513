use Rattle.std.proofs.Common.{sym, ◌∙◌}
use Rattle.cam_objects.proofs.SoundItems.{meets_drill}
use Rattle.cam_objects.proofs.SoundTools.{tool_size}
use Rattle.cam_edits.proofs.touched.bounds_with_tool.Goals as goal

pub bounds-requires-clause-points : goal.bounds-requires-clause-points
bounds-requires-clause-points c = (meets_drill c.args.layer.now.tools c.args.item.now c.requires.item).inside

pub bounds-requires-clause-diameter : goal.bounds-requires-clause-diameter
bounds-requires-clause-diameter c =
    tool_size c.args.layer.now.tools c.args.t c.in-Some.diameter c.requires.sound.tools
    (sym c.get.ensures ∙ c.in-Some.is)
