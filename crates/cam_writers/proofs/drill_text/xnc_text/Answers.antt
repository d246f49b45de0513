use Rattle.std.proofs.Common.{◌∙◌, ap, arith}
use Rattle.std.proofs.lemmas.Grind.{common_steps}
use Rattle.cam_objects.proofs.SoundItems.{meets_drill}
use Rattle.cam_objects.specs.Contents.{drill_content_of}
use Rattle.cam_objects.specs.DrillSoundness.{IsSoundDrillItem, tool_of}
use Rattle.cam_xnc.specs.Reading.{drill_reading_of}
use Rattle.cam_writers.proofs.InForce.{ended}
use Rattle.cam_writers.proofs.ReadingBack.{reads_back}
use Rattle.cam_writers.proofs.Standing.{known_in_range}
use Rattle.cam_writers.proofs.Walks.{sound_in}
use Rattle.cam_writers.proofs.drill_text.xnc_text.Goals as goal

pub write_item-requires : goal.write_item-requires
write_item-requires c =
    let tools = c.args.layer.now.tools in
    let item = c.item-item.result in
    let sound = sound_in (IsSoundDrillItem tools) c.deref-item-items.result.now c.args.layer.now.items.items c.loop-item.item-index item
    c.requires.items c.deref-item-items.ensures.value c.loop-item-test.true c.item-item.is in
    (known_in_range tools (tool_of item) c.requires.tools (meets_drill tools item sound).known).0

pub returns-clause-text : goal.returns-clause-text
returns-clause-text c =
    ended c.args.layer.now.tools c.deref-item-items.result.now c.args.layer.now.items.items c.loop-item.item-index
    c.loop-item.written c.push_line.new.text c.loop-item.invariant c.loop-item-test.false
    c.deref-item-items.ensures.value c.in_ok-push_line.ensures

pub returns-clause-reads_back : goal.returns-clause-reads_back
returns-clause-reads_back c = ap drill_reading_of (returns-clause-text c) ∙ reads_back (drill_content_of c.args.layer.now) c.requires

pub loop-item-preserved : goal.loop-item-preserved
loop-item-preserved c = grind (arith, common_steps)
