use Rattle.std.proofs.Common.{arith, ◌∙◌, ap}
use Rattle.std.proofs.lemmas.Grind.{common_steps}
use Rattle.cam_objects.specs.Contents.{content_of}
use Rattle.cam_gerber.specs.Computing.{reading_of}
use Rattle.cam_writers.specs.Phrases.{spelled}
use Rattle.cam_writers.proofs.GerberReadingBack.{gerber_reads_back}
use Rattle.cam_writers.proofs.GerberTracks.{ended, entry_points, item_points}
use Rattle.cam_writers.proofs.gerber_layers.gerber_text.Goals as goal

pub write_entries-requires : goal.write_entries-requires
write_entries-requires c = grind (arith, entry_points)

pub write_item-requires : goal.write_item-requires
write_item-requires c =
    item_points c.args.layer.now.apertures c.items-item-items.result.now c.args.layer.now.items.items
    c.loop-item.item-index c.item-item.result c.requires.content c.items-item-items.ensures c.loop-item-test.true
    c.item-item.is

pub returns-clause-text : goal.returns-clause-text
unfolding spelled
returns-clause-text c =
    ended c.args.layer.now.attributes.items c.args.layer.now.apertures c.items-item-items.result.now c.args.layer.now.items.items
    c.loop-item.item-index c.loop-item.written c.push_word.new.text c.loop-item.invariant c.loop-item-test.false
    c.items-item-items.ensures c.in_ok-push_word.ensures

pub returns-clause-reads_back : goal.returns-clause-reads_back
returns-clause-reads_back c =
    ap reading_of (returns-clause-text c)
    ∙ gerber_reads_back (content_of c.args.layer.now) c.requires.attributes c.requires.content

pub loop-item-preserved : goal.loop-item-preserved
loop-item-preserved c = grind (arith, common_steps)
