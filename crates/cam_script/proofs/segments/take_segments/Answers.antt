use Rattle.cam_script.specs.Items.{segs_in}
use Rattle.cam_script.proofs.Parts.{reads_none, reads_one, reads_all}
use Rattle.cam_script.proofs.segments.take_segments.Goals as goal

pub loop-seg-init : goal.loop-seg-init
loop-seg-init c = rw c.in-Ok.ensures.items (reads_none (segs_in c.args.words.now))

pub loop-seg-preserved : goal.loop-seg-preserved
loop-seg-preserved c =
    rw c.in-Ok-push.ensures.items
    (reads_one (segs_in c.args.words.now) (segs_in c.loop-seg.words) (segs_in c.next_seg.new.words) c.in-Some.seg
    c.loop-seg.segs.items c.loop-seg.invariant c.in-Some.ensures.some)

pub returns-clause-ok : goal.returns-clause-ok
returns-clause-ok c =
    rw c.from_vec.ensures
    (reads_all (segs_in c.args.words.now) (segs_in c.loop-seg.words) c.loop-seg.segs.items c.args.count
    c.loop-seg.invariant c.requires c.in_default-next_seg.ensures.none)
