use Rattle.std.proofs.Common.{◌≡◌}
use Rattle.cam_tiles.specs.Machinery.Indexes.{AreSeenBy, IsBegunBy}
use Rattle.cam_tiles.specs.Machinery.Shown.{leaves_by_item, lists_of}
use Rattle.cam_tiles.proofs.index.seen.Seen.look.Given as goal

abbrev pub invariant-loop-self : goal.invariant-loop-self
invariant-loop-self l = record {
  seen : AreSeenBy (leaves_by_item l.shown) l.window l.self;
  begun : IsBegunBy l.fn.self l.self;
  lists : lists_of l.boxes ≡ leaves_by_item l.shown;
}

abbrev pub decreases-loop-self : goal.decreases-loop-self
decreases-loop-self l = l.self.left
