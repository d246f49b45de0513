use Rattle.std.proofs.Common.{◌≡◌, ◌≤◌, length, take}
use Rattle.cam_tiles.specs.Machinery.Indexes.{AreSeenBy, last_leaves}
use Rattle.cam_tiles.specs.Machinery.Shown.{leaves_by_item, lists_of}
use Rattle.cam_tiles.specs.Machinery.Swaths.{PaintsSwath}
use Rattle.cam_tiles.proofs.index.seen.Seen.paint.Given as goal

-- so many of the items that were found are painted
abbrev pub invariant-loop-number : goal.invariant-loop-number
invariant-loop-number l = record {
  seen : AreSeenBy (leaves_by_item l.shown) l.window l.self;
  within : l.self.within ≡ l.fn.self.within;
  lists : lists_of l.boxes ≡ leaves_by_item l.shown;
  found : l.number ≤ length l.self.boxed.items;
  painted : PaintsSwath l.fn.swath (last_leaves (leaves_by_item l.shown) l.row (take l.number l.self.boxed.items)) l.swath;
}
