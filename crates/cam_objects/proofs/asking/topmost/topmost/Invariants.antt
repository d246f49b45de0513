use Rattle.std.proofs.Common.{◌≤◌, length}
use Rattle.cam_objects.proofs.Topmost.{AreBareFrom}
use Rattle.cam_objects.proofs.asking.topmost.topmost.Given as goal

abbrev pub invariant-loop-end : goal.invariant-loop-end
invariant-loop-end g l =
    let lists = g.A.AskedItems.lists in record {
      under : l.end ≤ l.fn.before;
      listed : l.end ≤ length (lists l.fn.items);
      bare : AreBareFrom (lists l.fn.items) l.fn.at l.end l.fn.before;
    }

abbrev pub decreases-loop-end : goal.decreases-loop-end
decreases-loop-end g l = l.end
