use Rattle.std.proofs.Common.{◌≡◌, take}
use Rattle.cam_objects.specs.Bounds.{bounds_of, box_of_all}
use Rattle.cam_objects.proofs.asking.whole.whole_box.Given as goal

abbrev pub invariant-loop-place : goal.invariant-loop-place
invariant-loop-place g l =
    let lists = g.A.AskedItems.lists in record {
      same : lists l.items ≡ lists l.fn.items;
      box : l.all ≡ box_of_all bounds_of (take l.place (lists l.fn.items));
    }
