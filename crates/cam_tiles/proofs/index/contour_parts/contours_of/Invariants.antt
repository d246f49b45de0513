use Rattle.std.proofs.Common.{◌≡◌, ◌≤◌, length, map}
use Rattle.std.specs.List.{All}
use Rattle.cam_tiles.specs.Machinery.Parts.{IsPartsOf, bare}
use Rattle.cam_tiles.specs.Machinery.Shown.{leaves_by_item}
use Rattle.cam_tiles.proofs.index.contour_parts.contours_of.Given as goal

abbrev pub invariant-loop-k : goal.invariant-loop-k
invariant-loop-k l = record {
  few : length l.contours.items ≤ l.k;
  parts : All (IsPartsOf (leaves_by_item l.shown)) l.contours.items;
  kept : map bare l.boxed ≡ map bare l.fn.boxed;
}
