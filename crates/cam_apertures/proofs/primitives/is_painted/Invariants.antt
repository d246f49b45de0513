use Rattle.std.proofs.Common.{◌≤◌, ◌↔◌, length, map, take}
use Rattle.cam_apertures.specs.Cover.{IsExposed}
use Rattle.cam_apertures.specs.Turned.{turned_prim}
use Rattle.cam_apertures.proofs.primitives.is_painted.Given as goal

-- the primitives from this place on do not hold the place
abbrev pub invariant-loop-place : goal.invariant-loop-place
invariant-loop-place l = record {
  here : l.place ≤ length l.prims;
  same : IsExposed (map (turned_prim l.turn) (take l.place l.prims)) l.spot ↔ IsExposed (map (turned_prim l.turn) l.prims) l.spot;
}
