use Rattle.std.proofs.Common.{◌≡◌, map, take}
use Rattle.cam_apertures.specs.Cover.{IsExposed}
use Rattle.cam_apertures.specs.Turned.{turned_prim}
use Rattle.cam_objects.specs.Image.{relative}
use Rattle.cam_tiles.proofs.Joined.{Shows}
use Rattle.cam_tiles.proofs.masks.mask.Mask.primitives.Given as goal

-- what the primitives so far paint
abbrev pub invariant-loop-place : goal.invariant-loop-place
invariant-loop-place l = record {
  grid : l.own.grid ≡ l.self.grid;
  shown : Shows
      (λ s. IsExposed (map (turned_prim l.turn) (take l.place l.prims)) (relative l.at s)) l.own;
}
