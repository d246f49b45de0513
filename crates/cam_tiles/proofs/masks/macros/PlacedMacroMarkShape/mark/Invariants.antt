use Rattle.std.proofs.Common.{map, take}
use Rattle.cam_apertures.specs.Cover.{IsExposed}
use Rattle.cam_apertures.specs.Turned.{turned_prim}
use Rattle.cam_objects.specs.Image.{relative}
use Rattle.cam_tiles.specs.Machinery.Turning.{AreWide, MarksCentres}
use Rattle.cam_tiles.proofs.masks.macros.PlacedMacroMarkShape.mark.Given as goal

-- what the primitives so far paint is marked
abbrev pub invariant-loop-place : goal.invariant-loop-place
invariant-loop-place l = record {
  wide : AreWide l.columns l.marks;
  marked : MarksCentres l.grid l.columns
      (λ s. IsExposed (map (turned_prim l.self.turn) (take l.place l.self.prims.now)) (relative l.self.at s)) l.marks;
}
