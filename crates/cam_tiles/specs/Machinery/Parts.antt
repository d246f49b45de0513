-- Contours by parts: so many segments one after another, and the heights between which these change the side of a place.
use Rattle.std.specs.Prelude.{◌≡◌, min, Bool, false, IsTrue, List, [], ◌∷◌, All, drop, length, take}
use Rattle.std.specs.List.{slice_index_or}
use Rattle.cam_units.specs.Board.{IsOnBoard}
use Rattle.cam_units.specs.declared.point.Point.{Point}
use Rattle.cam_units.specs.declared.point.Spot.{Spot}
use Rattle.cam_shapes.specs.declared.contour.Contour.{Contour}
use Rattle.cam_shapes.specs.declared.segments.Seg.{Seg}
use Rattle.cam_shapes.specs.Contour.{IsSoundSeg, end_of}
use Rattle.cam_shapes.specs.Sides.{changes_side, differ}
use Rattle.cam_objects.specs.Leaves.{Filled, Leaf, leaf}
use Rattle.cam_tiles.specs.declared.index.Boxed.{Boxed}
use Rattle.cam_tiles.specs.declared.index.contour_parts.ContourParts.{ContourParts}
use Rattle.cam_tiles.specs.declared.masks.heights.Heights.{Heights}
use Rattle.cam_tiles.specs.Machinery.Masks.{IsWithin}

-- a contour whose points lie on the board
pub record IsSoundContour (c : Contour) : Type 0 where
  pub start : IsOnBoard c.start
  pub segs : All IsSoundSeg c.segs

-- where segments from a point end
abbrev pub end_from : Point → List Seg → Point
end_from here [] = here
end_from here (seg ∷ segs) = end_from (end_of seg) segs

-- the segments from a point change the side; no line closes them
abbrev pub change_sides : Spot → Point → List Seg → Bool
change_sides s here [] = false
change_sides s here (seg ∷ segs) = differ (changes_side s here seg) (change_sides s (end_of seg) segs)

-- they change the side of no place that does not lie between two heights
abbrev pub ChangeWithin : Heights → Point → List Seg → Type 0
ChangeWithin h here segs = (s : Spot) → IsTrue (change_sides s here segs) → IsWithin h s

-- the first part of segments, and those behind it
unfoldable pub first_part : List Seg → List Seg
first_part segs = take (min (length segs) 32) segs

unfoldable pub behind_part : List Seg → List Seg
behind_part segs = drop (min (length segs) 32) segs

-- the heights of the first parts of segments from a point, one part after another
abbrev pub AreHeightsOf : Point → List Seg → List Heights → Type 0
AreHeightsOf here segs [] = Unit {0}
AreHeightsOf here segs (h ∷ heights) =
    ChangeWithin h here (first_part segs) × AreHeightsOf (end_from here (first_part segs)) (behind_part segs) heights

-- a contour on the board, and the heights of its parts
pub record IsParted (c : Contour) (heights : List Heights) : Type 0 where
  pub sound : IsSoundContour c
  pub each : AreHeightsOf c.start c.segs heights

-- where the leaves at a place of the lists are one contour, the heights of its parts are known
abbrev pub IsPartsOf : List (List Leaf) → ContourParts → Type 0
IsPartsOf lists parts =
    (c : Contour) (dark : Bool) → slice_index_or lists parts.place [] ≡ leaf (Filled c) dark ∷ []
    → AreHeightsOf c.start c.segs parts.heights.items

-- a box by itself, without the number of its contour
abbrev pub bare : Boxed → Boxed
bare b = record b { contour = 0 }
