-- What sheets paint.
use Rattle.std.specs.Prelude.{Bool, List}
use Rattle.cam_units.specs.declared.point.Spot.{Spot}
use Rattle.cam_objects.specs.Contents.{content_leaves, drill_content_leaves}
use Rattle.cam_objects.specs.Leaves.{Leaf}
use Rattle.cam_objects.specs.Tests.{is_black}
use Rattle.cam_edits.specs.Sheets.{Content, Gerber, Drill}

-- what it paints, in order
abbrev pub sheet_leaves : Content → List Leaf
sheet_leaves (Gerber c) = content_leaves c
sheet_leaves (Drill c) = drill_content_leaves c

-- the image, as a test of places: painting in order
abbrev pub image_of : Content → Spot → Bool
image_of c s = is_black (sheet_leaves c) s
