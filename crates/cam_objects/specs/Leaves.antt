-- Leaves: what a layer paints, one shape after another, with blocks and repeats unfolded (Gerber Layer Format
-- Specification, "Block Aperture (AB)", "Step and Repeat (SR)" and "Aperture transformations (LP, LM, LR, LS)").
use Rattle.std.specs.Prelude.{ℕ, nat_eq, Bool, true, false, not, if◌then◌else◌, ℤ, pos, ◌*ℤ◌, List, [], ◌∷◌, reverse, Option, None, Some}
use Rattle.std.specs.List.{flat_map, range_with_len}
use Rattle.std.specs.Ordering.{int_eq}
use Rattle.cam_units.specs.declared.length.Nm.{Nm}
use Rattle.cam_units.specs.declared.point.Point.{Point}
use Rattle.cam_units.specs.declared.turn.Turn.{Turn}
use Rattle.cam_units.specs.declared.turn.Turn.TheVariants.{R0}
use Rattle.cam_shapes.specs.declared.arc.Arc.{Arc as ArcStroke}
use Rattle.cam_shapes.specs.declared.capsule.Capsule.{Capsule}
use Rattle.cam_shapes.specs.declared.contour.Contour.{Contour}
use Rattle.cam_shapes.specs.declared.disc.Disc.{Disc}
use Rattle.cam_shapes.specs.declared.swept.Swept.{Swept as SweptRectangle}
use Rattle.cam_shapes.specs.Placing.{placed_contour, placed_direction, placed_point}
use Rattle.cam_apertures.specs.declared.aperture.Aperture.{Aperture as Template}
use Rattle.cam_apertures.specs.declared.aperture.Aperture.TheVariants.{Circle, Rect, Obround, Prims}
use Rattle.cam_apertures.specs.Turned.{turned_height, turned_width}
use Rattle.cam_objects.specs.declared.object.Object.{Object}
use Rattle.cam_objects.specs.declared.object.Object.TheVariants.{Flash, Draw, Arc, Region}
use Rattle.cam_objects.specs.declared.entry.Entry.{Entry}
use Rattle.cam_objects.specs.declared.entry.Entry.TheVariants.{Aperture, Block}
use Rattle.cam_objects.specs.declared.item.Item.{Item}
use Rattle.cam_objects.specs.declared.item.Item.TheVariants.{One, Repeat}
use Rattle.cam_objects.specs.declared.placing.place.Place.{Place}
use Rattle.cam_objects.specs.declared.tip.Tip.{Tip}
use Rattle.cam_objects.specs.declared.tip.Tip.TheVariants.{Round, Rectangular}
use Rattle.cam_objects.specs.Turning.{after}

-- what one leaf covers, where it is painted: an aperture, turned, at a point; the stroke of a round tool along a
-- line or an arc, or of a rectangle along a line; the inside of a contour; a drilled disc
pub data Shape : Type 0 where
  Stamp : Template → Turn → Point → Shape
  Stroke : Capsule → Shape
  Swept : SweptRectangle → Shape
  Sweep : ArcStroke → Shape
  Filled : Contour → Shape
  Drilled : Disc → Shape

-- a shape that darkens or clears what it covers
pub record Leaf : Type 0 where
  pub shape : Shape
  pub dark : Bool

abbrev pub leaf : Shape → Bool → Leaf
leaf shape dark = record { shape = shape; dark = dark }

-- ---- places

-- a layer's own objects are painted as they stand
abbrev pub origin : Place
origin = record { turn = R0; offset = record { x = pos 0; y = pos 0 }; dark = true }

-- and those of a copy, shifted by so many nm
abbrev pub shifted : ℤ → ℤ → Place
shifted dx dy = record { turn = R0; offset = record { x = dx; y = dy }; dark = true }

-- the polarity of an object in a dark place is its own, and in a clear one the other
abbrev pub polarity_in : Bool → Bool → Bool
polarity_in true dark = dark
polarity_in false dark = not dark

-- a point, turned with its place and then moved
abbrev pub placed : Place → Point → Point
placed p at = placed_point p.turn p.offset at

-- the place of what a flash paints
abbrev pub flashed : Place → Point → Turn → Bool → Place
flashed p at t dark = record { turn = after t p.turn; offset = placed p at; dark = polarity_in p.dark dark }

-- ---- the dictionary

-- what a number stands for in a dictionary that has its newest entry first: what its entry means where the
-- older numbers mean what they do
module _ {M : Type 0} (nothing : M) (means : (ℕ → M) → Entry → M) where
  abbrev pub stands_for : List (ℕ × Entry) → ℕ → M
  stands_for [] n = nothing
  stands_for (e ∷ older) n = if nat_eq e.0 n then means (stands_for older) e.1 else stands_for older n

-- what a flash of a number paints at a place, and what its strokes are drawn with: a block has no tip, and no
-- aperture that is neither a solid circle nor a solid rectangle
pub record Meaning : Type 0 where
  pub flash : Place → List Leaf
  pub tip : Option Tip

abbrev pub no_meaning : Meaning
no_meaning = record { flash = λ p. []; tip = None }

-- a solid circle, or a solid rectangle (Gerber Layer Format Specification, "Deprecated usage": draws with rectangular
-- apertures), as a tip
abbrev pub solid_tip : Template → Option Tip
solid_tip (Circle diameter hole) = if int_eq hole.0 (pos 0) then Some (Round diameter) else None
solid_tip (Rect width height hole) = if int_eq hole.0 (pos 0) then Some (Rectangular width height) else None
solid_tip (Obround width height hole) = None
solid_tip (Prims prims) = None

-- how wide a round tip is: arcs are drawn with no other
abbrev pub round_width : Option Tip → Option Nm
round_width None = None
round_width (Some (Round width)) = Some width
round_width (Some (Rectangular width height)) = None

-- a tip, mirrored and turned: a quarter turn exchanges the sides of a rectangle
abbrev pub turned_tip : Turn → Tip → Tip
turned_tip t (Round width) = Round width
turned_tip t (Rectangular width height) = Rectangular (turned_width t width height) (turned_height t width height)

-- what a straight stroke of a tip covers, as the tip stands
abbrev pub drawn : Tip → Point → Point → Shape
drawn (Round width) from to = Stroke (record { from = from; to = to; width = width })
drawn (Rectangular width height) from to = Swept (record { from = from; to = to; width = width; height = height })

-- a straight stroke of a tip that is turned so, or none
abbrev pub draw_leaves : Option Tip → Turn → Point → Point → Bool → List Leaf
draw_leaves None t from to dark = []
draw_leaves (Some tip) t from to dark = leaf (drawn (turned_tip t tip) from to) dark ∷ []

-- an arc of a width, or none
abbrev pub arc_leaves : Option Nm → Point → Point → Point → Bool → Bool → List Leaf
arc_leaves None from to centre ccw dark = []
arc_leaves (Some width) from to centre ccw dark =
    leaf (Sweep (record { from = from; to = to; centre = centre; ccw = ccw; width = width })) dark ∷ []

-- ---- objects and items, where each number means what it does

module _ (means : ℕ → Meaning) where
  -- what an object paints at a place: the tip of a draw is turned with the draw and then with the place, and a mirror
  -- reverses arcs
  abbrev pub object_leaves : Place → Object → List Leaf
  object_leaves p (Flash n at t dark) = (means n).flash (flashed p at t dark)
  object_leaves p (Draw n from to t dark) =
      draw_leaves (means n).tip (after t p.turn) (placed p from) (placed p to) (polarity_in p.dark dark)
  object_leaves p (Arc ccw dark n from to centre) =
      arc_leaves (round_width (means n).tip) (placed p from) (placed p to) (placed p centre) (placed_direction p.turn ccw)
      (polarity_in p.dark dark)
  object_leaves p (Region contour dark) =
      leaf (Filled (placed_contour p.turn p.offset contour)) (polarity_in p.dark dark) ∷ []

  -- the objects of a block or of a copy, in order
  abbrev pub block_leaves : Place → List Object → List Leaf
  block_leaves p objects = flat_map (object_leaves p) objects

  abbrev pub entry_meaning : Entry → Meaning
  entry_meaning (Aperture a) = record {
    flash = λ p. leaf (Stamp a p.turn p.offset) p.dark ∷ [];
    tip = solid_tip a;
  }
  entry_meaning (Block objects) = record { flash = λ p. block_leaves p objects; tip = None }

  -- the copies of one column, row by row
  abbrev pub column_leaves : ℤ → ℕ → ℤ → List Object → List Leaf
  column_leaves dx rows j objects =
      flat_map (λ r. block_leaves (shifted dx (pos r *ℤ j)) objects) (range_with_len 0 rows)

  -- column by column
  abbrev pub repeat_leaves : ℕ → ℕ → ℤ → ℤ → List Object → List Leaf
  repeat_leaves columns rows i j objects =
      flat_map (λ c. column_leaves (pos c *ℤ i) rows j objects) (range_with_len 0 columns)

  abbrev pub item_leaves : Item → List Leaf
  item_leaves (One object) = object_leaves origin object
  item_leaves (Repeat columns rows i j objects) = repeat_leaves columns rows i j objects

-- a block's objects name older entries
abbrev pub meaning : List (ℕ × Entry) → ℕ → Meaning
meaning = stands_for no_meaning entry_meaning

-- what the numbers of a dictionary stand for
abbrev pub meaning_in : List (ℕ × Entry) → ℕ → Meaning
meaning_in entries = meaning (reverse entries)

-- what a layer paints, its items in order
abbrev pub leaves_of : List (ℕ × Entry) → List Item → List Leaf
leaves_of entries items = flat_map (item_leaves (meaning_in entries)) items
