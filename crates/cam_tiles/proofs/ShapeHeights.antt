-- What a shape holds lies between its heights.
use Rattle.std.proofs.Common.{rules, ◌*◌, ℤ, pos, ◌<ℤ◌, IsTrue, arith}
use Rattle.std.proofs.lemmas.Int.{ints, clamps}
use Rattle.cam_units.specs.Boxes.{Holds}
use Rattle.cam_units.specs.declared.length.Nm.{Nm}
use Rattle.cam_units.specs.declared.point.Point.{Point}
use Rattle.cam_units.specs.declared.point.Spot.{Spot}
use Rattle.cam_shapes.specs.declared.disc.Disc.{Disc}
use Rattle.cam_shapes.specs.declared.rectangle.Rectangle.{Rectangle}
use Rattle.cam_shapes.specs.declared.obround.Obround.{Obround}
use Rattle.cam_shapes.specs.declared.bar.Bar.{Bar}
use Rattle.cam_shapes.specs.declared.swept.Swept.{Swept}
use Rattle.cam_shapes.specs.declared.cap.Cap.{Cap}
use Rattle.cam_shapes.specs.Bar.{IsInBar}
use Rattle.cam_shapes.specs.Box.{IsInObround, IsInRectangle}
use Rattle.cam_shapes.specs.Cap.{is_in_cap}
use Rattle.cam_shapes.specs.Disc.{IsInDisc, IsInHole}
use Rattle.cam_shapes.specs.Plane.{dot, place_of, square, way}
use Rattle.cam_shapes.specs.Swept.{IsInSwept}
use Rattle.cam_shapes.proofs.Caps.{cap_square}
use Rattle.cam_shapes.proofs.Strokes.{natural_or_not}
use Rattle.cam_apertures.specs.Primitives.{box_about}
use Rattle.cam_apertures.proofs.ShapeBoxes.{bar_span, disc_box, less_at_most, obround_box, rectangle_box, within_box}
use Rattle.cam_tiles.specs.declared.masks.heights.Heights.{Heights}
use Rattle.cam_tiles.specs.Machinery.Masks.{AreAbout, AreAlong, IsWithin}

in_box : (p : Point) (w r : ℤ) (h : Heights) → AreAbout p r h → (s : Spot) → Holds (box_about (place_of p) w r) s
    → IsWithin h s
in_box p w r h a s on = (omega (arith, ints, a.low, on.below), omega (arith, ints, a.high, on.above))

pub in_disc : (d : Disc) (h : Heights) → AreAbout d.centre d.diameter.0 h → (s : Spot) → IsInDisc s d → IsWithin h s
in_disc d h a s on = in_box d.centre d.diameter.0 d.diameter.0 h a s (disc_box d.centre s d.diameter on)

pub in_hole : (d : Disc) (h : Heights) → AreAbout d.centre d.diameter.0 h → (s : Spot) → IsInHole s d → IsWithin h s
in_hole d h a s on = search (rules, in_disc, less_at_most)

pub in_rectangle : (r : Rectangle) (h : Heights) → AreAbout r.centre r.height.0 h
    → (s : Spot) → IsInRectangle s r → IsWithin h s
in_rectangle r h a s on = in_box r.centre r.width.0 r.height.0 h a s (rectangle_box r.centre s r.width r.height on)

pub in_obround : (o : Obround) (h : Heights) → AreAbout o.centre o.height.0 h
    → (s : Spot) → IsInObround s o → IsWithin h s
in_obround o h a s on = in_box o.centre o.width.0 o.height.0 h a s (obround_box o.centre s o.width o.height on)

-- ---- ways

-- in a disc about an end of a way, or beside it
module _ (p q : Point) (w : Nm) (h : Heights) (a : AreAlong p q w.0 h) (s : Spot) where
  beside : IsInBar s (record { from = p; to = q; width = w }) → IsWithin h s
  beside on =
      let b = bar_span p q w s on in
      (omega (arith, ints, clamps, a.low, b.below), omega (arith, ints, clamps, a.high, b.above))

pub in_bar : (b : Bar) (h : Heights) → AreAlong b.from b.to b.width.0 h → (s : Spot) → IsInBar s b → IsWithin h s
in_bar b h a s on = beside b.from b.to b.width h a s on

pub in_swept : (r : Swept) (h : Heights) → AreAlong r.from r.to r.height.0 h
    → (s : Spot) → IsInSwept s r → IsWithin h s
in_swept r h a s on =
    (omega (arith, ints, clamps, a.low, on.boxed.below), omega (arith, ints, clamps, a.high, on.boxed.above))

-- ---- circles

-- the square of the radius of the circle about a point through another
abbrev pub squared_radius : Point → Point → ℤ
squared_radius centre from = dot (way centre from) (way centre from)

pub in_cap : (c : Cap) (r : ℤ) (h : Heights) → squared_radius c.centre c.from <ℤ square r → pos 0 <ℤ r
    → AreAbout c.centre r h → (s : Spot) → IsTrue (is_in_cap s c) → IsWithin h s
in_cap c r h past some a s on =
    let n = natural_or_not r some in
    let room = less_at_most (squared_radius c.centre c.from) (pos (n.0 * n.0)) (rw n.1 at past) in
    let k = cap_square s c n.0 room on in
    in_box c.centre r r h a s (within_box c.centre s r r (rw n.1 k.across) (rw n.1 k.along))
